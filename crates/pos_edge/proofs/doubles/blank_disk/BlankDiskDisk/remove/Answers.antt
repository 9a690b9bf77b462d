-- It meets the contract by its counts and sizes.
use Rattle.std.proofs.Common.{arith, Ok}
use Rattle.pos_edge.specs.BlankDisks.{quiet_of}
use Rattle.pos_edge.specs.Quiet.{QuietRemoves}
use Rattle.pos_edge.proofs.Quiets.{quiet_images, quiet_left, remove_ends, remove_kept, remove_ok, remove_reads, quiet_live}
use Rattle.pos_edge.proofs.doubles.blank_disk.BlankDiskDisk.remove.Goals as goal

pub returns-clause-kept : goal.returns-clause-kept
returns-clause-kept c =
    let s = quiet_live _ c.requires.live in
    let g : QuietRemoves (quiet_of c.args.self.now) c.args.file.0 (Ok tt) (quiet_of c.take.new.self) = (record { faults = omega arith; reads = c.take.ensures.reads }, c.take.ensures.sizes) in
    remove_kept (quiet_of c.args.self.now) (quiet_of c.take.new.self) c.args.file.0 s.0 s.1 (Ok tt) g

pub returns-clause-reads : goal.returns-clause-reads
returns-clause-reads c =
    let s = quiet_live _ c.requires.live in
    let g : QuietRemoves (quiet_of c.args.self.now) c.args.file.0 (Ok tt) (quiet_of c.take.new.self) = (record { faults = omega arith; reads = c.take.ensures.reads }, c.take.ensures.sizes) in
    remove_reads (quiet_of c.args.self.now) (quiet_of c.take.new.self) c.args.file.0 s.0 s.1 (Ok tt) g

pub returns-clause-ends : goal.returns-clause-ends
returns-clause-ends c =
    let s = quiet_live _ c.requires.live in
    let g : QuietRemoves (quiet_of c.args.self.now) c.args.file.0 (Ok tt) (quiet_of c.take.new.self) = (record { faults = omega arith; reads = c.take.ensures.reads }, c.take.ensures.sizes) in
    remove_ends (quiet_of c.args.self.now) (quiet_of c.take.new.self) c.args.file.0 s.0 s.1 (Ok tt) g

pub returns-clause-images : goal.returns-clause-images
returns-clause-images c =
    let s = quiet_live _ c.requires.live in
    quiet_images (quiet_of c.args.self.now) (quiet_of c.take.new.self) c.args.file.0 s.0 s.1 _

pub returns-clause-ok : goal.returns-clause-ok
returns-clause-ok c =
    let s = quiet_live _ c.requires.live in
    remove_ok (quiet_of c.args.self.now) (quiet_of c.take.new.self) c.args.file.0 s.0 s.1 (Ok tt)

pub returns-clause-left : goal.returns-clause-left
returns-clause-left c =
    let s = quiet_live _ c.requires.live in
    quiet_left (quiet_of c.args.self.now) (quiet_of c.take.new.self) c.args.file.0 s.0 s.1
