-- It meets the contract by its counts and sizes.
use Rattle.std.proofs.Common.{◌+◌, length, arith, Ok}
use Rattle.pos_edge.specs.BlankDisks.{quiet_of}
use Rattle.pos_edge.specs.Quiet.{QuietWrites}
use Rattle.pos_edge.proofs.Quiets.{quiet_images, write_ids, write_kept, write_ok, write_reads, quiet_live}
use Rattle.pos_edge.proofs.doubles.blank_disk.BlankDiskDisk.write_at.Goals as goal

pub returns-clause-kept : goal.returns-clause-kept
returns-clause-kept c =
    let s = quiet_live _ c.requires.live in
    let g : QuietWrites (quiet_of c.args.self.now) c.args.file.0 s.0 (c.args.at + length c.args.bytes.now) (Ok tt) (quiet_of c.write.new.self) = (record { faults = omega arith; reads = c.write.ensures.reads }, c.write.ensures.sizes s.0 s.1) in
    write_kept (quiet_of c.args.self.now) (quiet_of c.write.new.self) c.args.file.0 s.0 s.1 (c.args.at + length c.args.bytes.now) (Ok tt) g

pub returns-clause-reads : goal.returns-clause-reads
returns-clause-reads c =
    let s = quiet_live _ c.requires.live in
    let g : QuietWrites (quiet_of c.args.self.now) c.args.file.0 s.0 (c.args.at + length c.args.bytes.now) (Ok tt) (quiet_of c.write.new.self) = (record { faults = omega arith; reads = c.write.ensures.reads }, c.write.ensures.sizes s.0 s.1) in
    write_reads (quiet_of c.args.self.now) (quiet_of c.write.new.self) c.args.file.0 s.0 s.1 (c.args.at + length c.args.bytes.now) (Ok tt) g

pub returns-clause-ids : goal.returns-clause-ids
returns-clause-ids c =
    let s = quiet_live _ c.requires.live in
    let g : QuietWrites (quiet_of c.args.self.now) c.args.file.0 s.0 (c.args.at + length c.args.bytes.now) (Ok tt) (quiet_of c.write.new.self) = (record { faults = omega arith; reads = c.write.ensures.reads }, c.write.ensures.sizes s.0 s.1) in
    write_ids (quiet_of c.args.self.now) (quiet_of c.write.new.self) c.args.file.0 s.0 s.1 (c.args.at + length c.args.bytes.now) (Ok tt) g

pub returns-clause-images : goal.returns-clause-images
returns-clause-images c =
    let s = quiet_live _ c.requires.live in
    quiet_images (quiet_of c.args.self.now) (quiet_of c.write.new.self) c.args.file.0 s.0 s.1 _

pub returns-clause-ok : goal.returns-clause-ok
returns-clause-ok c =
    let s = quiet_live _ c.requires.live in
    let g : QuietWrites (quiet_of c.args.self.now) c.args.file.0 s.0 (c.args.at + length c.args.bytes.now) (Ok tt) (quiet_of c.write.new.self) = (record { faults = omega arith; reads = c.write.ensures.reads }, c.write.ensures.sizes s.0 s.1) in
    write_ok (quiet_of c.args.self.now) (quiet_of c.write.new.self) c.args.file.0 s.0 s.1 c.args.at c.args.bytes.now (Ok tt) g
