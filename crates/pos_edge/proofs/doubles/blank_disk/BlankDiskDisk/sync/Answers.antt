-- It meets the contract by its counts and sizes.
use Rattle.std.proofs.Common.{refl, arith, Ok}
use Rattle.pos_edge.specs.BlankDisks.{quiet_of}
use Rattle.pos_edge.specs.Quiet.{QuietSyncs}
use Rattle.pos_edge.proofs.Quiets.{quiet_contents, quiet_images, sync_ids, sync_kept, sync_ok, sync_reads, quiet_live}
use Rattle.pos_edge.proofs.doubles.blank_disk.BlankDiskDisk.sync.Goals as goal

pub returns-clause-kept : goal.returns-clause-kept
returns-clause-kept c =
    let s = quiet_live _ c.requires.live in
    let g : QuietSyncs (quiet_of c.args.self.now) (Ok tt) (quiet_of c.args.self.now) = (record { faults = omega arith; reads = refl }, refl) in
    sync_kept (quiet_of c.args.self.now) (quiet_of c.args.self.now) c.args._file.0 s.0 s.1 (Ok tt) g

pub returns-clause-reads : goal.returns-clause-reads
returns-clause-reads c =
    let s = quiet_live _ c.requires.live in
    let g : QuietSyncs (quiet_of c.args.self.now) (Ok tt) (quiet_of c.args.self.now) = (record { faults = omega arith; reads = refl }, refl) in
    sync_reads (quiet_of c.args.self.now) (quiet_of c.args.self.now) c.args._file.0 s.0 s.1 (Ok tt) g

pub returns-clause-ids : goal.returns-clause-ids
returns-clause-ids c =
    let s = quiet_live _ c.requires.live in
    let g : QuietSyncs (quiet_of c.args.self.now) (Ok tt) (quiet_of c.args.self.now) = (record { faults = omega arith; reads = refl }, refl) in
    sync_ids (quiet_of c.args.self.now) (quiet_of c.args.self.now) c.args._file.0 s.0 s.1 (Ok tt) g

pub returns-clause-contents : goal.returns-clause-contents
returns-clause-contents c =
    let s = quiet_live _ c.requires.live in
    quiet_contents (quiet_of c.args.self.now) (quiet_of c.args.self.now) c.args._file.0 s.0 s.1

pub returns-clause-images : goal.returns-clause-images
returns-clause-images c =
    let s = quiet_live _ c.requires.live in
    quiet_images (quiet_of c.args.self.now) (quiet_of c.args.self.now) c.args._file.0 s.0 s.1 _

pub returns-clause-ok : goal.returns-clause-ok
returns-clause-ok c =
    let s = quiet_live _ c.requires.live in
    sync_ok (quiet_of c.args.self.now) (quiet_of c.args.self.now) c.args._file.0 s.0 s.1 (Ok tt)
