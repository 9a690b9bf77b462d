-- What `settle` gives is what a disk promises.
use Rattle.pos_edge.proofs.MemoryUses.{sync_quiet, can_use, usable, sync_kept, sync_reads, sync_ids, sync_contents, sync_images, sync_ok, sync_failed}
use Rattle.pos_edge.proofs.doubles.memory_disk.MemoryDiskDisk.sync.Goals as goal

pub settle-requires : goal.settle-requires
settle-requires c =
    let u = can_use c.args.self.now c.args.file.0 c.requires.live c.requires.there in
    (u.0, u.1)

pub returns-clause-kept : goal.returns-clause-kept
returns-clause-kept c =
    let u = can_use c.args.self.now c.args.file.0 c.requires.live c.requires.there in
    sync_kept c.args.self.now c.args.file.0 u.0 (usable c.args.self.now c.args.file.0 u.0 c.settle.ensures.sound u.1) c.settle.result c.settle.new.self (c.settle.ensures.gives u.0 u.1)

pub returns-clause-reads : goal.returns-clause-reads
returns-clause-reads c =
    let u = can_use c.args.self.now c.args.file.0 c.requires.live c.requires.there in
    sync_reads c.args.self.now c.args.file.0 u.0 (usable c.args.self.now c.args.file.0 u.0 c.settle.ensures.sound u.1) c.settle.result c.settle.new.self (c.settle.ensures.gives u.0 u.1)

pub returns-clause-ids : goal.returns-clause-ids
returns-clause-ids c =
    let u = can_use c.args.self.now c.args.file.0 c.requires.live c.requires.there in
    sync_ids c.args.self.now c.args.file.0 u.0 (usable c.args.self.now c.args.file.0 u.0 c.settle.ensures.sound u.1) c.settle.result c.settle.new.self (c.settle.ensures.gives u.0 u.1)

pub returns-clause-contents : goal.returns-clause-contents
returns-clause-contents c =
    let u = can_use c.args.self.now c.args.file.0 c.requires.live c.requires.there in
    sync_contents c.args.self.now c.args.file.0 u.0 (usable c.args.self.now c.args.file.0 u.0 c.settle.ensures.sound u.1) c.settle.result c.settle.new.self (c.settle.ensures.gives u.0 u.1)

pub returns-clause-images : goal.returns-clause-images
returns-clause-images c =
    let u = can_use c.args.self.now c.args.file.0 c.requires.live c.requires.there in
    sync_images c.args.self.now c.args.file.0 u.0 (usable c.args.self.now c.args.file.0 u.0 c.settle.ensures.sound u.1) c.settle.result c.settle.new.self (c.settle.ensures.gives u.0 u.1)

pub returns-clause-ok : goal.returns-clause-ok
returns-clause-ok c =
    let u = can_use c.args.self.now c.args.file.0 c.requires.live c.requires.there in
    sync_ok c.args.self.now c.args.file.0 u.0 (usable c.args.self.now c.args.file.0 u.0 c.settle.ensures.sound u.1) c.settle.result c.settle.new.self (c.settle.ensures.gives u.0 u.1)

pub returns-clause-failed : goal.returns-clause-failed
returns-clause-failed c =
    let u = can_use c.args.self.now c.args.file.0 c.requires.live c.requires.there in
    sync_failed c.args.self.now c.args.file.0 u.0 (usable c.args.self.now c.args.file.0 u.0 c.settle.ensures.sound u.1) c.settle.result c.settle.new.self (c.settle.ensures.gives u.0 u.1)

pub returns-clause-quiet : goal.returns-clause-quiet
returns-clause-quiet c =
    let u = can_use c.args.self.now c.args.file.0 c.requires.live c.requires.there in
    sync_quiet c.args.self.now c.args.file.0 u.0 (usable c.args.self.now c.args.file.0 u.0 c.settle.ensures.sound u.1) c.settle.result c.settle.new.self (c.settle.ensures.gives u.0 u.1)
