-- What `take` gives is what a disk promises.
use Rattle.pos_edge.proofs.MemoryUses.{remove_quiet, can_use, usable, remove_kept, remove_reads, remove_ends, remove_images, remove_ok, remove_failed, remove_left}
use Rattle.pos_edge.proofs.doubles.memory_disk.MemoryDiskDisk.remove.Goals as goal

pub take-requires : goal.take-requires
take-requires c =
    let u = can_use c.args.self.now c.args.file.0 c.requires.live c.requires.there in
    (u.0, u.1)

pub returns-clause-kept : goal.returns-clause-kept
returns-clause-kept c =
    let u = can_use c.args.self.now c.args.file.0 c.requires.live c.requires.there in
    remove_kept c.args.self.now c.args.file.0 u.0 (usable c.args.self.now c.args.file.0 u.0 c.take.ensures.sound u.1) c.take.result c.take.new.self (c.take.ensures.gives u.0 u.1)

pub returns-clause-reads : goal.returns-clause-reads
returns-clause-reads c =
    let u = can_use c.args.self.now c.args.file.0 c.requires.live c.requires.there in
    remove_reads c.args.self.now c.args.file.0 u.0 (usable c.args.self.now c.args.file.0 u.0 c.take.ensures.sound u.1) c.take.result c.take.new.self (c.take.ensures.gives u.0 u.1)

pub returns-clause-ends : goal.returns-clause-ends
returns-clause-ends c =
    let u = can_use c.args.self.now c.args.file.0 c.requires.live c.requires.there in
    remove_ends c.args.self.now c.args.file.0 u.0 (usable c.args.self.now c.args.file.0 u.0 c.take.ensures.sound u.1) c.take.result c.take.new.self (c.take.ensures.gives u.0 u.1)

pub returns-clause-images : goal.returns-clause-images
returns-clause-images c =
    let u = can_use c.args.self.now c.args.file.0 c.requires.live c.requires.there in
    remove_images c.args.self.now c.args.file.0 u.0 (usable c.args.self.now c.args.file.0 u.0 c.take.ensures.sound u.1) c.take.result c.take.new.self (c.take.ensures.gives u.0 u.1)

pub returns-clause-ok : goal.returns-clause-ok
returns-clause-ok c =
    let u = can_use c.args.self.now c.args.file.0 c.requires.live c.requires.there in
    remove_ok c.args.self.now c.args.file.0 u.0 (usable c.args.self.now c.args.file.0 u.0 c.take.ensures.sound u.1) c.take.result c.take.new.self (c.take.ensures.gives u.0 u.1)

pub returns-clause-failed : goal.returns-clause-failed
returns-clause-failed c =
    let u = can_use c.args.self.now c.args.file.0 c.requires.live c.requires.there in
    remove_failed c.args.self.now c.args.file.0 u.0 (usable c.args.self.now c.args.file.0 u.0 c.take.ensures.sound u.1) c.take.result c.take.new.self (c.take.ensures.gives u.0 u.1)

pub returns-clause-left : goal.returns-clause-left
returns-clause-left c =
    let u = can_use c.args.self.now c.args.file.0 c.requires.live c.requires.there in
    remove_left c.args.self.now c.args.file.0 u.0 (usable c.args.self.now c.args.file.0 u.0 c.take.ensures.sound u.1) c.take.result c.take.new.self (c.take.ensures.gives u.0 u.1)

pub returns-clause-quiet : goal.returns-clause-quiet
returns-clause-quiet c =
    let u = can_use c.args.self.now c.args.file.0 c.requires.live c.requires.there in
    remove_quiet c.args.self.now c.args.file.0 u.0 (usable c.args.self.now c.args.file.0 u.0 c.take.ensures.sound u.1) c.take.result c.take.new.self (c.take.ensures.gives u.0 u.1)
