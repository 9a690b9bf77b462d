-- What `write` gives is what a disk promises.
use Rattle.std.proofs.Common.{arith}
use Rattle.pos_edge.proofs.MemoryUses.{write_quiet, can_use, usable, write_kept, write_reads, write_ids, write_images, write_ok, write_failed, write_memory}
use Rattle.pos_edge.proofs.doubles.memory_disk.MemoryDiskDisk.write_at.Goals as goal

pub write-requires-clause-usable : goal.write-requires-clause-usable
write-requires-clause-usable c =
    let u = can_use c.args.self.now c.args.file.0 c.requires.live c.requires.there in
    (u.0, u.1, omega (arith, c.requires.within, u.2))

pub returns-clause-kept : goal.returns-clause-kept
returns-clause-kept c =
    let u = can_use c.args.self.now c.args.file.0 c.requires.live c.requires.there in
    write_kept c.args.self.now c.args.file.0 u.0 (usable c.args.self.now c.args.file.0 u.0 c.write.ensures.sound u.1) c.args.at c.args.bytes.now c.write.result c.write.new.self (omega (arith, c.requires.within, u.2)) (c.write.ensures.gives u.0 u.1)

pub returns-clause-reads : goal.returns-clause-reads
returns-clause-reads c =
    let u = can_use c.args.self.now c.args.file.0 c.requires.live c.requires.there in
    write_reads c.args.self.now c.args.file.0 u.0 (usable c.args.self.now c.args.file.0 u.0 c.write.ensures.sound u.1) c.args.at c.args.bytes.now c.write.result c.write.new.self (c.write.ensures.gives u.0 u.1)

pub returns-clause-ids : goal.returns-clause-ids
returns-clause-ids c =
    let u = can_use c.args.self.now c.args.file.0 c.requires.live c.requires.there in
    write_ids c.args.self.now c.args.file.0 u.0 (usable c.args.self.now c.args.file.0 u.0 c.write.ensures.sound u.1) c.args.at c.args.bytes.now c.write.result c.write.new.self (omega (arith, c.requires.within, u.2)) (c.write.ensures.gives u.0 u.1)

pub returns-clause-images : goal.returns-clause-images
returns-clause-images c =
    let u = can_use c.args.self.now c.args.file.0 c.requires.live c.requires.there in
    write_images c.args.self.now c.args.file.0 u.0 (usable c.args.self.now c.args.file.0 u.0 c.write.ensures.sound u.1) c.args.at c.args.bytes.now c.write.result c.write.new.self (c.write.ensures.gives u.0 u.1)

pub returns-clause-ok : goal.returns-clause-ok
returns-clause-ok c =
    let u = can_use c.args.self.now c.args.file.0 c.requires.live c.requires.there in
    write_ok c.args.self.now c.args.file.0 u.0 (usable c.args.self.now c.args.file.0 u.0 c.write.ensures.sound u.1) c.args.at c.args.bytes.now c.write.result c.write.new.self (c.write.ensures.gives u.0 u.1)

pub returns-clause-failed : goal.returns-clause-failed
returns-clause-failed c =
    let u = can_use c.args.self.now c.args.file.0 c.requires.live c.requires.there in
    write_failed c.args.self.now c.args.file.0 u.0 (usable c.args.self.now c.args.file.0 u.0 c.write.ensures.sound u.1) c.args.at c.args.bytes.now c.write.result c.write.new.self (c.write.ensures.gives u.0 u.1)

pub returns-clause-memory : goal.returns-clause-memory
returns-clause-memory c =
    let u = can_use c.args.self.now c.args.file.0 c.requires.live c.requires.there in
    write_memory c.args.self.now c.args.file.0 u.0 (usable c.args.self.now c.args.file.0 u.0 c.write.ensures.sound u.1) c.args.at c.args.bytes.now c.write.result c.write.new.self (c.write.ensures.gives u.0 u.1)

pub returns-clause-quiet : goal.returns-clause-quiet
returns-clause-quiet c =
    let u = can_use c.args.self.now c.args.file.0 c.requires.live c.requires.there in
    write_quiet c.args.self.now c.args.file.0 u.0 (usable c.args.self.now c.args.file.0 u.0 c.write.ensures.sound u.1) c.args.at c.args.bytes.now c.write.result c.write.new.self (c.write.ensures.gives u.0 u.1)
