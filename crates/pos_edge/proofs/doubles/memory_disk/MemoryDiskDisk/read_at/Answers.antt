-- What `read` gives is what a disk promises.
use Rattle.std.proofs.Common.{arith}
use Rattle.pos_edge.proofs.MemoryUses.{read_quiet, can_use, usable, read_kept, read_reads, read_ids, read_ok, read_failed}
use Rattle.pos_edge.proofs.doubles.memory_disk.MemoryDiskDisk.read_at.Goals as goal

pub read-requires : goal.read-requires
read-requires c =
    let u = can_use c.args.self.now c.args.file.0 c.requires.live c.requires.there in
    (u.0, u.1, omega (arith, c.requires.within, u.2))

pub returns-clause-kept : goal.returns-clause-kept
returns-clause-kept c =
    let u = can_use c.args.self.now c.args.file.0 c.requires.live c.requires.there in
    read_kept c.args.self.now c.args.file.0 u.0 (usable c.args.self.now c.args.file.0 u.0 c.read.ensures.sound u.1) c.args.at c.read.new.buf c.read.result c.read.new.self (c.read.ensures.gives u.0 u.1)

pub returns-clause-reads : goal.returns-clause-reads
returns-clause-reads c =
    let u = can_use c.args.self.now c.args.file.0 c.requires.live c.requires.there in
    read_reads c.args.self.now c.args.file.0 u.0 (usable c.args.self.now c.args.file.0 u.0 c.read.ensures.sound u.1) c.args.at c.read.new.buf c.read.result c.read.new.self (c.read.ensures.gives u.0 u.1)

pub returns-clause-ids : goal.returns-clause-ids
returns-clause-ids c =
    let u = can_use c.args.self.now c.args.file.0 c.requires.live c.requires.there in
    read_ids c.args.self.now c.args.file.0 u.0 (usable c.args.self.now c.args.file.0 u.0 c.read.ensures.sound u.1) c.args.at c.read.new.buf c.read.result c.read.new.self (c.read.ensures.gives u.0 u.1)

pub returns-clause-ok : goal.returns-clause-ok
returns-clause-ok c =
    let u = can_use c.args.self.now c.args.file.0 c.requires.live c.requires.there in
    read_ok c.args.self.now c.args.file.0 u.0 (usable c.args.self.now c.args.file.0 u.0 c.read.ensures.sound u.1) c.args.at c.read.new.buf c.read.result c.read.new.self (c.read.ensures.gives u.0 u.1)

pub returns-clause-failed : goal.returns-clause-failed
returns-clause-failed c =
    let u = can_use c.args.self.now c.args.file.0 c.requires.live c.requires.there in
    read_failed c.args.self.now c.args.file.0 u.0 (usable c.args.self.now c.args.file.0 u.0 c.read.ensures.sound u.1) c.args.at c.read.new.buf c.read.result c.read.new.self (c.read.ensures.gives u.0 u.1)

pub returns-clause-quiet : goal.returns-clause-quiet
returns-clause-quiet c =
    let u = can_use c.args.self.now c.args.file.0 c.requires.live c.requires.there in
    read_quiet c.args.self.now c.args.file.0 u.0 (usable c.args.self.now c.args.file.0 u.0 c.read.ensures.sound u.1) c.args.at c.read.new.buf c.read.result c.read.new.self (c.read.ensures.gives u.0 u.1)
