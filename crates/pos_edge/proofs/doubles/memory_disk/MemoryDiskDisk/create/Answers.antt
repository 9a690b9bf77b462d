-- What `make` gives is what a disk promises.
use Rattle.pos_edge.proofs.MemoryCalls.{create_kept, create_reads, create_ok, create_exists, create_failed, create_memory, create_quiet}
use Rattle.pos_edge.proofs.doubles.memory_disk.MemoryDiskDisk.create.Goals as goal

pub returns-clause-kept : goal.returns-clause-kept
returns-clause-kept c = create_kept c.args.self.now c.args.name.now c.make.result c.make.new.self c.make.ensures.sound c.make.ensures.gives

pub returns-clause-reads : goal.returns-clause-reads
returns-clause-reads c = create_reads c.args.self.now c.args.name.now c.make.result c.make.new.self c.make.ensures.gives

pub returns-clause-ok : goal.returns-clause-ok
returns-clause-ok c = create_ok c.args.self.now c.args.name.now c.make.result c.make.new.self c.make.ensures.sound c.make.ensures.gives

pub returns-clause-exists : goal.returns-clause-exists
returns-clause-exists c = create_exists c.args.self.now c.args.name.now c.make.result c.make.new.self c.make.ensures.gives

pub returns-clause-failed : goal.returns-clause-failed
returns-clause-failed c = create_failed c.args.self.now c.args.name.now c.make.result c.make.new.self c.make.ensures.sound c.make.ensures.gives

pub returns-clause-memory : goal.returns-clause-memory
returns-clause-memory c = create_memory c.args.self.now c.args.name.now c.make.result c.make.new.self c.make.ensures.gives

pub returns-clause-quiet : goal.returns-clause-quiet
returns-clause-quiet c = create_quiet c.args.self.now c.args.name.now c.make.result c.make.new.self c.make.ensures.gives
