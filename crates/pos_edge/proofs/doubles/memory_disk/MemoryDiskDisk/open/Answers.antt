-- What `find` gives is what a disk promises.
use Rattle.pos_edge.proofs.MemoryCalls.{open_quiet, open_kept, open_reads, open_ok, open_absent, open_failed, open_memory}
use Rattle.pos_edge.proofs.doubles.memory_disk.MemoryDiskDisk.open.Goals as goal

pub returns-clause-kept : goal.returns-clause-kept
returns-clause-kept c = open_kept c.args.self.now c.args.name.now c.find.result c.find.new.self c.find.ensures.sound c.find.ensures.gives

pub returns-clause-reads : goal.returns-clause-reads
returns-clause-reads c = open_reads c.args.self.now c.args.name.now c.find.result c.find.new.self c.find.ensures.gives

pub returns-clause-ok : goal.returns-clause-ok
returns-clause-ok c = open_ok c.args.self.now c.args.name.now c.find.result c.find.new.self c.find.ensures.gives

pub returns-clause-absent : goal.returns-clause-absent
returns-clause-absent c = open_absent c.args.self.now c.args.name.now c.find.result c.find.new.self c.find.ensures.gives

pub returns-clause-failed : goal.returns-clause-failed
returns-clause-failed c = open_failed c.args.self.now c.args.name.now c.find.result c.find.new.self c.find.ensures.gives

pub returns-clause-memory : goal.returns-clause-memory
returns-clause-memory c = open_memory c.args.self.now c.args.name.now c.find.result c.find.new.self c.find.ensures.gives

pub returns-clause-quiet : goal.returns-clause-quiet
returns-clause-quiet c = open_quiet c.args.self.now c.args.name.now c.find.result c.find.new.self c.find.ensures.gives
