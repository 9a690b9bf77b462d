-- It meets the contract by its counts and sizes.
use Rattle.pos_edge.specs.BlankDisks.{quiet_of}
use Rattle.pos_edge.proofs.Quiets.{open_absent, open_failed, open_kept, open_memory, open_ok, open_reads}
use Rattle.pos_edge.proofs.doubles.blank_disk.BlankDiskDisk.open.Goals as goal

pub returns-clause-kept : goal.returns-clause-kept
returns-clause-kept c = open_kept (quiet_of c.args.self.now) (quiet_of c.find.new.self) c.args.name.now c.find.result c.find.ensures.gives

pub returns-clause-reads : goal.returns-clause-reads
returns-clause-reads c = open_reads (quiet_of c.args.self.now) (quiet_of c.find.new.self) c.args.name.now c.find.result c.find.ensures.gives

pub returns-clause-ok : goal.returns-clause-ok
returns-clause-ok c = open_ok (quiet_of c.args.self.now) (quiet_of c.find.new.self) c.args.name.now c.find.result c.find.ensures.gives

pub returns-clause-absent : goal.returns-clause-absent
returns-clause-absent c = open_absent (quiet_of c.args.self.now) (quiet_of c.find.new.self) c.args.name.now c.find.result c.find.ensures.gives

pub returns-clause-failed : goal.returns-clause-failed
returns-clause-failed c = open_failed (quiet_of c.args.self.now) (quiet_of c.find.new.self) c.args.name.now c.find.result c.find.ensures.gives

pub returns-clause-memory : goal.returns-clause-memory
returns-clause-memory c = open_memory (quiet_of c.args.self.now) (quiet_of c.find.new.self) c.args.name.now c.find.result c.find.ensures.gives
