-- It meets the contract by its counts and sizes.
use Rattle.pos_edge.specs.BlankDisks.{quiet_of}
use Rattle.pos_edge.proofs.Quiets.{create_exists, create_failed, create_kept, create_memory, create_ok, create_reads}
use Rattle.pos_edge.proofs.doubles.blank_disk.BlankDiskDisk.create.Goals as goal

pub returns-clause-kept : goal.returns-clause-kept
returns-clause-kept c = create_kept (quiet_of c.args.self.now) (quiet_of c.make.new.self) c.args.name.now c.make.result c.make.ensures.gives

pub returns-clause-reads : goal.returns-clause-reads
returns-clause-reads c = create_reads (quiet_of c.args.self.now) (quiet_of c.make.new.self) c.args.name.now c.make.result c.make.ensures.gives

pub returns-clause-ok : goal.returns-clause-ok
returns-clause-ok c = create_ok (quiet_of c.args.self.now) (quiet_of c.make.new.self) c.args.name.now c.make.result c.make.ensures.gives

pub returns-clause-exists : goal.returns-clause-exists
returns-clause-exists c = create_exists (quiet_of c.args.self.now) (quiet_of c.make.new.self) c.args.name.now c.make.result c.make.ensures.gives

pub returns-clause-failed : goal.returns-clause-failed
returns-clause-failed c = create_failed (quiet_of c.args.self.now) (quiet_of c.make.new.self) c.args.name.now c.make.result c.make.ensures.gives

pub returns-clause-memory : goal.returns-clause-memory
returns-clause-memory c = create_memory (quiet_of c.args.self.now) (quiet_of c.make.new.self) c.args.name.now c.make.result c.make.ensures.gives
