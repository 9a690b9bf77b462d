-- A disk that tells nothing meets the contract by what `make` gives.
use Rattle.pos_edge.proofs.Quiets.{create_quiet, create_exists, create_failed, create_kept, create_memory, create_ok, create_reads}
use Rattle.pos_host.proofs.disk.HostDiskDisk.create.Goals as goal

pub returns-clause-kept : goal.returns-clause-kept
returns-clause-kept g c = create_kept c.args.self.now c.make.new.self c.args.name.now c.make.result c.make.ensures

pub returns-clause-reads : goal.returns-clause-reads
returns-clause-reads g c = create_reads c.args.self.now c.make.new.self c.args.name.now c.make.result c.make.ensures

pub returns-clause-ok : goal.returns-clause-ok
returns-clause-ok g c = create_ok c.args.self.now c.make.new.self c.args.name.now c.make.result c.make.ensures

pub returns-clause-exists : goal.returns-clause-exists
returns-clause-exists g c = create_exists c.args.self.now c.make.new.self c.args.name.now c.make.result c.make.ensures

pub returns-clause-failed : goal.returns-clause-failed
returns-clause-failed g c = create_failed c.args.self.now c.make.new.self c.args.name.now c.make.result c.make.ensures

pub returns-clause-memory : goal.returns-clause-memory
returns-clause-memory g c = create_memory c.args.self.now c.make.new.self c.args.name.now c.make.result c.make.ensures

pub returns-clause-quiet : goal.returns-clause-quiet
returns-clause-quiet g c = create_quiet c.args.self.now c.make.new.self c.args.name.now c.make.result c.make.ensures
