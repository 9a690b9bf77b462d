-- A disk that tells nothing meets the contract by what `find` gives.
use Rattle.pos_edge.proofs.Quiets.{open_quiet, open_absent, open_failed, open_kept, open_memory, open_ok, open_reads}
use Rattle.pos_host.proofs.disk.HostDiskDisk.open.Goals as goal

pub returns-clause-kept : goal.returns-clause-kept
returns-clause-kept g c = open_kept c.args.self.now c.find.new.self c.args.name.now c.find.result c.find.ensures

pub returns-clause-reads : goal.returns-clause-reads
returns-clause-reads g c = open_reads c.args.self.now c.find.new.self c.args.name.now c.find.result c.find.ensures

pub returns-clause-ok : goal.returns-clause-ok
returns-clause-ok g c = open_ok c.args.self.now c.find.new.self c.args.name.now c.find.result c.find.ensures

pub returns-clause-absent : goal.returns-clause-absent
returns-clause-absent g c = open_absent c.args.self.now c.find.new.self c.args.name.now c.find.result c.find.ensures

pub returns-clause-failed : goal.returns-clause-failed
returns-clause-failed g c = open_failed c.args.self.now c.find.new.self c.args.name.now c.find.result c.find.ensures

pub returns-clause-memory : goal.returns-clause-memory
returns-clause-memory g c = open_memory c.args.self.now c.find.new.self c.args.name.now c.find.result c.find.ensures

pub returns-clause-quiet : goal.returns-clause-quiet
returns-clause-quiet g c = open_quiet c.args.self.now c.find.new.self c.args.name.now c.find.result c.find.ensures
