use Rattle.pos_runs.proofs.ListLemmas.{ready-holds}
use Rattle.pos_runs.proofs.ordered.Ordered.ready.Goals as goal

pub returns-clause-list : goal.returns-clause-list
returns-clause-list g c =
    ready-holds g.R.Record.read g.R.Record.bit_count c.args.page c.args.self.now c.bring.new.self (g.D.Disk.view c.args.disk.now) (g.D.Disk.view c.bring.new.disk) (g.met.D.Disk.is_disk c.args.disk.now)
    c.requires.stands c.requires.there c.in_ok-bring.ensures.page c.in_ok-bring.ensures.long c.in_ok-bring.ensures.read.only c.in_ok-bring.ensures.bytes
