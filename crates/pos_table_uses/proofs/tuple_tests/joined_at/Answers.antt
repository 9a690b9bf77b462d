use Rattle.std.proofs.Common.{◌+◌, ◌-◌}
use Rattle.pos_prune.proofs.PassLemmas.{lists_read}
use Rattle.pos_table_uses.proofs.tuple_tests.joined_at.Goals as goal

pub returns-clause-stands : goal.returns-clause-stands
returns-clause-stands g c =
    let ts = c.requires.stands in
    (ts.0, c.in_ok-left.ensures.stands ts.0 ts.1)

pub returns-clause-lists : goal.returns-clause-lists
returns-clause-lists g c =
    let got = c.in_ok-left.ensures in
    lists_read c.args.tables.now c.pair.new.self (c.args.level + 2 - 1) (g.D.Disk.view c.args.disk.now) (g.D.Disk.view c.pair.new.disk) got.others got.read
