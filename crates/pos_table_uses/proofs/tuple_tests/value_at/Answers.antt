use Rattle.pos_prune.proofs.PassLemmas.{lists_read}
use Rattle.pos_table_uses.proofs.tuple_tests.value_at.Goals as goal

pub returns-clause-stands : goal.returns-clause-stands
returns-clause-stands g c =
    let ts = c.requires.stands in
    (ts.0, c.in_ok-values.ensures.stands ts.0 ts.1)

pub returns-clause-lists : goal.returns-clause-lists
returns-clause-lists g c =
    let got = c.in_ok-values.ensures in
    lists_read c.args.tables.now c.value.new.self 0 (g.D.Disk.view c.args.disk.now) (g.D.Disk.view c.value.new.disk) got.others got.read
