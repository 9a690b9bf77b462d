use Rattle.std.proofs.Common.{◌-◌, ◌<◌, arith}
use Rattle.pos_table_uses.proofs.ReadingLemmas.{pairs_stand, read_none, read_one}
use Rattle.pos_table_uses.proofs.tests.note_pair.Goals as goal

-- numbers, found where nothing else is known
size : 640 < 9223372036854775808
size = omega arith

pub returns-then-not-is_noted-clause-read : goal.returns-then-not-is_noted-clause-read
returns-then-not-is_noted-clause-read g c = read_none g.row.K c.args.tables.now (g.D.Disk.view c.args.disk.now)

pub pair-requires : goal.pair-requires
pair-requires g c =
    let ts = c.requires.stands in
    let stands = pairs_stand g.row.K c.args.t c.args.tables.now ts.0 (g.D.Disk.view c.args.disk.now) c.requires.first c.requires.last ts.1 in
    (size, (c.requires.size, (c.requires.first, (c.requires.last, (stands, c.requires.there)))))

pub returns-clause-read : goal.returns-clause-read
returns-clause-read g c =
    let got = c.in_ok-left.ensures in
    read_one g.row.K (c.args.t - 1) c.args.tables.now c.pair.new.self (g.D.Disk.view c.args.disk.now) (g.D.Disk.view c.pair.new.disk) got.others got.read got.stands
