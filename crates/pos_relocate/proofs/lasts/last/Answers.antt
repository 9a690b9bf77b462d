use Rattle.std.proofs.Common.{◌≤◌, ◌+◌, ◌*◌, ◌^◌, lit<}
use Rattle.pos_relocate.specs.Numbers.{numbers_of}
use Rattle.pos_relocate.proofs.LastLemmas.{number_wide}
use Rattle.pos_relocate.proofs.lasts.last.Goals as goal

pub add_last-requires-else-this-le31 : goal.add_last-requires-else-this-le31
add_last-requires-else-this-le31 g c =
    (lit< tt, (number_wide g.row.K (2 ^ (2 * g.row.K + 1)) (numbers_of c.args.places.now) c.args.tables.now (g.D.Disk.view c.args.disk.now) c.requires.can, (c.requires.few, (c.requires.stands, c.requires.empty))))
