use Rattle.pos_convert.proofs.LawLemmas.{can_convert_is_converted}
use Rattle.pos_convert.proofs.laws.what_can_be_converted_is.Goals as goal

pub returns : goal.returns
returns g c = can_convert_is_converted (g.D.Disk.view c.args.before.now) (g.D.Disk.view c.args.after.now) (g.met.D.Disk.is_disk c.args.before.now)
