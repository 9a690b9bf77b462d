use Rattle.pos_convert.proofs.LawLemmas.{damage_is_said}
use Rattle.pos_convert.proofs.laws.a_damage_is_said.Goals as goal

pub returns : goal.returns
returns g c = damage_is_said (g.D.Disk.view c.args.before.now) (g.D.Disk.view c.args.after.now) (g.met.D.Disk.is_disk c.args.before.now)
