use Rattle.pos_laws.proofs.Apart.{points_differ}
use Rattle.pos_laws.proofs.renumbering.points_differ.Goals as goal

pub returns : goal.returns
returns c = points_differ
