use Rattle.pos_laws.proofs.Apart.{renumbered_is_apart}
use Rattle.pos_laws.proofs.renumbering.renumbered_is_apart.Goals as goal

pub returns : goal.returns
returns c = renumbered_is_apart
