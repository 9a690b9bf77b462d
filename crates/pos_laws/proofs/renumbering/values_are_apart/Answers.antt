use Rattle.pos_laws.proofs.Apart.{values_are_apart}
use Rattle.pos_laws.proofs.renumbering.values_are_apart.Goals as goal

pub returns : goal.returns
returns c = values_are_apart
