use Rattle.pos_laws.proofs.Ranks.{numbered_is_apart}
use Rattle.pos_laws.proofs.renumbering.numbered_is_apart.Goals as goal

pub returns : goal.returns
returns c = numbered_is_apart
