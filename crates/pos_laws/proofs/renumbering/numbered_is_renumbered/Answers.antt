use Rattle.pos_laws.proofs.Ranks.{numbered_is_renumbered}
use Rattle.pos_laws.proofs.renumbering.numbered_is_renumbered.Goals as goal

pub returns : goal.returns
returns c = numbered_is_renumbered
