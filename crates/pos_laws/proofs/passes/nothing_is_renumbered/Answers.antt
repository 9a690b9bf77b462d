use Rattle.pos_laws.proofs.PassLemmas.{nothing_is_renumbered}
use Rattle.pos_laws.proofs.passes.nothing_is_renumbered.Goals as goal

pub returns : goal.returns
returns c = nothing_is_renumbered
