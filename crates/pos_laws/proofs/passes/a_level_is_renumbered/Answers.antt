use Rattle.pos_laws.proofs.PassLemmas.{a_level_is_renumbered}
use Rattle.pos_laws.proofs.passes.a_level_is_renumbered.Goals as goal

pub returns : goal.returns
returns c = a_level_is_renumbered
