use Rattle.pos_laws.proofs.Gathered.{gathered_is_renumbered}
use Rattle.pos_laws.proofs.renumbering.gathered_is_renumbered.Goals as goal

pub returns : goal.returns
returns c = gathered_is_renumbered
