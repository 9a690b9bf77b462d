use Rattle.pos_laws.proofs.OnePlotOnly.{none_is_dead}
use Rattle.pos_laws.proofs.plots.none_is_dead.Goals as goal

pub returns : goal.returns
returns c = none_is_dead
