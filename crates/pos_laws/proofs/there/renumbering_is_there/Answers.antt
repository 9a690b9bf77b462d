use Rattle.pos_laws.proofs.PlotThere.{renumbering_is_there}
use Rattle.pos_laws.proofs.there.renumbering_is_there.Goals as goal

pub returns : goal.returns
returns c = renumbering_is_there
