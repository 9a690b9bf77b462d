use Rattle.pos_laws.proofs.AnyFile.{trees_rise_by_place}
use Rattle.pos_laws.proofs.plots.trees_rise_by_place.Goals as goal

pub returns : goal.returns
returns c = trees_rise_by_place
