use Rattle.pos_laws.proofs.AnyFile.{tree_values_are_below}
use Rattle.pos_laws.proofs.plots.tree_values_are_below.Goals as goal

pub returns : goal.returns
returns c = tree_values_are_below
