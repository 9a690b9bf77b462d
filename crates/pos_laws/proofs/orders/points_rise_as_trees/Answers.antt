use Rattle.pos_laws.proofs.Trees.{points_rise_as_trees}
use Rattle.pos_laws.proofs.orders.points_rise_as_trees.Goals as goal

pub returns : goal.returns
returns c = points_rise_as_trees
