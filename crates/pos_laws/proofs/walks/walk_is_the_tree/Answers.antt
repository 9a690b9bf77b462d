use Rattle.pos_laws.proofs.WalkedTrees.{walk_is_the_tree}
use Rattle.pos_laws.proofs.walks.walk_is_the_tree.Goals as goal

pub returns : goal.returns
returns g c = walk_is_the_tree
