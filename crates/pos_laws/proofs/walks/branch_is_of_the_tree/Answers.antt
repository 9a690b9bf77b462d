use Rattle.pos_laws.proofs.Branches.{branch_is_of_the_tree}
use Rattle.pos_laws.proofs.walks.branch_is_of_the_tree.Goals as goal

pub returns : goal.returns
returns c = branch_is_of_the_tree
