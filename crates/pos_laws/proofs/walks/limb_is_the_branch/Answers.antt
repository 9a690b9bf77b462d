use Rattle.pos_laws.proofs.WalkedTrees.{limb_is_the_branch}
use Rattle.pos_laws.proofs.walks.limb_is_the_branch.Goals as goal

pub returns : goal.returns
returns g c = limb_is_the_branch
