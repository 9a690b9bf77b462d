use Rattle.pos_laws.proofs.WalkedTrees.{limb_from_the_top}
use Rattle.pos_laws.proofs.walks.limb_from_the_top.Goals as goal

pub returns : goal.returns
returns g c = limb_from_the_top
