use Rattle.pos_laws.proofs.WalkedTrees.{walk_from_the_top}
use Rattle.pos_laws.proofs.walks.walk_from_the_top.Goals as goal

pub returns : goal.returns
returns g c = walk_from_the_top
