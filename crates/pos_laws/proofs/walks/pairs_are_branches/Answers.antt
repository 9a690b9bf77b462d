use Rattle.pos_laws.proofs.Branches.{pairs_are_branches}
use Rattle.pos_laws.proofs.walks.pairs_are_branches.Goals as goal

pub returns : goal.returns
returns c = pairs_are_branches
