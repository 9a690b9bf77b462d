use Rattle.pos_laws.proofs.Branches.{branch_gives_the_quality}
use Rattle.pos_laws.proofs.walks.branch_gives_the_quality.Goals as goal

pub returns : goal.returns
returns c = branch_gives_the_quality
