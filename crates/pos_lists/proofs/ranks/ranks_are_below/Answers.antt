use Rattle.pos_lists.proofs.RankLemmas.{ranks_are_below}
use Rattle.pos_lists.proofs.ranks.ranks_are_below.Goals as goal

pub returns : goal.returns
returns c = ranks_are_below
