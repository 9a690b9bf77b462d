use Rattle.pos_lists.proofs.RankLemmas.{ranks_of_all}
use Rattle.pos_lists.proofs.ranks.ranks_of_all.Goals as goal

pub returns : goal.returns
returns c = ranks_of_all
