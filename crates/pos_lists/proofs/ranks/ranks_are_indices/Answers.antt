use Rattle.pos_lists.proofs.RankLemmas.{ranks_are_indices}
use Rattle.pos_lists.proofs.ranks.ranks_are_indices.Goals as goal

pub returns : goal.returns
returns c = ranks_are_indices
