use Rattle.pos_lists.proofs.PairLemmas.{pairs_are_in_order}
use Rattle.pos_lists.proofs.pairs.pairs_are_in_order.Goals as goal

pub returns : goal.returns
returns c = pairs_are_in_order
