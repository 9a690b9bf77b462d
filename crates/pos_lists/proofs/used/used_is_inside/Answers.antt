use Rattle.pos_lists.proofs.UsedLemmas.{used_is_inside}
use Rattle.pos_lists.proofs.used.used_is_inside.Goals as goal

pub returns : goal.returns
returns c = used_is_inside
