use Rattle.pos_lists.proofs.NamedLemmas.{a_pair_is_passed_over}
use Rattle.pos_lists.proofs.used.a_pair_is_passed_over.Goals as goal

pub returns : goal.returns
returns c = a_pair_is_passed_over
