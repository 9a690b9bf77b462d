use Rattle.pos_lists.proofs.NumberingLemmas.{a_place_is_passed_over}
use Rattle.pos_lists.proofs.numbering.a_place_is_passed_over.Goals as goal

pub returns : goal.returns
returns c = a_place_is_passed_over
