use Rattle.pos_lists.specs.Places.{no_place}
use Rattle.pos_list_uses.proofs.mark_tests.none_of_none.Goals as goal

pub seal-requires-clause-stands : goal.seal-requires-clause-stands
seal-requires-clause-stands g c = (no_place, c.in_ok-marks.ensures.new.marked)

pub rank-requires-clause-stands : goal.rank-requires-clause-stands
rank-requires-clause-stands g c = (no_place, c.in_ok-seal.ensures.marked no_place c.in_ok-marks.ensures.new.marked)
