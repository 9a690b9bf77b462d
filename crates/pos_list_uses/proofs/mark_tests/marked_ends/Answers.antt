use Rattle.pos_lists.specs.Places.{no_place, with_place}
use Rattle.pos_list_uses.proofs.mark_tests.marked_ends.Goals as goal

pub set-requires-clause-stands : goal.set-requires-clause-stands
set-requires-clause-stands g c = (no_place, c.in_ok-marks.ensures.new.marked)

pub set-requires-2-clause-stands : goal.set-requires-2-clause-stands
set-requires-2-clause-stands g c = (with_place 0 no_place, c.set.ensures.marked no_place c.in_ok-marks.ensures.new.marked)

pub seal-requires-clause-stands : goal.seal-requires-clause-stands
seal-requires-clause-stands g c =
    (_, c.set-2.ensures.marked (with_place 0 no_place) (c.set.ensures.marked no_place c.in_ok-marks.ensures.new.marked))

pub returns-clause-stands : goal.returns-clause-stands
returns-clause-stands g c =
    (_, c.in_ok-seal.ensures.marked _ (c.set-2.ensures.marked (with_place 0 no_place) (c.set.ensures.marked no_place c.in_ok-marks.ensures.new.marked)))
