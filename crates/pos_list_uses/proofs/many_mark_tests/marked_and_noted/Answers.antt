use Rattle.pos_lists.specs.Places.{no_place}
use Rattle.pos_list_uses.proofs.many_mark_tests.marked_and_noted.Goals as goal

pub mark_and_note-requires-clause-stands : goal.mark_and_note-requires-clause-stands
mark_and_note-requires-clause-stands g c = (no_place, c.in_ok-marks.ensures.new.marked)

pub returns-clause-stands : goal.returns-clause-stands
returns-clause-stands g c =
    let p = c.in_ok-mark_and_note.ensures.stands in
    (p.0, c.in_ok-seal.ensures.marked p.0 p.1)
