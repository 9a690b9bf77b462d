use Rattle.std.proofs.Common.{◌∙◌}
use Rattle.std.proofs.lemmas.List.{length-set}
use Rattle.pos_lists.specs.Places.{with_place}
use Rattle.pos_list_uses.proofs.many_mark_tests.mark_and_note.Goals as goal

pub loop-preserved : goal.loop-preserved
loop-preserved g c =
    let now = c.loop.invariant in
    let got = c.in_ok-set.ensures in
    let place = c.place_of-place.result in
    record {
      stands = (with_place place now.stands.0, got.marked now.stands.0 now.stands.1);
      unsealed = got.unsealed;
      places = got.same.places ∙ now.places;
      count = length-set c.loop.noted place _ ∙ now.count;
    }
