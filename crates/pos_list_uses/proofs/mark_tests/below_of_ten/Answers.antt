use Rattle.std.proofs.Common.{◌∙◌}
use Rattle.pos_list_uses.proofs.mark_tests.below_of_ten.Goals as goal

pub loop-i-preserved : goal.loop-i-preserved
loop-i-preserved g c =
    let now = c.loop-i.invariant in
    let got = c.in_ok-below.ensures in
    record {
      stands = (now.stands.0, got.marked now.stands.0 now.stands.1);
      sealed = got.sealed;
      places = got.same.places ∙ now.places;
      file = got.same.file ∙ now.file;
    }
