use Rattle.std.proofs.Common.{◌≡◌, ℕ, sym, ◌∙◌, subst}
use Rattle.pos_edge.specs.ScratchNames.{ScratchState, IsLeft, with_file}
use Rattle.pos_marks.specs.Marks.{marks_file}
use Rattle.pos_list_uses.proofs.UsesLemmas.{made-left}
use Rattle.pos_list_uses.proofs.mark_tests.life_of_two.Goals as goal

pub remove-requires-clause-left : goal.remove-requires-clause-left
remove-requires-clause-left g c =
    let file : ℕ = marks_file c.in_ok-marks.marks in
    let same : marks_file c.below_of_ten.new.marks ≡ file = c.in_ok-below.ensures.file ∙ c.in_ok-marked.ensures.file in
    let made : c.two_of_ten.new.scratch ≡ with_file c.in_ok-scratch.scratch file = c.in_ok-marks.ensures.made in
    subst (λ (f : ℕ). IsLeft c.two_of_ten.new.scratch f) (sym same) (subst (λ (s : ScratchState). IsLeft s file) (sym made) (made-left c.in_ok-scratch.scratch file))
