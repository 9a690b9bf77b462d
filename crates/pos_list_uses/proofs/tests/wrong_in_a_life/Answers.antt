use Rattle.std.proofs.Common.{ℕ, sym, subst, arith}
use Rattle.std.specs.Prelude.{IsTrue}
use Rattle.pos_edge.specs.Calls.{IsThere}
use Rattle.pos_edge.specs.ScratchNames.{ScratchState, IsLeft}
use Rattle.pos_list_uses.proofs.UsesLemmas.{made-left}
use Rattle.pos_list_uses.proofs.tests.wrong_in_a_life.Goals as goal

pub remove-requires : goal.remove-requires
remove-requires g c =
    let wrong = c.wrong_values-wrong.ensures in
    let file : ℕ = c.in_ok-list.list.file in
    let after = g.D.Disk.view c.wrong_values-wrong.new.disk in (
      omega arith,
      (
        subst (λ f. IsLeft c.new-2.new.scratch f) (sym wrong.file) (subst (λ (s : ScratchState). IsLeft s file) (sym c.in_ok-list.ensures.made) (made-left c.in-Ok.scratch file)),
        (subst (λ f. IsTrue (after.is_live f)) (sym wrong.file) wrong.live, subst (λ f. IsThere f after) (sym wrong.file) wrong.there),
      ),
    )
