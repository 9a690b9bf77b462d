use Rattle.std.proofs.Common.{◌≡◌, ℕ, ◌<◌, Bool, true, ◌∙◌, subst}
use Rattle.pos_marks.specs.Marks.{Marked}
use Rattle.pos_layout.proofs.ShutLemmas.{on_ok}
use Rattle.pos_relocate.specs.Choosing.{Chooses}
use Rattle.pos_relocate.proofs.PassLemmas.{if_ok}
use Rattle.pos_relocate.proofs.chosen.Chosen.has.Goals as goal

pub returns-in-Those-clause-kept : goal.returns-in-Those-clause-kept
returns-in-Those-clause-kept g c =
    let old = g.D.Disk.view c.args.disk.now in
    on_ok c.has.result
    (λ (marked : (p : ℕ → Bool) → Marked c.in-Those.marks p old → Marked c.has.new.self p (g.D.Disk.view c.has.new.disk)) n p chooses.
    let those = subst (λ x. Chooses x n p old) c.in-Those.is chooses in
    (marked p those.0, c.has.ensures.sealed, c.has.ensures.same.places ∙ those.2))
    c.has.ensures.marked

pub returns-in-Those-clause-value : goal.returns-in-Those-clause-value
returns-in-Those-clause-value g c =
    let old = g.D.Disk.view c.args.disk.now in
    if_ok (λ (b : Bool). (p : ℕ → Bool) → Marked c.in-Those.marks p old → old.tells ≡ true → b ≡ p c.args.i)
    (λ (b : Bool). (n : ℕ) (p : ℕ → Bool) → Chooses c.args.self.now n p old → old.tells ≡ true → c.args.i < n → b ≡ p c.args.i)
    c.has.result
    (λ b value n p chooses told inside. let those = subst (λ x. Chooses x n p old) c.in-Those.is chooses in value p those.0 told)
    c.has.ensures.value
