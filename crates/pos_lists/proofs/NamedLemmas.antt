-- What a pass over the pairs of one table marks below, place by place.
use Rattle.std.proofs.Common.{◌≡◌, suc, ◌<◌, ◌≤◌, ◌⊎◌, inl, inr, ⊎_elim, ◌==◌, ◌||◌, Bool, true, false, sym, refl, ◌∙◌, ap, arith, true≢false, eqb-true, eq-eqb}
use Rattle.std.proofs.lemmas.Bool.{cases_lt, false≢true}
use Rattle.pos_lists.specs.TableLists.{left_of, right_of}
use Rattle.pos_lists.specs.UsedLaws.{NothingIsNamed, APairIsNamed, APairIsPassedOver}

pub nothing_is_named : NothingIsNamed
nothing_is_named ts n upper i = (λ e. absurd (false≢true e), λ h. absurd (omega (arith, h.1)))

-- one of two tests is true where either is
either : (a b : Bool) → (a || b) ≡ true → (a ≡ true) ⊎ (b ≡ true)
either true b e = inl refl
either false b e = inr e

first_holds : (a b : Bool) → a ≡ true → (a || b) ≡ true
first_holds true b e = refl
first_holds false b e = absurd (false≢true e)

second_holds : (a b : Bool) → b ≡ true → (a || b) ≡ true
second_holds true b e = refl
second_holds false b e = e

pub a_pair_is_named : APairIsNamed
a_pair_is_named ts n high upper lower given named i = (
  λ e.
      ⊎_elim
      (λ (h : (i == right_of ts (suc n) high) ≡ true). (high, omega arith, given, inr (eqb-true _ _ h)))
      (λ (h : ((i == left_of ts (suc n) high) || lower i) ≡ true).
      ⊎_elim
      (λ (g : (i == left_of ts (suc n) high) ≡ true). (high, omega arith, given, inl (eqb-true _ _ g)))
      (λ (g : lower i ≡ true). let j = (named i).0 g in (j.0, omega (arith, j.1), j.2, j.3))
      (either _ _ h))
      (either _ _ e),
  λ h.
      ⊎_elim
      (λ (l : h.0 < high). second_holds _ _ (second_holds _ _ ((named i).1 (h.0, l, h.2, h.3))))
      (λ (g : high ≤ h.0).
      let same : h.0 ≡ high = omega (arith, h.1) in
      ⊎_elim
      (λ (e : i ≡ left_of ts (suc n) h.0).
      second_holds _ _ (first_holds _ _ (eq-eqb _ _ (e ∙ ap (left_of ts (suc n)) same))))
      (λ (e : i ≡ right_of ts (suc n) h.0). first_holds _ _ (eq-eqb _ _ (e ∙ ap (right_of ts (suc n)) same)))
      h.3)
      (cases_lt h.0 high),
)

pub a_pair_is_passed_over : APairIsPassedOver
a_pair_is_passed_over ts n high upper lower passed named i = (
  λ e. let j = (named i).0 e in (j.0, omega (arith, j.1), j.2, j.3),
  λ h.
      ⊎_elim
      (λ (l : h.0 < high). (named i).1 (h.0, l, h.2, h.3))
      (λ (g : high ≤ h.0).
      let same : h.0 ≡ high = omega (arith, h.1) in
      absurd (true≢false (sym h.2 ∙ ap upper same ∙ passed)))
      (cases_lt h.0 high),
)
