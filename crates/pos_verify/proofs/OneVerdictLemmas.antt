-- The verdicts exclude one another.
use Rattle.std.proofs.Common.{◌≡◌, ◌≢◌, ℕ, ◌*◌, ◌<◌, List, length, refl, sym, ap, ap₂, ◌∙◌, subst, ⊎_elim, true, false, true≢false}
use Rattle.std.specs.Prelude.{Option, Some, None, IsSome}
use Rattle.std.proofs.lemmas.Bool.{cases_order}
use Rattle.pos_tuple.specs.Proof.{f7}
use Rattle.pos_order.specs.Quality.{quality_of}
use Rattle.pos_order.specs.Values.{WritesValues}
use Rattle.pos_order.proofs.ValuesLemmas.{writes_values-one, length-written}
use Rattle.pos_verify.specs.Verdict.{FailsFirst, OneVerdict}
use Rattle.pos_verify.specs.declared.Verdict.TheVariants.{Accepted, WrongLength, NoMatch, WrongChallenge}
use Rattle.pos_verify.proofs.VerdictLemmas.{no_proof-failing, no_proof-challenge, no_f7-failing}

-- no group that has a node has none
some_or_none : {X : Type 0} (o : Option X) → IsSome o → o ≡ None → ⊥
some_or_none None s e = true≢false (sym s)
some_or_none (Some x) s e = true≢false (let t : true ≡ false = cc in t)

-- the first failing pair is one
fails_first-one :
    (id : List ℕ) (k : ℕ) (xs : List ℕ) (l m p q : ℕ) → FailsFirst id k xs l p → FailsFirst id k xs m q
    → (l ≡ m) × (p ≡ q)
fails_first-one id k xs l m p q f g =
    ⊎_elim
    (λ (same : l ≡ m).
    let h : FailsFirst id k xs l q = subst (λ n. FailsFirst id k xs n q) (sym same) g in (
      same,
      ⊎_elim
          (λ (e : p ≡ q). e)
          (⊎_elim
          (λ (e : p < q). absurd (some_or_none _ (h.left p e) f.here))
          (λ (e : q < p). absurd (some_or_none _ (f.left q e) h.here)))
          (cases_order p q),
    ))
    (⊎_elim
    (λ (e : l < m). absurd (some_or_none _ (g.below l p e f.inside) f.here))
    (λ (e : m < l). absurd (some_or_none _ (f.below m q e g.inside) g.here)))
    (cases_order l m)

-- bytes of values have the right length
right_length : (k want found : ℕ) (xs proof : List ℕ) → WritesValues k xs proof → want ≡ 8 * k → found ≡ length proof → found ≢ want → ⊥
right_length k want found xs proof w e f n = n (f ∙ length-written k xs proof w ∙ sym e)

pub one_verdict : OneVerdict
one_verdict id k c proof (Accepted q) (Accepted r) h g =
    ap Accepted (h.3 ∙ ap (quality_of k c) (writes_values-one k h.0 g.0 proof h.1 g.1) ∙ sym g.3)
one_verdict id k c proof (Accepted q) (WrongLength want found) h g = absurd (right_length k want found h.0 proof h.1 g.0 g.1 g.2)
one_verdict id k c proof (Accepted q) (NoMatch l p) h g =
    absurd (no_proof-failing id k c proof g.0 l p g.1 g.2 (h.0, h.1, h.2))
one_verdict id k c proof (Accepted q) (WrongChallenge want found) h g =
    absurd (no_proof-challenge id k c proof g.0 found g.1 g.2 (λ e. g.4 (e ∙ sym g.3)) (h.0, h.1, h.2))
one_verdict id k c proof (WrongLength want found) (Accepted q) h g = absurd (right_length k want found g.0 proof g.1 h.0 h.1 h.2)
one_verdict id k c proof (WrongLength want found) (WrongLength want2 found2) h g =
    ap₂ (λ a b. WrongLength a b) (h.0 ∙ sym g.0) (h.1 ∙ sym g.1)
one_verdict id k c proof (WrongLength want found) (NoMatch l p) h g = absurd (right_length k want found g.0 proof g.1 h.0 h.1 h.2)
one_verdict id k c proof (WrongLength want found) (WrongChallenge want2 found2) h g =
    absurd (right_length k want found g.0 proof g.1 h.0 h.1 h.2)
one_verdict id k c proof (NoMatch l p) (Accepted q) h g =
    absurd (no_proof-failing id k c proof h.0 l p h.1 h.2 (g.0, g.1, g.2))
one_verdict id k c proof (NoMatch l p) (WrongLength want found) h g = absurd (right_length k want found h.0 proof h.1 g.0 g.1 g.2)
one_verdict id k c proof (NoMatch l p) (NoMatch m q) h g =
    let same : g.0 ≡ h.0 = writes_values-one k g.0 h.0 proof g.1 h.1 in
    let one = fails_first-one id k h.0 l m p q h.2 (subst (λ xs. FailsFirst id k xs m q) same g.2) in
    ap₂ (λ a b. NoMatch a b) one.0 one.1
one_verdict id k c proof (NoMatch l p) (WrongChallenge want found) h g =
    let same : h.0 ≡ g.0 = writes_values-one k h.0 g.0 proof h.1 g.1 in
    absurd (some_or_none _ (subst IsSome (sym g.2) refl) (ap (f7 id k) (sym same) ∙ no_f7-failing id k h.0 l p h.1.count h.2))
one_verdict id k c proof (WrongChallenge want found) (Accepted q) h g =
    absurd (no_proof-challenge id k c proof h.0 found h.1 h.2 (λ e. h.4 (e ∙ sym h.3)) (g.0, g.1, g.2))
one_verdict id k c proof (WrongChallenge want found) (WrongLength want2 found2) h g =
    absurd (right_length k want2 found2 h.0 proof h.1 g.0 g.1 g.2)
one_verdict id k c proof (WrongChallenge want found) (NoMatch l p) h g =
    let same : g.0 ≡ h.0 = writes_values-one k g.0 h.0 proof g.1 h.1 in
    absurd (some_or_none _ (subst IsSome (sym h.2) refl) (ap (f7 id k) (sym same) ∙ no_f7-failing id k g.0 l p g.1.count g.2))
one_verdict id k c proof (WrongChallenge want found) (WrongChallenge want2 found2) h g =
    let same : h.0 ≡ g.0 = writes_values-one k h.0 g.0 proof h.1 g.1 in
    let both : ◌≡◌ {A = Option ℕ} (Some found) (Some found2) = sym h.2 ∙ ap (f7 id k) same ∙ g.2 in
    let founds : found ≡ found2 = cc in
    ap₂ (λ a b. WrongChallenge a b) (h.3 ∙ sym g.3) founds
