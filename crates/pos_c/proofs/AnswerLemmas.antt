-- The number of the right verdict is the right answer, and no other is.
use Rattle.std.proofs.Common.{◌≡◌, ◌≢◌, ℕ, ◌+◌, ◌-◌, ◌*◌, List, length, refl, sym, ap, ◌∙◌, arith, ⊎_elim, true, false, true≢false, subst}
use Rattle.std.specs.Prelude.{Option, Some, None}
use Rattle.pos_tuple.specs.Node.{node}
use Rattle.pos_tuple.specs.Proof.{challenge_value, f7}
use Rattle.pos_order.specs.Values.{WritesValues}
use Rattle.pos_order.proofs.ValuesLemmas.{writes_values-one, length-written}
use Rattle.pos_verify.specs.Verdict.{FailsFirst, IsProofBytes, IsRight}
use Rattle.pos_verify.specs.declared.Verdict.{Verdict}
use Rattle.pos_verify.specs.declared.Verdict.TheVariants.{Accepted, WrongLength, NoMatch, WrongChallenge}
use Rattle.pos_verify.proofs.VerdictLemmas.{no_proof-length, no_proof-failing, no_proof-challenge, none-whole}
use Rattle.pos_verify.proofs.OneVerdictLemmas.{one_verdict}
use Rattle.pos_c.specs.declared.answer.Answer.{Answer}
use Rattle.pos_c.specs.Answers.{IsAnswer, HasBadPair, AnswersOthers, Tells, answer_number, telling}

-- values without a node have no f7
no_f7 : (id : List ℕ) (k : ℕ) (xs : List ℕ) → node id k 6 xs ≡ None → f7 id k xs ≡ None
unfolding f7
no_f7 id k xs e = rw e refl

-- so what has an f7 has no pair that does not match
pub not_bad :
    (id : List ℕ) (k : ℕ) (proof xs : List ℕ) (found : ℕ) → WritesValues k xs proof → f7 id k xs ≡ Some found
    → HasBadPair id k proof → ⊥
not_bad id k proof xs found written is h =
    let same : h.0 ≡ xs = writes_values-one k h.0 xs proof h.1 written in
    let empty : f7 id k xs ≡ None = ap (f7 id k) (sym same) ∙ no_f7 id k h.0 h.2 in
    let both : ◌≡◌ {A = Option ℕ} None (Some found) = sym empty ∙ is in
    true≢false (let t : true ≡ false = cc in t)

-- the first pair that fails is one that does not match
pub bad_of_first :
    (id : List ℕ) (k : ℕ) (proof xs : List ℕ) (level pair : ℕ) → WritesValues k xs proof → FailsFirst id k xs level pair
    → HasBadPair id k proof
bad_of_first id k proof xs level pair written fails =
    let up : level + (6 - level) ≡ 6 = omega (arith, fails.to_level) in
    (xs, written, none-whole id k (6 - level) level pair xs up fails.inside written.count fails.here)

-- a proof answers no challenges with another number
pub not_others : (id : List ℕ) (k : ℕ) (c proof : List ℕ) → IsProofBytes id k c proof → AnswersOthers id k c proof → ⊥
not_others id k c proof p h = no_proof-challenge id k c proof h.0 h.2 h.1 h.3 h.4 p

-- wrong arguments have the last answer alone
pub answer-none :
    (fits : Type 0) (id : List ℕ) (k : ℕ) (c proof : List ℕ) → (fits → ⊥) → IsAnswer fits id k c proof 4
answer-none fits id k c proof none = record {
  accepted = (λ (e : 4 ≡ 0). absurd (omega arith), λ h. absurd (none h.0));
  wrong_length = (λ (e : 4 ≡ 1). absurd (omega arith), λ h. absurd (none h.0));
  no_match = (λ (e : 4 ≡ 2). absurd (omega arith), λ h. absurd (none h.0));
  wrong_challenge = (λ (e : 4 ≡ 3). absurd (omega arith), λ h. absurd (none h.0));
  wrong_arguments = (λ _. none, λ _. refl);
}

-- a right verdict has its own
pub answer-verdict :
    (fits : Type 0) (id : List ℕ) (k : ℕ) (c proof : List ℕ) (v : Verdict) → fits → IsRight id k c proof v
    → IsAnswer fits id k c proof (answer_number v)
answer-verdict fits id k c proof (Accepted q) f h =
    let is : IsProofBytes id k c proof = (h.0, h.1, h.2) in
    record {
      accepted = (λ _. (f, is), λ _. refl);
      wrong_length = (λ (e : 0 ≡ 1). absurd (omega arith), λ g. absurd (g.1 (length-written k h.0 proof h.1)));
      no_match = (λ (e : 0 ≡ 2). absurd (omega arith), λ g. absurd (not_bad id k proof h.0 (challenge_value k c) h.1 h.2.answers g.1));
      wrong_challenge = (λ (e : 0 ≡ 3). absurd (omega arith), λ g. absurd (not_others id k c proof is g.1));
      wrong_arguments = (λ (e : 0 ≡ 4). absurd (omega arith), λ g. absurd (g f));
    }
answer-verdict fits id k c proof (WrongLength want found) f h =
    let other : length proof ≢ 8 * k = λ e. h.2 (h.1 ∙ e ∙ sym h.0) in
    record {
      accepted = (λ (e : 1 ≡ 0). absurd (omega arith), λ g. absurd (no_proof-length id k c proof other g.1));
      wrong_length = (λ _. (f, other), λ _. refl);
      no_match = (λ (e : 1 ≡ 2). absurd (omega arith), λ g. absurd (other (length-written k g.1.0 proof g.1.1)));
      wrong_challenge = (λ (e : 1 ≡ 3). absurd (omega arith), λ g. absurd (other (length-written k g.1.0 proof g.1.1)));
      wrong_arguments = (λ (e : 1 ≡ 4). absurd (omega arith), λ g. absurd (g f));
    }
answer-verdict fits id k c proof (NoMatch level pair) f h =
    let bad : HasBadPair id k proof = bad_of_first id k proof h.0 level pair h.1 h.2 in
    record {
      accepted = (λ (e : 2 ≡ 0). absurd (omega arith), λ g. absurd (no_proof-failing id k c proof h.0 level pair h.1 h.2 g.1));
      wrong_length = (λ (e : 2 ≡ 1). absurd (omega arith), λ g. absurd (g.1 (length-written k h.0 proof h.1)));
      no_match = (λ _. (f, bad), λ _. refl);
      wrong_challenge = (λ (e : 2 ≡ 3). absurd (omega arith), λ g. absurd (not_bad id k proof g.1.0 g.1.2 g.1.1 g.1.3 bad));
      wrong_arguments = (λ (e : 2 ≡ 4). absurd (omega arith), λ g. absurd (g f));
    }
answer-verdict fits id k c proof (WrongChallenge want found) f h =
    let others : AnswersOthers id k c proof = (h.0, h.1, found, h.2, λ e. h.4 (e ∙ sym h.3)) in
    record {
      accepted = (λ (e : 3 ≡ 0). absurd (omega arith), λ g. absurd (not_others id k c proof g.1 others));
      wrong_length = (λ (e : 3 ≡ 1). absurd (omega arith), λ g. absurd (g.1 (length-written k h.0 proof h.1)));
      no_match = (λ (e : 3 ≡ 2). absurd (omega arith), λ g. absurd (not_bad id k proof h.0 found h.1 h.2 g.1));
      wrong_challenge = (λ _. (f, others), λ _. refl);
      wrong_arguments = (λ (e : 3 ≡ 4). absurd (omega arith), λ g. absurd (g f));
    }

-- the verdict of an answer that tells one
telling-verdict : (v : Verdict) (old : Answer) → (telling v old).verdict ≡ answer_number v
telling-verdict (Accepted q) old = refl
telling-verdict (WrongLength want found) old = refl
telling-verdict (NoMatch level pair) old = refl
telling-verdict (WrongChallenge want found) old = refl

-- an answer that tells the right verdict has its number
pub tells-answer :
    (fits : Type 0) (id : List ℕ) (k : ℕ) (c proof : List ℕ) (old new : Answer) → Tells fits id k c proof old new
    → IsAnswer fits id k c proof new.verdict
tells-answer fits id k c proof old new t =
    ⊎_elim
    (λ h.
    let same : new.verdict ≡ answer_number h.1.0 = ap (λ (a : Answer). a.verdict) h.1.2 ∙ telling-verdict h.1.0 old in
    subst (IsAnswer fits id k c proof) (sym same) (answer-verdict fits id k c proof h.1.0 h.0 h.1.1))
    (λ h.
    let same : new.verdict ≡ 4 = ap (λ (a : Answer). a.verdict) h.1 in
    subst (IsAnswer fits id k c proof) (sym same) (answer-none fits id k c proof h.0))
    t

-- two answers that tell it are one
pub tells-one :
    (fits : Type 0) (id : List ℕ) (k : ℕ) (c proof : List ℕ) (old a b : Answer) → Tells fits id k c proof old a
    → Tells fits id k c proof old b → a ≡ b
tells-one fits id k c proof old a b t u =
    ⊎_elim
    (λ h.
    ⊎_elim
    (λ g. h.1.2 ∙ ap (λ v. telling v old) (one_verdict id k c proof h.1.0 g.1.0 h.1.1 g.1.1) ∙ sym g.1.2)
    (λ g. absurd (g.0 h.0))
    u)
    (λ h. ⊎_elim (λ g. absurd (h.0 g.0)) (λ g. h.1 ∙ sym g.1) u)
    t
