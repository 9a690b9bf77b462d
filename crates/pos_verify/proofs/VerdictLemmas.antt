-- What each verdict says of proofs: only an accepted list of bytes is one.
use Rattle.std.proofs.Common.{◌≡◌, ◌≢◌, ℕ, zero, suc, ◌+◌, ◌-◌, ◌*◌, ◌/◌, ◌^◌, ◌<◌, List, length, refl, sym, ap, ap₂, ◌∙◌, arith, ◌⊎◌, ⊎_elim, true, false, true≢false}
use Rattle.std.specs.Prelude.{Option, Some, None}
use Rattle.pos_tuple.specs.declared.entry.Entry.{Entry}
use Rattle.pos_tuple.specs.Node.{joined, node}
use Rattle.pos_tuple.specs.Proof.{challenge_value, f7}
use Rattle.pos_order.specs.Values.{WritesValues}
use Rattle.pos_order.proofs.PlotOrderLemmas.{double}
use Rattle.pos_order.proofs.ValuesLemmas.{writes_values-one, length-written}
use Rattle.pos_verify.specs.Verdict.{group, FailsFirst, IsProofBytes}
use Rattle.pos_verify.proofs.LevelLemmas.{node-group, group-whole}

pub f7-node : (id : List ℕ) (k : ℕ) (xs : List ℕ) (root : Entry) → node id k 6 xs ≡ Some root → f7 id k xs ≡ Some (root.y / 64)
unfolding f7
f7-node id k xs root e = rw e refl

-- two entries join only where there are both
joined-left_none : (k t : ℕ) (r : Option Entry) → joined k t None r ≡ None
unfolding joined
joined-left_none k t r = refl

joined-right_none : (k t : ℕ) (l : Option Entry) → joined k t l None ≡ None
unfolding joined
joined-right_none k t None = refl
joined-right_none k t (Some l) = refl

-- a group without a node leaves the group around it without one
none-up :
    (id : List ℕ) (k n q : ℕ) (xs : List ℕ) → node id k n (group n q xs) ≡ None
    → node id k (suc n) (group (suc n) (q / 2) xs) ≡ None
none-up id k n q xs e =
    ⊎_elim
    (λ (even : 2 * (q / 2) ≡ q).
    node-group id k n (q / 2) xs
    ∙ ap (λ l. joined k (n + 2) l (node id k n (group n (2 * (q / 2) + 1) xs))) (ap (λ p. node id k n (group n p xs)) even ∙ e)
    ∙ joined-left_none k (n + 2) (node id k n (group n (2 * (q / 2) + 1) xs)))
    (λ (odd : 2 * (q / 2) + 1 ≡ q).
    node-group id k n (q / 2) xs
    ∙ ap (joined k (n + 2) (node id k n (group n (2 * (q / 2)) xs))) (ap (λ p. node id k n (group n p xs)) odd ∙ e)
    ∙ joined-right_none k (n + 2) (node id k n (group n (2 * (q / 2)) xs)))
    (halves q)
  where
    halves : (q : ℕ) → (2 * (q / 2) ≡ q) ⊎ (2 * (q / 2) + 1 ≡ q)
    halves q = grind arith

-- up to the whole tuple
pub none-whole :
    (id : List ℕ) (k d n q : ℕ) (xs : List ℕ) → n + d ≡ 6 → q < 2 ^ d → length xs ≡ 64
    → node id k n (group n q xs) ≡ None → node id k 6 xs ≡ None
none-whole id k zero n q xs top inside len e =
    let six : n ≡ 6 = omega arith in
    let first : q ≡ 0 = omega arith in
    ap (node id k 6) (sym (group-whole xs len))
    ∙ ap₂ (λ m p. node id k m (group m p xs)) (sym six) (sym first) ∙ e
none-whole id k (suc d) n q xs top inside len e =
    let twice : 2 ^ suc d ≡ 2 ^ d + 2 ^ d = double d in
    none-whole id k d (suc n) (q / 2) xs (omega arith) (omega arith) len (none-up id k n q xs e)

pub no_proof-length : (id : List ℕ) (k : ℕ) (c proof : List ℕ) → length proof ≢ 8 * k → IsProofBytes id k c proof → ⊥
no_proof-length id k c proof other h = other (length-written k h.0 proof h.1)

-- values whose halves fail to match somewhere have no f7
pub no_f7-failing :
    (id : List ℕ) (k : ℕ) (xs : List ℕ) (level pair : ℕ) → length xs ≡ 64 → FailsFirst id k xs level pair → f7 id k xs ≡ None
unfolding f7
no_f7-failing id k xs level pair count fails =
    let up : level + (6 - level) ≡ 6 = omega (arith, fails.to_level) in
    let none = none-whole id k (6 - level) level pair xs up fails.inside count fails.here in
    rw none refl

pub no_proof-failing :
    (id : List ℕ) (k : ℕ) (c proof xs : List ℕ) (level pair : ℕ) → WritesValues k xs proof → FailsFirst id k xs level pair
    → IsProofBytes id k c proof → ⊥
no_proof-failing id k c proof xs level pair written fails h =
    let same : h.0 ≡ xs = writes_values-one k h.0 xs proof h.1 written in
    let empty : f7 id k h.0 ≡ None = ap (f7 id k) same ∙ no_f7-failing id k xs level pair written.count fails in
    let answer : ◌≡◌ {A = Option ℕ} None (Some (challenge_value k c)) = sym empty ∙ h.2.answers in
    true≢false (let t : true ≡ false = cc in t)

pub no_proof-challenge :
    (id : List ℕ) (k : ℕ) (c proof xs : List ℕ) (found : ℕ) → WritesValues k xs proof → f7 id k xs ≡ Some found
    → found ≢ challenge_value k c → IsProofBytes id k c proof → ⊥
no_proof-challenge id k c proof xs found written is other h =
    let same : h.0 ≡ xs = writes_values-one k h.0 xs proof h.1 written in
    let both : Some found ≡ Some (challenge_value k c) = sym is ∙ ap (f7 id k) (sym same) ∙ h.2.answers in
    let value : found ≡ challenge_value k c = cc in other value
