-- What a walk and a branch over any readings give, where they meet nothing wrong.
use Rattle.std.proofs.Common.{◌≡◌, ℕ, zero, suc, ◌+◌, ◌-◌, ◌^◌, ◌<◌, nat_lt, if◌then◌else◌, ◌⊎◌, inl, inr, ⊎_elim, Bool, true, false, List, [], ◌∷◌, ◌++◌, length, All, Result, Ok, Err, sym, refl, ap, ap₂, ◌∙◌, subst, arith, length-append}
use Rattle.std.proofs.lemmas.Bool.{false≢true}
use Rattle.std.proofs.lemmas.List.Elements.{All-append, All-nil, All-cons}
use Rattle.pos_lists.specs.Pairs.{greater, lesser}
use Rattle.pos_lists.specs.Walk.{after, join_ok, walk, limb}
use Rattle.pos_lists.proofs.PairLemmas.{pairs_are_in_order}
use Rattle.pos_order.proofs.PlotOrderLemmas.{double}
use Rattle.pos_laws.specs.WalkLaws.{WalksHaveTheirLength, WalksHaveTheirValues, LimbsHaveTheirValues}

-- whether a result is Ok
went_well : {A E : Type 0} → Result A E → Bool
went_well (Ok x) = true
went_well (Err e) = false

-- a result that came after another came after one that is Ok
came_after : {E A B : Type 0} (r : Result A E) (f : A → Result B E) (y : B) → after r f ≡ Ok y → (x : A) × (r ≡ Ok x) × (f x ≡ Ok y)
unfolding went_well
came_after (Ok x) f y e = (x, refl, e)
came_after (Err d) f y e = absurd (false≢true (ap went_well e))

-- and a list that was joined, of two that are
both_joined : {E : Type 0} (a b : Result (List ℕ) E) (zs : List ℕ) → join_ok a b ≡ Ok zs →
    (xs : List ℕ) × (ys : List ℕ) × (a ≡ Ok xs) × (b ≡ Ok ys) × (zs ≡ xs ++ ys)
unfolding went_well
both_joined (Ok xs) (Ok ys) zs e = (xs, ys, refl, refl, let f : xs ++ ys ≡ zs = cc in sym f)
both_joined (Ok xs) (Err d) zs e = absurd (false≢true (ap went_well e))
both_joined (Err d) b zs e = absurd (false≢true (ap went_well e))

-- the number that a walk reads first, and the two walks below it
record Walked {E : Type 0} (num : ℕ → ℕ → Result ℕ E) (n i : ℕ) (zs : List ℕ) : Type 0 where
  s : ℕ
  xs : List ℕ
  ys : List ℕ
  read : num (suc n) i ≡ Ok s
  low : walk num n (lesser s) ≡ Ok xs
  high : walk num n (greater s) ≡ Ok ys
  joined : zs ≡ xs ++ ys

walked : {E : Type 0} (num : ℕ → ℕ → Result ℕ E) (n i : ℕ) (zs : List ℕ) → walk num (suc n) i ≡ Ok zs → Walked num n i zs
unfolding walk
walked num n i zs e =
    let a = came_after (num (suc n) i) (λ s. join_ok (walk num n (lesser s)) (walk num n (greater s))) zs e in
    let b = both_joined (walk num n (lesser a.0)) (walk num n (greater a.0)) zs a.2 in
    record { s = a.0; xs = b.0; ys = b.1; read = a.1; low = b.2; high = b.3; joined = b.4 }

one_value : {E : Type 0} (num : ℕ → ℕ → Result ℕ E) (i : ℕ) (xs : List ℕ) → walk num 0 i ≡ Ok xs → xs ≡ i ∷ []
unfolding walk
one_value num i xs e = let f : i ∷ [] ≡ xs = cc in sym f

pub walks_have_their_length : {E : Type 0} → WalksHaveTheirLength E
walks_have_their_length num zero i xs e = ap length (one_value num i xs e)
walks_have_their_length num (suc n) i xs e =
    let w = walked num n i xs e in
    ap length w.joined ∙ length-append w.xs w.ys
    ∙ ap₂ (λ a b. a + b) (walks_have_their_length num n _ w.xs w.low) (walks_have_their_length num n _ w.ys w.high)
    ∙ sym (double n)

pub walks_have_their_values : {E : Type 0} → WalksHaveTheirValues E
walks_have_their_values num k zero i xs reads e =
    let w = walked num 0 i xs e in
    let top = reads i w.s w.read in
    let order = pairs_are_in_order w.s in
    subst (All (λ x. x < 2 ^ k)) (sym (w.joined ∙ ap₂ (λ a b. a ++ b) (one_value num _ w.xs w.low) (one_value num _ w.ys w.high)))
    (All-cons (λ x. x < 2 ^ k) (lesser w.s) (greater w.s ∷ []) (omega arith)
    (All-cons (λ x. x < 2 ^ k) (greater w.s) [] top (All-nil (λ x. x < 2 ^ k))))
walks_have_their_values num k (suc n) i xs reads e =
    let w = walked num (suc n) i xs e in
    subst (All (λ x. x < 2 ^ k)) (sym w.joined)
    (All-append (λ x. x < 2 ^ k) w.xs w.ys
    (walks_have_their_values num k n _ w.xs reads w.low)
    (walks_have_their_values num k n _ w.ys reads w.high))

-- the two values of a result
two_of : {E : Type 0} → Result (ℕ × ℕ) E → ℕ × ℕ
two_of (Ok p) = p
two_of (Err e) = (0, 0)

-- a branch follows one of two branches
one_of_two : {A : Type 0} (b : Bool) (x y z : A) → (if b then x else y) ≡ z → (x ≡ z) ⊎ (y ≡ z)
one_of_two true x y z e = inl e
one_of_two false x y z e = inr e

pub limbs_have_their_values : {E : Type 0} → LimbsHaveTheirValues E
unfolding limb two_of
limbs_have_their_values num k zero q i x y reads e =
    let a = came_after (num 1 i) (λ s. Ok (lesser s, greater s)) (x, y) e in
    let low : lesser a.0 ≡ x = ap (λ r. (two_of r).0) a.2 in
    let high : greater a.0 ≡ y = ap (λ r. (two_of r).1) a.2 in
    let top = reads i a.0 a.1 in
    let order = pairs_are_in_order a.0 in
    (omega arith, omega arith)
limbs_have_their_values num k (suc n) q i x y reads e =
    let a = came_after (num (suc (suc n)) i)
    (λ s. if nat_lt q (2 ^ n) then limb num n q (lesser s) else limb num n (q - 2 ^ n) (greater s)) (x, y) e in
    ⊎_elim
    (λ (h : limb num n q (lesser a.0) ≡ Ok (x, y)). limbs_have_their_values num k n q _ x y reads h)
    (λ (h : limb num n (q - 2 ^ n) (greater a.0) ≡ Ok (x, y)). limbs_have_their_values num k n _ _ x y reads h)
    (one_of_two (nat_lt q (2 ^ n)) _ _ _ a.2)
