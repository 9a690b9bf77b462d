-- Where the walk from a place meets nothing wrong, neither does a branch of it, and ends at two values of the walk.
use Rattle.std.proofs.Common.{◌≡◌, ℕ, zero, suc, ◌+◌, ◌-◌, ◌*◌, ◌^◌, ◌<◌, ◌≤◌, ⊎_elim, List, [], ◌∷◌, ◌++◌, length, slice_index, Result, Ok, Err, refl, sym, ap, ap₂, ◌∙◌, subst, arith, lt-ltb, le-ltb}
use Rattle.std.proofs.lemmas.Bool.{cases_lt}
use Rattle.std.proofs.lemmas.List.{get_or_append_left, get_or-append_right}
use Rattle.pos_order.proofs.PlotOrderLemmas.{double}
use Rattle.pos_order.specs.Quality.{pair_quality, quality_index}
use Rattle.pos_lists.specs.Pairs.{greater, lesser}
use Rattle.pos_lists.specs.PlotLists.{place_in}
use Rattle.pos_lists.specs.Walk.{after, join_ok, walk, limb, walk_from, limb_from}
use Rattle.pos_laws.specs.Listing.{pair_in}
use Rattle.pos_laws.proofs.Branches.{index_below}
use Rattle.pos_laws.proofs.Readings.{walks_have_their_length}
use Rattle.pos_layout.specs.declared.damage.Damage.{Damage}
use Rattle.pos_layout.specs.Fields.{header_in, layout_in}
use Rattle.pos_layout.specs.Reading.{num, then_read}
use Rattle.pos_harvest.specs.Places.{tuple_at, quality_in}

-- ---- a pair of a tuple stands in one of its halves

pair_left : (n q : ℕ) (a b : List ℕ) → length a ≡ 2 ^ suc n → q < 2 ^ n → pair_in q (a ++ b) ≡ pair_in q a
unfolding pair_in
pair_left n q a b e l =
    let d = double n in
    ap₂ {C = ℕ × ℕ} (λ x y. (x, y))
    (get_or_append_left a b 0 (2 * q) (omega arith)) (get_or_append_left a b 0 (2 * q + 1) (omega arith))

pair_right : (n q : ℕ) (a b : List ℕ) → length a ≡ 2 ^ suc n → 2 ^ n ≤ q → pair_in q (a ++ b) ≡ pair_in (q - 2 ^ n) b
unfolding pair_in
pair_right n q a b e l =
    let d = double n in
    let f : 2 * q - 2 ^ suc n ≡ 2 * (q - 2 ^ n) = omega arith in
    let g : 2 * q + 1 - 2 ^ suc n ≡ 2 * (q - 2 ^ n) + 1 = omega arith in
    ap₂ {C = ℕ × ℕ} (λ x y. (x, y))
    (get_or-append_right a b (2 ^ suc n) (2 * q) 0 e (omega arith) ∙ ap (slice_index b) f)
    (get_or-append_right a b (2 ^ suc n) (2 * q + 1) 0 e (omega arith) ∙ ap (slice_index b) g)

-- ---- what a walk that meets nothing wrong has read

after_ok : {A B : Type 0} (r : Result A Damage) (f : A → Result B Damage) (y : B) → after r f ≡ Ok y → (x : A) × (r ≡ Ok x) × (f x ≡ Ok y)
after_ok (Ok x) f y e = (x, refl, e)
after_ok (Err d) f y e = cc

join_went : (r s : Result (List ℕ) Damage) (ys : List ℕ) → join_ok r s ≡ Ok ys → (xs : List ℕ) × (zs : List ℕ) × (r ≡ Ok xs) × (s ≡ Ok zs) × (ys ≡ xs ++ zs)
join_went (Err d) s ys e = cc
join_went (Ok xs) (Err d) ys e = cc
join_went (Ok xs) (Ok zs) ys e = (xs, zs, refl, refl, (let same : xs ++ zs ≡ ys = cc in sym same))

limb_low : (num : ℕ → ℕ → Result ℕ Damage) (n q i s : ℕ) → num (suc (suc n)) i ≡ Ok s → q < 2 ^ n → limb num (suc n) q i ≡ limb num n q (lesser s)
unfolding limb
limb_low num n q i s found l = let t = lt-ltb q (2 ^ n) l in rw (found, t) refl

limb_high : (num : ℕ → ℕ → Result ℕ Damage) (n q i s : ℕ) → num (suc (suc n)) i ≡ Ok s → 2 ^ n ≤ q → limb num (suc n) q i ≡ limb num n (q - 2 ^ n) (greater s)
unfolding limb
limb_high num n q i s found l = let t = le-ltb q (2 ^ n) l in rw (found, t) refl

limb_first : (num : ℕ → ℕ → Result ℕ Damage) (i s : ℕ) → num 1 i ≡ Ok s → limb num 0 0 i ≡ Ok (pair_in 0 (lesser s ∷ greater s ∷ []))
unfolding limb pair_in
limb_first num i s found = rw found refl

walk_parts : (num : ℕ → ℕ → Result ℕ Damage) (n i : ℕ) (ys : List ℕ) → walk num (suc n) i ≡ Ok ys
    → (s : ℕ) × (num (suc n) i ≡ Ok s) × (join_ok (walk num n (lesser s)) (walk num n (greater s)) ≡ Ok ys)
unfolding walk
walk_parts num n i ys e = after_ok (num (suc n) i) (λ s. join_ok (walk num n (lesser s)) (walk num n (greater s))) ys e

walk_value : (num : ℕ → ℕ → Result ℕ Damage) (i : ℕ) (xs : List ℕ) → walk num 0 i ≡ Ok xs → xs ≡ i ∷ []
unfolding walk
walk_value num i xs e = cc

-- the branch that the bits of q choose ends at the pair number q of the walk
pub limb_of_walk : (num : ℕ → ℕ → Result ℕ Damage) (n q i : ℕ) (ys : List ℕ) → q < 2 ^ n → walk num (suc n) i ≡ Ok ys → limb num n q i ≡ Ok (pair_in q ys)
limb_of_walk num zero q i ys few e =
    let none : 0 ≡ q = omega arith in
    let w = walk_parts num 0 i ys e in
    let j = join_went (walk num 0 (lesser w.0)) (walk num 0 (greater w.0)) ys w.2 in
    let two : ys ≡ lesser w.0 ∷ greater w.0 ∷ [] = j.4 ∙ ap₂ (λ xs zs. xs ++ zs) (walk_value num (lesser w.0) j.0 j.2) (walk_value num (greater w.0) j.1 j.3) in
    subst (λ q. limb num 0 q i ≡ Ok (pair_in q ys)) none
    (limb_first num i w.0 w.1 ∙ ap (λ ys. Ok (pair_in 0 ys)) (sym two))
limb_of_walk num (suc n) q i ys few e =
    let d = double n in
    let w = walk_parts num (suc n) i ys e in
    let j = join_went (walk num (suc n) (lesser w.0)) (walk num (suc n) (greater w.0)) ys w.2 in
    let len : length j.0 ≡ 2 ^ suc n = walks_have_their_length num (suc n) (lesser w.0) j.0 j.2 in
    ⊎_elim
    (λ (h : q < 2 ^ n).
    limb_low num n q i w.0 w.1 h ∙ limb_of_walk num n q (lesser w.0) j.0 h j.2
    ∙ ap (λ p. Ok p) (sym (pair_left n q j.0 j.1 len h) ∙ ap (pair_in q) (sym j.4)))
    (λ (h : 2 ^ n ≤ q).
    limb_high num n q i w.0 w.1 h ∙ limb_of_walk num n (q - 2 ^ n) (greater w.0) j.1 (omega arith) j.3
    ∙ ap (λ p. Ok p) (sym (pair_right n q j.0 j.1 len h) ∙ ap (pair_in q) (sym j.4)))
    (cases_lt q (2 ^ n))

-- ---- from a place of table 7

limb_from-walk : (num : ℕ → ℕ → Result ℕ Damage) (k q i : ℕ) (ys : List ℕ) → q < 2 ^ 5 → walk_from num k i ≡ Ok ys → limb_from num k q i ≡ Ok (pair_in q ys)
unfolding walk_from limb_from
limb_from-walk num k q i ys few e =
    let w = after_ok (num 7 i) (λ s. walk num 6 (place_in k s)) ys e in
    rw (w.1) (limb_of_walk num 5 q (place_in k w.0) ys few w.2)

-- so where a place has its values, it has a quality: that of the pair of them that the challenge chooses
pub quality_of_tuple : (b c : List ℕ) (i : ℕ) (values : List ℕ) → tuple_at (layout_in b) b i ≡ Ok values
    → quality_in (layout_in b) b c i ≡ Ok (pair_quality (header_in b).size c (pair_in (quality_index c) values).0 (pair_in (quality_index c) values).1)
unfolding tuple_at quality_in
quality_of_tuple b c i values read =
    let k = (header_in b).size in
    ap (λ r. then_read r (λ (pair : ℕ × ℕ). Ok (pair_quality k c pair.0 pair.1)))
    (limb_from-walk (num (layout_in b) b) k (quality_index c) i values (index_below c) read)
