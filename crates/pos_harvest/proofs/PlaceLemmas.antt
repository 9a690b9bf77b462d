-- Where numbers point, and what a walk and a branch are by one step.
use Rattle.std.proofs.Common.{◌≡◌, ℕ, zero, suc, ◌+◌, ◌-◌, ◌*◌, ◌/◌, ◌%◌, ◌^◌, ◌<◌, ◌≤◌, ◌≢◌, true, false, nat_lt, List, [], ◌∷◌, ◌++◌, length, slice_set, Result, Ok, Err, refl, sym, ap, ◌∙◌, subst, arith, ltb-true, lt-ltb, pow_mono}
use Rattle.pos_order.proofs.PlotOrderLemmas.{double}
use Rattle.pos_lists.specs.Pairs.{greater, lesser}
use Rattle.pos_lists.specs.PlotLists.{place_in}
use Rattle.pos_lists.specs.Walk.{walk, limb, walk_from, limb_from}
use Rattle.pos_layout.specs.declared.damage.Damage.{Damage}
use Rattle.pos_layout.specs.declared.header.Header.{Header}
use Rattle.pos_layout.specs.Fields.{count_of}
use Rattle.pos_layout.specs.Lists.{points_inside}
use Rattle.pos_reader.proofs.HeaderLemmas.{both_right}
use Rattle.pos_reader.proofs.ParkLemmas.{lt_false, pointed_first, pointed_middle}
use Rattle.pos_harvest.specs.Searches.{places_of}

-- a number of a table has a line point that `from_point` takes
pub point_small : (k n : ℕ) → k ≤ 50 → n < 2 ^ (2 * k + 2) → n < 2 ^ 124
point_small k n small below =
    let most : 2 ^ (2 * k + 2) ≤ 2 ^ 124 = pow_mono {i = 2 * k + 2} {j = 124} (omega arith) in
    omega arith

-- the greater place of a pair of tables 1 to 6 is inside the table below
pub pair_inside : (h : Header) (t n : ℕ) → 1 ≤ t → t ≤ 6 → points_inside h.size t (count_of h (t - 1)) n ≡ true → greater n < places_of h (t - 1)
pair_inside h zero n first last e = absurd (omega arith)
pair_inside h (suc zero) n first last e = ltb-true _ _ (sym (pointed_first h.size 1 (count_of h (1 - 1)) n refl) ∙ e)
pair_inside h (suc (suc u)) n first last e =
    let apart : suc (suc u) ≢ 1 = λ s. absurd (omega arith) in
    let below : suc (suc u) ≢ 7 = λ s. absurd (omega arith) in
    let back : suc (suc u) - 1 ≡ suc u = omega arith in
    let inside = ltb-true _ _ (sym (pointed_middle h.size (suc (suc u)) (count_of h (suc (suc u) - 1)) n apart below) ∙ e) in
    subst (λ m. greater n < places_of h m) (sym back) (subst (λ m. greater n < count_of h m) back inside)

-- so it is a value in table 1, and a place in the others
pub value_inside : (h : Header) (t n : ℕ) → t ≡ 1 → points_inside h.size t (count_of h (t - 1)) n ≡ true → greater n < 2 ^ h.size
value_inside h t n one e = ltb-true _ _ (sym (pointed_first h.size t (count_of h (t - 1)) n one) ∙ e)

pub place_below : (h : Header) (t n : ℕ) → (t ≡ 1 → ⊥) → 1 ≤ t → t ≤ 6 → points_inside h.size t (count_of h (t - 1)) n ≡ true → greater n < count_of h (t - 1)
place_below h t n apart first last e =
    let below : t ≢ 7 = λ s. absurd (omega arith) in
    ltb-true _ _ (sym (pointed_middle h.size t (count_of h (t - 1)) n apart below) ∙ e)

-- half of the branches, as the code shifts it
pub half_is : (t : ℕ) → t ≤ 6 → (1 * 2 ^ (t - 2)) % 256 ≡ 2 ^ (t - 2)
half_is t last =
    let most : 2 ^ (t - 2) ≤ 2 ^ 4 = pow_mono {i = t - 2} {j = 4} (omega arith) in
    omega arith

-- the place in a number of table 7 is one of table 6
pub place_inside : (h : Header) (n : ℕ) → points_inside h.size 7 (count_of h 6) n ≡ true → place_in h.size n < count_of h 6
unfolding points_inside
place_inside h n e = ltb-true _ _ (both_right (nat_lt (n / 2 ^ (h.size + 1)) (2 ^ h.size)) _ e)

-- ---- one step of a walk

pub walk_value : (num : ℕ → ℕ → Result ℕ Damage) (t i : ℕ) → t ≡ 0 → walk num t i ≡ Ok (i ∷ [])
unfolding walk
walk_value num zero i none = refl
walk_value num (suc t) i none = absurd (omega arith)

pub walk_found : (num : ℕ → ℕ → Result ℕ Damage) (t i s l g : ℕ) (xs ys : List ℕ) → (t ≡ 0 → ⊥) → num t i ≡ Ok s → l ≡ lesser s → g ≡ greater s
    → walk num (t - 1) l ≡ Ok xs → walk num (t - 1) g ≡ Ok ys → walk num t i ≡ Ok (xs ++ ys)
unfolding walk
walk_found num zero i s l g xs ys some found le ge left right = absurd (some refl)
walk_found num (suc t) i s l g xs ys some found le ge left right =
    let back : suc t - 1 ≡ t = omega arith in
    let a : walk num t (lesser s) ≡ Ok xs = rw (← back, ← le) left in
    let b : walk num t (greater s) ≡ Ok ys = rw (← back, ← ge) right in
    rw (found, a, b) refl

pub walk_refused : (num : ℕ → ℕ → Result ℕ Damage) (t i : ℕ) (d : Damage) → (t ≡ 0 → ⊥) → num t i ≡ Err d → walk num t i ≡ Err d
unfolding walk
walk_refused num zero i d some refused = absurd (some refl)
walk_refused num (suc t) i d some refused = rw refused refl

pub walk_left : (num : ℕ → ℕ → Result ℕ Damage) (t i s l : ℕ) (d : Damage) → (t ≡ 0 → ⊥) → num t i ≡ Ok s → l ≡ lesser s
    → walk num (t - 1) l ≡ Err d → walk num t i ≡ Err d
unfolding walk
walk_left num zero i s l d some found le left = absurd (some refl)
walk_left num (suc t) i s l d some found le left =
    let back : suc t - 1 ≡ t = omega arith in
    let a : walk num t (lesser s) ≡ Err d = rw (← back, ← le) left in
    rw (found, a) refl

pub walk_right : (num : ℕ → ℕ → Result ℕ Damage) (t i s l g : ℕ) (xs : List ℕ) (d : Damage) → (t ≡ 0 → ⊥) → num t i ≡ Ok s → l ≡ lesser s → g ≡ greater s
    → walk num (t - 1) l ≡ Ok xs → walk num (t - 1) g ≡ Err d → walk num t i ≡ Err d
unfolding walk
walk_right num zero i s l g xs d some found le ge left right = absurd (some refl)
walk_right num (suc t) i s l g xs d some found le ge left right =
    let back : suc t - 1 ≡ t = omega arith in
    let a : walk num t (lesser s) ≡ Ok xs = rw (← back, ← le) left in
    let b : walk num t (greater s) ≡ Err d = rw (← back, ← ge) right in
    rw (found, a, b) refl

-- ---- one step of a branch

pub limb_refused : (num : ℕ → ℕ → Result ℕ Damage) (t q i : ℕ) (d : Damage) → 1 ≤ t → num t i ≡ Err d → limb num (t - 1) q i ≡ Err d
unfolding limb
limb_refused num zero q i d first refused = absurd (omega arith)
limb_refused num (suc zero) q i d first refused = rw refused refl
limb_refused num (suc (suc t)) q i d first refused =
    let back : suc (suc t) - 1 ≡ suc t = omega arith in
    rw (back, refused) refl

pub limb_ends : (num : ℕ → ℕ → Result ℕ Damage) (t q i s l g : ℕ) → t ≡ 1 → num t i ≡ Ok s → l ≡ lesser s → g ≡ greater s → limb num (t - 1) q i ≡ Ok (l, g)
unfolding limb
limb_ends num zero q i s l g one found le ge = absurd (omega arith)
limb_ends num (suc zero) q i s l g one found le ge = rw (found, le, ge) refl
limb_ends num (suc (suc t)) q i s l g one found le ge = absurd (omega arith)

pub limb_lesser : (num : ℕ → ℕ → Result ℕ Damage) (t q i s l half : ℕ) → 2 ≤ t → num t i ≡ Ok s → l ≡ lesser s → half ≡ 2 ^ (t - 2) → q < half
    → limb num (t - 1) q i ≡ limb num (t - 1 - 1) q l
unfolding limb
limb_lesser num zero q i s l half two found le is less = absurd (omega arith)
limb_lesser num (suc zero) q i s l half two found le is less = absurd (omega arith)
limb_lesser num (suc (suc t)) q i s l half two found le is less =
    let back : suc (suc t) - 1 ≡ suc t = omega arith in
    let down : suc t - 1 ≡ t = omega arith in
    let under : suc (suc t) - 2 ≡ t = omega arith in
    let few : q < 2 ^ t = subst (λ m. q < 2 ^ m) under (subst (λ m. q < m) is less) in
    let test : nat_lt q (2 ^ t) ≡ true = lt-ltb _ _ few in
    rw (back, down, found, test, le) refl

pub limb_greater : (num : ℕ → ℕ → Result ℕ Damage) (t q i s g half : ℕ) → 2 ≤ t → num t i ≡ Ok s → g ≡ greater s → half ≡ 2 ^ (t - 2) → half ≤ q
    → limb num (t - 1) q i ≡ limb num (t - 1 - 1) (q - half) g
unfolding limb
limb_greater num zero q i s g half two found ge is most = absurd (omega arith)
limb_greater num (suc zero) q i s g half two found ge is most = absurd (omega arith)
limb_greater num (suc (suc t)) q i s g half two found ge is most =
    let back : suc (suc t) - 1 ≡ suc t = omega arith in
    let down : suc t - 1 ≡ t = omega arith in
    let under : suc (suc t) - 2 ≡ t = omega arith in
    let same : half ≡ 2 ^ t = is ∙ ap (λ m. 2 ^ m) under in
    let test : nat_lt q (2 ^ t) ≡ false = lt_false q (2 ^ t) (subst (λ m. m ≤ q) same most) in
    rw (back, down, found, test, ge, same) refl

-- ---- from a place of table 7

pub walk_from-refused : (num : ℕ → ℕ → Result ℕ Damage) (k i : ℕ) (d : Damage) → num 7 i ≡ Err d → walk_from num k i ≡ Err d
unfolding walk_from
walk_from-refused num k i d refused = rw refused refl

pub walk_from-found : (num : ℕ → ℕ → Result ℕ Damage) (k i s at : ℕ) → num 7 i ≡ Ok s → at ≡ place_in k s → walk_from num k i ≡ walk num 6 at
unfolding walk_from
walk_from-found num k i s at found is = rw (found, is) refl

pub limb_from-refused : (num : ℕ → ℕ → Result ℕ Damage) (k q i : ℕ) (d : Damage) → num 7 i ≡ Err d → limb_from num k q i ≡ Err d
unfolding limb_from
limb_from-refused num k q i d refused = rw refused refl

pub limb_from-found : (num : ℕ → ℕ → Result ℕ Damage) (k q i s at : ℕ) → num 7 i ≡ Ok s → at ≡ place_in k s → limb_from num k q i ≡ limb num 5 q at
unfolding limb_from
limb_from-found num k q i s at found is = rw (found, is) refl

-- ---- how many reads a walk takes

pub twice_below : (t : ℕ) → (t ≡ 0 → ⊥) → 2 ^ t ≡ 2 ^ (t - 1) + 2 ^ (t - 1)
twice_below zero some = absurd (some refl)
twice_below (suc t) some =
    let back : suc t - 1 ≡ t = omega arith in
    rw back (double t)

pub one_walk : (t : ℕ) → (t ≡ 0 → ⊥) → 2 + 2 * (2 ^ (t - 1) - 1) ≤ 2 * (2 ^ t - 1)
one_walk t some = let e = twice_below t some in let one = pow_mono {i = 0} {j = t - 1} (omega arith) in omega arith

pub two_walks : (t : ℕ) → (t ≡ 0 → ⊥) → 2 + 2 * (2 ^ (t - 1) - 1) + 2 * (2 ^ (t - 1) - 1) ≤ 2 * (2 ^ t - 1)
two_walks t some = let e = twice_below t some in let one = pow_mono {i = 0} {j = t - 1} (omega arith) in omega arith

-- ---- values in halves

pub set_one : (xs : List ℕ) (t v : ℕ) → t ≡ 0 → length xs ≡ 2 ^ t → slice_set xs 0 v ≡ v ∷ []
set_one [] t v none len = absurd (let e : 2 ^ t ≡ 1 = ap (λ m. 2 ^ m) none in omega arith)
set_one (x ∷ []) t v none len = refl
set_one (x ∷ y ∷ xs) t v none len = absurd (let e : 2 ^ t ≡ 1 = ap (λ m. 2 ^ m) none in omega arith)
