-- What is gathered place by place, and the first repetition of a list that never falls.
use Rattle.std.proofs.Common.{◌≡◌, ◌≢◌, ℕ, zero, suc, ◌-◌, ◌<◌, ◌≤◌, ◌⊎◌, inl, inr, ⊎_elim, Bool, true, List, [], ◌∷◌, ◌++◌, length, slice_index, slice_index_or, AllPairs, Contains, sym, refl, ◌∙◌, ap, subst, arith, true≢false, length-append}
use Rattle.std.proofs.lemmas.Bool.{cases_lt, cases_eq}
use Rattle.std.proofs.lemmas.List.{get_or_default}
use Rattle.std.proofs.lemmas.List.Elements.{Contains-append_left}
use Rattle.std.proofs.Math.ListN.{get_or-append}
use Rattle.std.proofs.Math.Seq.{get_or-append_seam}
use Rattle.pos_lists.specs.Numbering.{IsRepeated}
use Rattle.pos_lists.specs.NumberingLaws.{NothingIsGathered, APlaceIsGathered, APlaceIsPassedOver, RisesOrRepeats}

pub nothing_is_gathered : NothingIsGathered
nothing_is_gathered marked point = record {
  rise = λ i j d l g. absurd (omega arith);
  all = λ i l m. absurd (omega arith);
  below = λ s l. absurd (omega arith);
  only = λ s l. absurd (omega arith);
  points = λ s l. absurd (omega arith);
}

-- the last place of those below one more, or an earlier one
last_or_below : (marked : ℕ → Bool) (i high : ℕ) → i < suc high → (i < high) ⊎ (i ≡ high)
last_or_below marked i high l =
    ⊎_elim (λ (h : i < high). inl h) (λ (h : high ≤ i). inr (omega arith)) (cases_lt i high)

pub a_place_is_passed_over : APlaceIsPassedOver
a_place_is_passed_over marked point high xs passed g = record {
  rise = g.rise;
  all = λ i l m.
      ⊎_elim
      (λ (h : i < high). g.all i h m)
      (λ (h : i ≡ high). absurd (true≢false (sym m ∙ ap marked h ∙ passed)))
      (last_or_below marked i high l);
  below = λ s l. let b = g.below s l in omega arith;
  only = g.only;
  points = g.points;
}

-- ---- one more at the end

module _ (xs : List (ℕ × ℕ)) (y : ℕ × ℕ) where
  grown : length (xs ++ y ∷ []) ≡ suc (length xs)
  grown = let e = length-append xs (y ∷ []) in omega (arith, e)

  -- a place of the grown list is one of the old list, or the last
  place_of_grown : (s : ℕ) → s < length (xs ++ y ∷ []) → (s < length xs) ⊎ (s ≡ length xs)
  place_of_grown s l =
      ⊎_elim (λ (h : s < length xs). inl h) (λ (h : length xs ≤ s). inr (omega (arith, grown))) (cases_lt s (length xs))

  at_old : (s : ℕ) (d : ℕ × ℕ) → s < length xs → slice_index_or (xs ++ y ∷ []) s d ≡ slice_index_or xs s d
  at_old s d l = get_or-append xs (y ∷ []) d s l

  at_last : (s : ℕ) (d : ℕ × ℕ) → s ≡ length xs → slice_index_or (xs ++ y ∷ []) s d ≡ y
  at_last s d e = ap (λ n. slice_index_or (xs ++ y ∷ []) n d) e ∙ get_or-append_seam xs y [] d

  -- what holds of each entry of the old list and of the last holds of each entry
  each_of_grown : (P : ℕ × ℕ → Type 0) (d : ℕ × ℕ) → ((s : ℕ) → s < length xs → P (slice_index_or xs s d)) → P y →
      (s : ℕ) → s < length (xs ++ y ∷ []) → P (slice_index_or (xs ++ y ∷ []) s d)
  each_of_grown P d old last s l =
      ⊎_elim
      (λ (h : s < length xs). subst P (sym (at_old s d h)) (old s h))
      (λ (h : s ≡ length xs). subst P (sym (at_last s d h)) last)
      (place_of_grown s l)

  pairs_of_grown : AllPairs (λ a b. a.1 < b.1) xs → ((s : ℕ) → s < length xs → (slice_index_or xs s (0, 0)).1 < y.1) →
      AllPairs (λ a b. a.1 < b.1) (xs ++ y ∷ [])
  pairs_of_grown rise below i j d l g =
      ⊎_elim
      (λ (h : j < length xs).
      let a = ap (λ e. e.1) (at_old i d (omega arith)) in
      let b = ap (λ e. e.1) (at_old j d h) in
      let o = rise i j d l h in
      omega arith)
      (λ (h : j ≡ length xs).
      let a = ap (λ e. e.1) (at_old i d (omega arith)) in
      let b = ap (λ e. e.1) (at_last j d h) in
      let c = ap (λ e. e.1) (get_or_default xs i d (0, 0) (omega arith)) in
      let o = below i (omega arith) in
      omega arith)
      (place_of_grown j g)

pub a_place_is_gathered : APlaceIsGathered
a_place_is_gathered marked point high xs given g = record {
  rise = pairs_of_grown xs (point high, high) g.rise g.below;
  all = λ i l m.
      ⊎_elim
      (λ (h : i < high). Contains-append_left xs ((point high, high) ∷ []) (point i, i) (g.all i h m))
      (λ (h : i ≡ high).
      subst (λ v. Contains (xs ++ (point high, high) ∷ []) (point v, v)) (sym h)
      (length xs, omega (arith, grown xs (point high, high)), at_last xs (point high, high) (length xs) (point high, high) refl))
      (last_or_below marked i high l);
  below = each_of_grown xs (point high, high) (λ e. e.1 < suc high) (0, 0) (λ s l. let b = g.below s l in omega arith) (omega arith);
  only = each_of_grown xs (point high, high) (λ e. marked e.1 ≡ true) (0, 0) g.only given;
  points = each_of_grown xs (point high, high) (λ e. e.0 ≡ point e.1) (0, 0) g.points refl;
}

-- ---- the first repetition

-- the numbers below a place rise
abbrev RisesTo : List ℕ → ℕ → Type 0
RisesTo ns m = (i j : ℕ) → i < j → j < m → slice_index ns i < slice_index ns j

-- and one more, where it is above the one before
one_more : (ns : List ℕ) (m : ℕ) → RisesTo ns m → (0 < m → slice_index ns (m - 1) < slice_index ns m) → RisesTo ns (suc m)
one_more ns m rises next i j l h =
    ⊎_elim
    (λ (g : j < m). rises i j l g)
    (λ (g : m ≤ j).
    let same : j ≡ m = omega arith in
    let step = next (omega arith) in
    subst (λ v. slice_index ns i < slice_index ns v) (sym same)
    (⊎_elim
    (λ (a : i < m - 1). let o = rises i (m - 1) a (omega arith) in omega arith)
    (λ (a : m - 1 ≤ i). let e : i ≡ m - 1 = omega arith in subst (λ v. slice_index ns v < slice_index ns m) (sym e) step)
    (cases_lt i (m - 1))))
    (cases_lt j m)

-- up to a place the numbers rise, or there is a first repetition
rises_to : (ns : List ℕ) → AllPairs ◌≤◌ ns → (m : ℕ) → m ≤ length ns → RisesTo ns m ⊎ ((at : ℕ) × IsRepeated ns at)
rises_to ns falls zero l = inl (λ i j g h. absurd (omega arith))
rises_to ns falls (suc m) l =
    ⊎_elim
    (λ (r : RisesTo ns m).
    ⊎_elim
    (λ (z : m ≡ 0). inl (one_more ns m r (λ p. absurd (omega arith))))
    (λ (z : m ≢ 0).
    let low : slice_index ns (m - 1) ≤ slice_index ns m = falls (m - 1) m 0 (omega arith) (omega arith) in
    ⊎_elim
    (λ (e : slice_index ns m ≡ slice_index ns (m - 1)).
    inr (m, record { after = omega arith; inside = omega arith; same = e; rise = r }))
    (λ (e : slice_index ns m ≢ slice_index ns (m - 1)). inl (one_more ns m r (λ p. omega arith)))
    (cases_eq (slice_index ns m) (slice_index ns (m - 1))))
    (cases_eq m 0))
    (λ (r : (at : ℕ) × IsRepeated ns at). inr r)
    (rises_to ns falls m (omega arith))

pub rises_or_repeats : RisesOrRepeats
rises_or_repeats ns falls =
    ⊎_elim
    (λ (r : RisesTo ns (length ns)).
    inl (λ i j d l g.
    let a = get_or_default ns i d 0 (omega arith) in
    let b = get_or_default ns j d 0 g in
    let o = r i j l g in
    omega arith))
    (λ (r : (at : ℕ) × IsRepeated ns at). inr r)
    (rises_to ns falls (length ns) (omega arith))
