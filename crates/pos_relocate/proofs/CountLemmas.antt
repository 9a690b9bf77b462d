-- How many numbers tables 6 and 7 of the file have: as many as table 7 of the run has pairs.
use Rattle.std.proofs.Common.{◌≡◌, ◌≢◌, ℕ, zero, suc, ◌+◌, ◌^◌, ◌<◌, ◌≤◌, ◌⊎◌, List, Contains, length, get_or, refl, sym, ap, ◌∙◌, subst, inl, inr, arith}
use Rattle.std.specs.Prelude.{slice_index}
use Rattle.std.proofs.lemmas.Bool.{cases_eq, cases_lt}
use Rattle.std.proofs.lemmas.List.{get_or_default}
use Rattle.pos_lists.specs.TableLists.{TableLists, entries}
use Rattle.pos_lists.specs.PlotLists.{PlotLists, count, numbers}
use Rattle.pos_lists.specs.Used.{IsUsed}
use Rattle.pos_lists.proofs.UsedLemmas.{used_at_top, inside_at_top}
use Rattle.pos_laws.specs.Renumbering.{IsLastTable, IsOneToOne, IsRelocated, IsRenumbered, last_at}
use Rattle.pos_laws.proofs.Apart.{last_numbers_differ}
use Rattle.pos_laws.proofs.Counting.{pigeonhole}

-- ---- so many different things among so many

-- what a place below n was given, and 0 elsewhere
given_at : (n s : ℕ) → ((s : ℕ) → s < n → ℕ) → (s < n) ⊎ (n ≤ s) → ℕ
given_at n s f (inl l) = f s l
given_at n s f (inr l) = 0

given : (n : ℕ) → ((s : ℕ) → s < n → ℕ) → ℕ → ℕ
given n f s = given_at n s f (cases_lt s n)

given_has : (n : ℕ) (f : (s : ℕ) → s < n → ℕ) (P : ℕ → ℕ → Type 0) → ((s : ℕ) (l : s < n) → P s (f s l)) → (s : ℕ) → s < n → P s (given n f s)
unfolding given given_at
given_has n f P all s l = has (cases_lt s n)
  where
    has : (which : (s < n) ⊎ (n ≤ s)) → P s (given_at n s f which)
    has (inl m) = all s m
    has (inr m) = absurd (omega arith)

-- each of n has one of m by a relation by which no two of the n have one
fewer : (n m : ℕ) (P : ℕ → ℕ → Type 0) → ((s : ℕ) → s < n → (i : ℕ) × (i < m) × P s i) → ((s t i : ℕ) → s < t → t < n → P s i → P t i → ⊥) → n ≤ m
fewer n m P back once =
    let f : (s : ℕ) → s < n → ℕ = λ s l. (back s l).0 in
    let Q : ℕ → ℕ → Type 0 = λ s i. (i < m) × P s i in
    let has = given_has n f Q (λ s l. ((back s l).1, (back s l).2)) in
    pigeonhole m n (given n f) (λ s l. (has s l).0)
    (λ s t less l same. once s t (given n f t) less l (subst (λ (i : ℕ). P s i) same (has s (omega arith)).1) (has t l).1)

-- ---- table 6

module _ (ts : TableLists) (new : ℕ → ℕ) (apart : IsOneToOne ts 6 new) where
  -- no more numbers than entries of level 6
  points_few : (points : List ℕ) → ((s : ℕ) → s < length points → (i : ℕ) × IsUsed ts 6 i × (new i ≡ s)) → length points ≤ entries ts 6
  points_few points filled =
      fewer (length points) (entries ts 6) (λ s i. new i ≡ s) (λ s l. let i = filled s l in (i.0, inside_at_top ts i.0 i.1, i.2))
      (λ s t i less l a b. let e : s ≡ t = sym a ∙ b in absurd (omega arith))

  -- and no fewer
  points_many : (points : List ℕ) → ((i : ℕ) → IsUsed ts 6 i → new i < length points) → entries ts 6 ≤ length points
  points_many points placed =
      fewer (entries ts 6) (length points) (λ i s. new i ≡ s) (λ i l. (new i, placed i (used_at_top ts i l), refl))
      (λ i j s less l a b. let e : i ≡ j = apart i j (used_at_top ts i (omega arith)) (used_at_top ts j l) (a ∙ sym b) in absurd (omega arith))

  -- ---- table 7

  module _ (k : ℕ) (lasts : List ℕ) (table : IsLastTable ts k new lasts) (below : (i : ℕ) → i < entries ts 6 → new i < 2 ^ (k + 1)) where
    lasts_few : length lasts ≤ entries ts 6
    lasts_few =
        fewer (length lasts) (entries ts 6) (λ s i. slice_index lasts s ≡ last_at ts k new i) (λ s l. let i = table.filled (slice_index lasts s) (s, l, get_or_default lasts s (slice_index lasts s) 0 l) in (i.0, i.1, i.2))
        (λ s t i less l a b. let rise : slice_index lasts s < slice_index lasts t = table.rise s t 0 less l in let e = a ∙ sym b in absurd (omega arith))

    lasts_many : entries ts 6 ≤ length lasts
    lasts_many =
        fewer (entries ts 6) (length lasts) (λ i s. slice_index lasts s ≡ last_at ts k new i)
        (λ i l. let at = table.placed i l in (at.0, at.1, get_or_default lasts at.0 0 (last_at ts k new i) at.1 ∙ at.2))
        (λ i j s less l a b. last_numbers_differ ts k new i j apart (omega arith) l (below i (omega arith)) (below j l) (λ e. absurd (omega arith)) (sym a ∙ b))

-- ---- both

-- tables 6 and 7 have a number for each pair of table 7
pub relocated_counts : (ts : TableLists) (p : PlotLists) (place : ℕ → ℕ → ℕ) → IsRelocated ts p place → IsOneToOne ts 6 (place 6) → entries ts 6 ≤ 2 ^ (p.k + 1)
    → (count p 6 ≡ entries ts 6) × (count p 7 ≡ entries ts 6)
relocated_counts ts p place is apart few =
    let sixth = is.six 5 (omega arith) in
    let least = points_few ts (place 6) apart (numbers p 6) sixth.filled in
    let most = points_many ts (place 6) apart (numbers p 6) sixth.placed in
    let below : (i : ℕ) → i < entries ts 6 → place 6 i < 2 ^ (p.k + 1) = λ i l. let b = sixth.placed i (used_at_top ts i l) in omega arith in
    let low = lasts_few ts (place 6) apart p.k (numbers p 7) is.seventh below in
    let high = lasts_many ts (place 6) apart p.k (numbers p 7) is.seventh below in
    (omega arith, omega arith)
