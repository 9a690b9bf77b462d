-- Over a file that stores a plot, the heads and counts of table 7 show the bounds of the plot's list.
use Rattle.std.proofs.Common.{◌≡◌, ℕ, zero, suc, ◌+◌, ◌-◌, ◌*◌, ◌/◌, ◌^◌, ◌<◌, ◌≤◌, ◌⊎◌, ⊎_elim, inl, inr, min, Bool, true, false, nat_lt, List, [], ◌∷◌, length, drop, slice_index, count_by, Result, Ok, Err, refl, sym, ap, ◌∙◌, subst, arith, lt-ltb, pow_mono, cond, length-drop, get_or-take, get_or-drop}
use Rattle.std.proofs.Math.Nat.{div-lt_iff_lt-mul}
use Rattle.std.proofs.lemmas.Bool.{cases_lt, true≢false}
use Rattle.std.proofs.lemmas.List.{length-take}
use Rattle.std.proofs.lemmas.List.Kept.{AllPairs-from_increasing}
use Rattle.std.proofs.lemmas.List.Sums.{sum_by-cons}
use Rattle.pos_tuple.specs.Proof.{challenge_value}
use Rattle.pos_lists.specs.PlotLists.{PlotLists, numbers, count, number_at, f7_in, NumbersRise}
use Rattle.pos_laws.specs.Listing.{IsBound, IsSpan}
use Rattle.pos_laws.proofs.Spans.{bounds_are_there, one_bound, span_is_ordered}
use Rattle.pos_layout.specs.declared.damage.Damage.{Damage}
use Rattle.pos_layout.specs.Bytes.{part}
use Rattle.pos_layout.specs.Fields.{header_in, layout_in}
use Rattle.pos_layout.specs.Reading.{head, under}
use Rattle.pos_layout.specs.Rules.{Stores}
use Rattle.pos_layout.proofs.LayoutLemmas.{park_inside}
use Rattle.pos_layout.proofs.StoredLemmas.{head_stored, count_stored}
use Rattle.pos_layout.specs.declared.layout.Layout.{Layout}
use Rattle.pos_layout.specs.Layouts.{full_of}
use Rattle.pos_reader.specs.Spans.{BeginsBelow, BeginsFrom, Bound, last_count}
use Rattle.pos_reader.proofs.ParkLemmas.{lt_false}
use Rattle.pos_harvest.proofs.FullParks.{next_park, park_from, park_there, park_to, some_there}
use Rattle.pos_harvest.specs.SpanLaws.{BoundIsOfTheList, SpanIsOfTheList, OneSpan, NoLastDamage}

-- ---- an answer is not both

went_well : {X : Type 0} → Result X Damage → Bool
went_well (Ok x) = true
went_well (Err d) = false

pub never_both : {X : Type 0} (r : Result X Damage) (x : X) (d : Damage) → r ≡ Ok x → r ≡ Err d → ⊥
unfolding went_well
never_both r x d good bad = true≢false (sym (ap went_well good) ∙ ap went_well bad)

ok_number : (m n : ℕ) → ◌≡◌ {A = Result ℕ Damage} (Ok m) (Ok n) → m ≡ n
ok_number m n e = cc

-- ---- how many of a list pass a test that the first m pass

count_exact : (t : ℕ → Bool) (xs : List ℕ) (m : ℕ) → m ≤ length xs → ((j : ℕ) → j < m → t (slice_index xs j) ≡ true)
    → ((j : ℕ) → m ≤ j → j < length xs → t (slice_index xs j) ≡ false) → count_by t xs ≡ m
count_exact t [] zero l pass fail = refl
count_exact t [] (suc m) l pass fail = absurd (omega arith)
count_exact t (x ∷ xs) zero l pass fail =
    let e : t x ≡ false = fail 0 (omega arith) (omega arith) in
    let rest : count_by t xs ≡ 0 = count_exact t xs zero (omega arith) (λ j g. absurd (omega arith)) (λ j g h. fail (suc j) (omega arith) (omega arith)) in
    let s = sum_by-cons (λ m. cond (t m) 1 0) x xs in
    rw (s, e) (omega arith)
count_exact t (x ∷ xs) (suc m) l pass fail =
    let e : t x ≡ true = pass 0 (omega arith) in
    let rest : count_by t xs ≡ m = count_exact t xs m (omega arith) (λ j g. pass (suc j) (omega arith)) (λ j g h. fail (suc j) (omega arith) (omega arith)) in
    let s = sum_by-cons (λ m. cond (t m) 1 0) x xs in
    rw (s, e) (omega arith)

part_length : (ns : List ℕ) (at n : ℕ) → length (part ns at n) ≡ min n (length ns - at)
unfolding part
part_length ns at n = length-take n (drop at ns) ∙ ap (λ m. min n m) (length-drop at ns)

part_at : (ns : List ℕ) (at n i : ℕ) → i < n → slice_index (part ns at n) i ≡ slice_index ns (at + i)
unfolding part
part_at ns at n i within = get_or-take n (drop at ns) i 0 within ∙ get_or-drop at ns i 0

-- ---- an f7 is below another where the number is below the least number of that

some_power : (k : ℕ) → 0 < 2 ^ k
some_power k = let least = pow_mono {i = 0} {j = k} (omega arith) in omega arith

below_test : (k f n : ℕ) → f7_in k n < f → nat_lt n (f * 2 ^ (k + 1)) ≡ true
below_test k f n less = lt-ltb _ _ ((div-lt_iff_lt-mul {k = 2 ^ (k + 1)} {x = n} {y = f} (some_power (k + 1))).0 less)

from_test : (k f n : ℕ) → f ≤ f7_in k n → nat_lt n (f * 2 ^ (k + 1)) ≡ false
from_test k f n more = lt_false n (f * 2 ^ (k + 1)) (⊎_elim
    (λ (l : n < f * 2 ^ (k + 1)). absurd (omega (arith, (div-lt_iff_lt-mul {k = 2 ^ (k + 1)} {x = n} {y = f} (some_power (k + 1))).1 l)))
    (λ (g : f * 2 ^ (k + 1) ≤ n). g)
    (cases_lt n (f * 2 ^ (k + 1))))

-- ---- what the reads of table 7 answer, by the plot's bound

module _ (b : List ℕ) (p : PlotLists) (stores : Stores (layout_in b) b p) where
  abbrev l : Layout
  l = layout_in b

  same_count : count p 7 ≡ last_count b
  same_count = (stores.tables 7 (omega arith) (omega arith)).count

  -- a park begins with the number at its first place
  head_is : (park : ℕ) → full_of l * park < count p 7 → head l b park ≡ Ok (f7_in p.k (number_at p 7 (full_of l * park)))
  head_is park there = head_stored l b p park stores (park_there l park (count p 7) there)

  -- of a park so many numbers are below
  under_is : (f i park : ℕ) → IsBound p f i → full_of l * park < count p 7 → under l b park f ≡ Ok (min (i - full_of l * park) (min (full_of l) (count p 7 - full_of l * park)))
  under_is f i park bound there =
      let a = full_of l * park in
      let ns = part (numbers p 7) a (full_of l) in
      let m = min (i - a) (min (full_of l) (count p 7 - a)) in
      let len : length ns ≡ min (full_of l) (count p 7 - a) = part_length (numbers p 7) a (full_of l) in
      count_stored l b p park f stores (park_there l park (count p 7) there)
      ∙ ap (λ n. Ok n) (count_exact (λ n. nat_lt n (f * 2 ^ (p.k + 1))) ns m (omega arith)
      (λ j less. subst (λ n. nat_lt n (f * 2 ^ (p.k + 1)) ≡ true) (sym (part_at (numbers p 7) a (full_of l) j (omega arith)))
      (below_test p.k f (number_at p 7 (a + j)) (bound.below (a + j) (omega arith))))
      (λ j more inside. subst (λ n. nat_lt n (f * 2 ^ (p.k + 1)) ≡ false) (sym (part_at (numbers p 7) a (full_of l) j (omega arith)))
      (from_test p.k f (number_at p 7 (a + j)) (bound.from (a + j) (omega arith) (omega arith)))))

  -- a bound of the list is shown
  bound_shown : (f i : ℕ) → IsBound p f i → Bound l b f i
  bound_shown f i bound = record {
    inside = let most = bound.inside in let s = same_count in omega arith;
    none = λ first some.
        let s = same_count in
        let numbers = some_there l (last_count b) some in
        let there : full_of l * 0 < count p 7 = omega arith in
        (f7_in p.k (number_at p 7 (full_of l * 0)), head_is 0 there, bound.from (full_of l * 0) (omega arith) there);
    some = λ first.
        let park = (i - 1) / full_of l in
        let most = bound.inside in
        let from = park_from l (i - 1) in
        let to = park_to l (i - 1) in
        let there : full_of l * park < count p 7 = omega arith in
        record {
          begins = (f7_in p.k (number_at p 7 (full_of l * park)), head_is park there, bound.below (full_of l * park) (omega arith));
          counts = under_is f i park bound there
              ∙ ap (λ n. Ok n) (let e : min (i - full_of l * park) (min (full_of l) (count p 7 - full_of l * park)) ≡ i - full_of l * park = omega arith in e);
          next = λ at more.
              let s = same_count in
              let after : full_of l * (park + 1) < count p 7 = subst (λ n. full_of l * (park + 1) < n) (sym s) (park_inside l (park + 1) (last_count b) more) in
              (f7_in p.k (number_at p 7 (full_of l * (park + 1))), head_is (park + 1) after, bound.from (full_of l * (park + 1)) (omega arith) after);
        };
  }

  -- a head that is a number is that of the list
  head_below : (f park : ℕ) → full_of l * park < count p 7 → BeginsBelow l b f park → f7_in p.k (number_at p 7 (full_of l * park)) < f
  head_below f park there h = subst (λ n. n < f) (ok_number _ _ (sym h.1 ∙ head_is park there)) h.2

  head_from : (f park : ℕ) → full_of l * park < count p 7 → BeginsFrom l b f park → f ≤ f7_in p.k (number_at p 7 (full_of l * park))
  head_from f park there h = subst (λ n. f ≤ n) (ok_number _ _ (sym h.1 ∙ head_is park there)) h.2

  -- a bound that is shown is the list's: i is shown, and the list has j
  bound_same : (f i j : ℕ) → Bound l b f i → IsBound p f j → i ≡ j
  bound_same f i j shown bound = ⊎_elim (λ (none : i < 1). at_none (omega arith)) (λ (some : 1 ≤ i). at_some (omega arith)) (cases_lt i 1)
    where
      at_none : i ≡ 0 → i ≡ j
      at_none none = ⊎_elim
          (λ (some : 0 < j).
          let s = same_count in
          let most = bound.inside in
          let there : full_of l * 0 < count p 7 = omega arith in
          let parks = park_there l 0 (last_count b) (omega arith) in
          let more = head_from f 0 there (shown.none none parks) in
          let less = bound.below (full_of l * 0) (omega arith) in
          absurd (omega arith))
          (λ (empty : j ≤ 0). omega arith)
          (cases_lt 0 j)

      at_some : 0 < i → i ≡ j
      at_some some =
          let park = (i - 1) / full_of l in
          let s = same_count in
          let few = shown.inside in
          let most = bound.inside in
          let start = park_from l (i - 1) in
          let end = park_to l (i - 1) in
          let step = next_park l park in
          let there : full_of l * park < count p 7 = omega arith in
          let ends = shown.some some in
          let less = head_below f park there ends.begins in
          let counts : i - full_of l * park ≡ min (j - full_of l * park) (min (full_of l) (count p 7 - full_of l * park)) = ok_number _ _ (sym ends.counts ∙ under_is f j park bound there) in
          ⊎_elim
          (λ (more : i < j).
          let at : i ≡ full_of l * (park + 1) = omega arith in
          let after : full_of l * (park + 1) < count p 7 = omega arith in
          let parks = park_there l (park + 1) (last_count b) (omega arith) in
          let from = head_from f (park + 1) after (ends.next at parks) in
          let below = bound.below (full_of l * (park + 1)) (omega arith) in
          absurd (omega arith))
          (λ (upto : j ≤ i). ⊎_elim
          (λ (first : j ≤ full_of l * park). absurd (let from = bound.from (full_of l * park) first there in omega arith))
          (λ (in_park : full_of l * park < j). omega arith)
          (le_or j (full_of l * park)))
          (cases_lt i j)
        where
          le_or : (m n : ℕ) → (m ≤ n) ⊎ (n < m)
          le_or m n = ⊎_elim (λ (l : n < m). inr l) (λ (g : m ≤ n). inl g) (cases_lt n m)

rising : (b : List ℕ) (p : PlotLists) → Stores (layout_in b) b p → NumbersRise p
rising b p stores = λ n h. AllPairs-from_increasing (numbers p (suc n)) (stores.tables (suc n) (omega arith) (omega arith)).rising

pub bound_is_of_the_list : BoundIsOfTheList
bound_is_of_the_list b p f i stores = (
  λ shown.
      let there = bounds_are_there p f (rising b p stores) in
      subst (λ i. IsBound p f i) (sym (bound_same b p stores f i there.0 shown there.1)) there.1,
  bound_shown b p stores f i,
)

pub span_is_of_the_list : SpanIsOfTheList
span_is_of_the_list b p c first second stores = (
  λ shown. record {
    lower = subst (λ k. IsBound p (challenge_value k c) first) (sym stores.size) ((bound_is_of_the_list b p _ first stores).0 shown.lower);
    upper = subst (λ k. IsBound p (challenge_value k c + 1) second) (sym stores.size) ((bound_is_of_the_list b p _ second stores).0 shown.upper);
  },
  λ span. record {
    ordered = (span_is_ordered p c first second span).0;
    lower = subst (λ k. Bound (layout_in b) b (challenge_value k c) first) stores.size (bound_shown b p stores _ first span.lower);
    upper = subst (λ k. Bound (layout_in b) b (challenge_value k c + 1) second) stores.size (bound_shown b p stores _ second span.upper);
  },
)

pub one_span : OneSpan
one_span b p c stores =
    let f = challenge_value p.k c in
    let lower = bounds_are_there p f (rising b p stores) in
    let upper = bounds_are_there p (f + 1) (rising b p stores) in
    let span : IsSpan p c lower.0 upper.0 = record { lower = lower.1; upper = upper.1 } in (
      lower.0,
      upper.0,
      record {
        span = (span_is_of_the_list b p c lower.0 upper.0 stores).1 span;
        only = λ m n other.
            let same = (span_is_of_the_list b p c m n stores).0 other in
            (one_bound p f m lower.0 same.lower lower.1, one_bound p (f + 1) n upper.0 same.upper upper.1);
      },
    )

pub no_last_damage : NoLastDamage
no_last_damage b p d stores damage =
    let s = same_count b p stores in
    let there : full_of (layout_in b) * damage.0 < count p 7 = subst (λ n. full_of (layout_in b) * damage.0 < n) (sym s) (park_inside (layout_in b) damage.0 (last_count b) damage.1) in
    ⊎_elim
    (λ (e : head (layout_in b) b damage.0 ≡ Err d). never_both _ _ d (head_is b p stores damage.0 there) e)
    (λ (u : (f : ℕ) × (f ≤ 2 ^ (header_in b).size) × (under (layout_in b) b damage.0 f ≡ Err d)).
    let bound = bounds_are_there p u.0 (rising b p stores) in
    never_both _ _ d (under_is b p stores u.0 bound.0 damage.0 bound.1 there) u.2)
    damage.2
