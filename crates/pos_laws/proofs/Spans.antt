-- A span bounds the numbers that are asked for, and with them the listing.
use Rattle.std.proofs.Common.{◌≡◌, ℕ, zero, suc, ◌+◌, ◌-◌, ◌/◌, ◌^◌, ◌<◌, ◌≤◌, ◌==◌, ⊎_elim, Bool, true, false, List, [], ◌∷◌, length, take, drop, filter, slice_index, refl, ap, ◌∙◌, subst, arith, eq-eqb, ne_eqb, length-take-le, length-drop, get_or-take, get_or-drop, zero-add, suc-add, le_of_lt}
use Rattle.std.proofs.lemmas.Bool.{cases_lt, cases_order}
use Rattle.std.proofs.lemmas.Nat.{le-div, div-add-mod', pow_pos}
use Rattle.pos_tuple.specs.Proof.{challenge_value}
use Rattle.pos_order.specs.Quality.{quality_index}
use Rattle.pos_lists.specs.PlotLists.{PlotLists, numbers, count, number_at, f7_in, place_in, NumbersRise}
use Rattle.pos_lists.specs.Trees.{tree, branch}
use Rattle.pos_laws.specs.Listing.{asked, IsSpan}
use Rattle.pos_laws.specs.WalkLaws.{SpanIsAsked, ListingBySpan, PairsBySpan, BoundsAreThere, OneBound, SpanIsOrdered}
use Rattle.pos_laws.proofs.Listed.{length-listing, at-listing}
use Rattle.pos_laws.proofs.Branches.{length-quality_pairs, pairs_are_branches}

-- a test that passes at just n places from place a on keeps these
filter_range : (t : ℕ → Bool) (xs : List ℕ) (a n : ℕ) → a + n ≤ length xs →
    ((i : ℕ) → i < a → t (slice_index xs i) ≡ false) →
    ((i : ℕ) → i < n → t (slice_index xs (a + i)) ≡ true) →
    ((i : ℕ) → a + n ≤ i → i < length xs → t (slice_index xs i) ≡ false) →
    filter t xs ≡ take n (drop a xs)
filter_range t [] zero zero l below within above = refl
filter_range t [] zero (suc n) l below within above = absurd (omega arith)
filter_range t [] (suc a) n l below within above = absurd (omega arith)
filter_range t (x ∷ xs) zero zero l below within above =
    let e : t x ≡ false = above 0 (omega arith) (omega arith) in
    rw e (filter_range t xs zero zero (omega arith) (λ i g. absurd (omega arith)) (λ i g. absurd (omega arith))
    (λ i g h. above (suc i) (omega arith) (omega arith)))
filter_range t (x ∷ xs) zero (suc n) l below within above =
    let e : t x ≡ true = within 0 (omega arith) in
    rw e (ap (λ ys. x ∷ ys)
    (filter_range t xs zero n (omega arith) (λ i g. absurd (omega arith))
    (λ i g. let w = within (suc i) (omega arith) in rw zero-add (rw zero-add at w))
    (λ i g h. above (suc i) (omega arith) (omega arith))))
filter_range t (x ∷ xs) (suc a) n l below within above =
    let e : t x ≡ false = below 0 (omega arith) in
    rw e (filter_range t xs a n (omega arith)
    (λ i g. below (suc i) (omega arith))
    (λ i g. let w = within i g in rw suc-add at w)
    (λ i g h. above (suc i) (omega arith) (omega arith)))

pub span_is_ordered : SpanIsOrdered
span_is_ordered p c first second s = (
  ⊎_elim
      (λ (h : second < first).
      absurd (omega (arith, s.lower.below second h, s.upper.from second (omega arith) (omega (arith, s.lower.inside)))))
      (λ (h : first ≤ second). h)
      (cases_lt second first),
  s.upper.inside,
)

pub span_is_asked : SpanIsAsked
unfolding asked
span_is_asked p c first second s =
    let o = span_is_ordered p c first second s in
    let e : first + (second - first) ≡ second = omega arith in
    filter_range (λ s. f7_in p.k s == challenge_value p.k c) (numbers p 7) first (second - first) (omega arith)
    (λ i l. ne_eqb _ _ (λ f. omega (arith, s.lower.below i l)))
    (λ i l.
    let a = s.lower.from (first + i) (omega arith) (omega arith) in
    let b = s.upper.below (first + i) (omega arith) in
    eq-eqb _ _ (omega arith))
    (λ i l h. ne_eqb _ _ (λ f. omega (arith, s.upper.from i (omega arith) h)))

length_asked : (p : PlotLists) (c : List ℕ) (first second : ℕ) → IsSpan p c first second → length (asked p c) ≡ second - first
length_asked p c first second s =
    let o = span_is_ordered p c first second s in
    ap length (span_is_asked p c first second s)
    ∙ length-take-le (second - first) (drop first (numbers p 7)) (omega (arith, length-drop first (numbers p 7)))

at_asked : (p : PlotLists) (c : List ℕ) (first second j : ℕ) → IsSpan p c first second → j < second - first →
    slice_index (asked p c) j ≡ number_at p 7 (first + j)
at_asked p c first second j s l =
    ap (λ xs. slice_index xs j) (span_is_asked p c first second s)
    ∙ get_or-take (second - first) (drop first (numbers p 7)) j 0 l
    ∙ get_or-drop first (numbers p 7) j 0

pub listing_by_span : ListingBySpan
listing_by_span p c first second s =
    let n = length_asked p c first second s in (
      length-listing p c ∙ n,
      λ j l. at-listing p c j [] (omega arith) ∙ ap (λ q. tree p 6 (place_in p.k q)) (at_asked p c first second j s l),
    )

pub pairs_by_span : PairsBySpan
pairs_by_span p c first second s =
    let n = length_asked p c first second s in (
      length-quality_pairs p c ∙ length-listing p c ∙ n,
      λ j l.
          pairs_are_branches p c j (omega arith)
          ∙ ap (λ q. branch p 5 (quality_index c) (place_in p.k q)) (at_asked p c first second j s l),
    )

-- ---- bounds

f7_mono : (p : PlotLists) (s t : ℕ) → s ≤ t → f7_in p.k s ≤ f7_in p.k t
f7_mono p s t l =
    le-div (s / 2 ^ (p.k + 1)) t (2 ^ (p.k + 1)) (pow_pos (p.k + 1)) (omega (arith, div-add-mod' s (2 ^ (p.k + 1))))

-- a bound among the first m places
record BoundTo (p : PlotLists) (f m i : ℕ) : Type 0 where
  inside : i ≤ m
  below : (j : ℕ) → j < i → f7_in p.k (number_at p 7 j) < f
  from : (j : ℕ) → i ≤ j → j < m → f ≤ f7_in p.k (number_at p 7 j)

bound_to : (p : PlotLists) (f : ℕ) → NumbersRise p → (m : ℕ) → m ≤ count p 7 → (i : ℕ) × BoundTo p f m i
bound_to p f rise zero l = (0, record { inside = omega arith; below = λ j g. absurd (omega arith); from = λ j g h. absurd (omega arith) })
bound_to p f rise (suc m) l =
    let b = bound_to p f rise m (omega arith) in
    let h = b.1 in
    let last = f7_in p.k (number_at p 7 m) in
    ⊎_elim
    (λ (g : last < f).
    let e : b.0 ≡ m =
    ⊎_elim
    (λ (o : b.0 < m).
    let a = rise 6 (omega arith) b.0 m 0 o (omega arith) in
    absurd (omega (arith, h.from b.0 (omega arith) o, f7_mono p _ _ (le_of_lt a))))
    (λ (o : m ≤ b.0). omega (arith, h.inside))
    (cases_lt b.0 m) in (
      suc m,
      record {
        inside = omega arith;
        below = λ j o. ⊎_elim (λ (q : j < m). h.below j (omega arith)) (λ (q : m ≤ j). let r : m ≡ j = omega arith in subst (λ v. f7_in p.k (number_at p 7 v) < f) r g) (cases_lt j m);
        from = λ j o q. absurd (omega arith);
      },
    ))
    (λ (g : f ≤ last). (
      b.0,
      record {
        inside = omega (arith, h.inside);
        below = h.below;
        from = λ j o q. ⊎_elim (λ (r : j < m). h.from j o r) (λ (r : m ≤ j). let e : m ≡ j = omega arith in subst (λ v. f ≤ f7_in p.k (number_at p 7 v)) e g) (cases_lt j m);
      },
    ))
    (cases_lt last f)

pub bounds_are_there : BoundsAreThere
bounds_are_there p f rise =
    let b = bound_to p f rise (count p 7) (omega arith) in
    (b.0, record { inside = b.1.inside; below = b.1.below; from = b.1.from })

pub one_bound : OneBound
one_bound p f i j a b =
    ⊎_elim
    (λ (e : i ≡ j). e)
    (⊎_elim
    (λ (l : i < j). absurd (omega (arith, b.below i l, a.from i (omega arith) (omega (arith, b.inside)))))
    (λ (l : j < i). absurd (omega (arith, a.below j l, b.from j (omega arith) (omega (arith, a.inside))))))
    (cases_order i j)
