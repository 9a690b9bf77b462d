-- The tables of an id can be renumbered: the used places by the order of their points, level by level.
use Rattle.std.proofs.Common.{◌≡◌, ◌≢◌, ℕ, zero, suc, ◌+◌, ◌-◌, ◌*◌, ◌/◌, ◌^◌, ◌<◌, ◌≤◌, ◌↔◌, inl, inr, ⊎_elim, Bool, true, false, ◌&&◌, ◌||◌, ◌==◌, nat_lt, if◌then◌else◌, List, [], ◌∷◌, ◌++◌, length, map, filter, slice_index, slice_index_or, AllPairs, Contains, sym, refl, ap, ◌∙◌, subst, arith, ltb-true, lt-ltb, eqb-true, eq-eqb, ne_eqb}
use Rattle.std.proofs.lemmas.Bool.{cases_lt, cases_eq, and_parts, and_from, or_cases, or_left, or_right}
use Rattle.std.proofs.lemmas.List.{length-map, get_or_append_left, get_or_push, length_push}
use Rattle.std.proofs.lemmas.List.Kept.{AllPairs-filter}
use Rattle.pos_laws.specs.Tables.{Describes}
use Rattle.pos_lists.specs.TableLists.{TableLists, entries, left_of, right_of, PairsInside}
use Rattle.pos_laws.specs.Making.{IsAbove}
use Rattle.pos_lists.specs.Used.{IsReached, IsUsed, MarksUsed}
use Rattle.pos_lists.specs.PlotLists.{PlotLists, numbers, count}
use Rattle.pos_laws.specs.Renumbering.{point_at, IsRenumbered, IsLastTable, IsRelocated, IsNumbered, firsts, IsOneToOne}
use Rattle.pos_lists.specs.Rank.{new_place}
use Rattle.pos_laws.specs.ThereLaws.{RenumberingIsThere, PlotIsThere}
use Rattle.pos_laws.proofs.Counting.{tuples_are_above}
use Rattle.pos_lists.proofs.UsedLemmas.{inside_by_distance, used_is_inside, used_at_top}
use Rattle.pos_laws.proofs.Ranks.{numbered_is_renumbered, length-firsts}
use Rattle.pos_lists.proofs.RankLemmas.{one_place}
use Rattle.pos_laws.proofs.Apart.{values_are_apart, points_differ, renumbered_is_apart, last_numbers_differ}
use Rattle.pos_laws.proofs.Relocation.{relocated_is_the_plot, relocated_is_in_range}
use Rattle.pos_laws.proofs.SameLists.{contains_at, at_contained}
use Rattle.pos_laws.proofs.Sorting.{pairs_map, pairs_weaker, pairs_both, map_has, map_from, listed_by, length-listed_by, listed_has, listed_from, listed_pairs, filter_keeps, filter_from, length_filter, sort_by, sort_keeps, sort_from, sort_rises, sort_differs, length-sort_by}
use Rattle.pos_laws.proofs.TablesThere.{tables_are_there}

-- ---- the used places, by a test

-- the test passes at a number below n
any_below : ℕ → (ℕ → Bool) → Bool
any_below zero t = false
any_below (suc n) t = t n || any_below n t

any_from : (n : ℕ) (t : ℕ → Bool) → any_below n t ≡ true → (j : ℕ) × (j < n) × (t j ≡ true)
unfolding any_below
any_from zero t e = cc
any_from (suc n) t e =
    ⊎_elim
    (λ (h : t n ≡ true). (n, omega arith, h))
    (λ (h : any_below n t ≡ true). let j = any_from n t h in (j.0, omega (arith, j.1), j.2))
    (or_cases _ _ e)

any_has : (n : ℕ) (t : ℕ → Bool) (j : ℕ) → j < n → t j ≡ true → any_below n t ≡ true
unfolding any_below
any_has zero t j l e = absurd (omega arith)
any_has (suc n) t j l e =
    ⊎_elim
    (λ (h : j < n). or_right _ _ (any_has n t j h e))
    (λ (h : n ≤ j). let f : j ≡ n = omega arith in or_left _ _ (ap t (sym f) ∙ e))
    (cases_lt j n)

named : TableLists → ℕ → ℕ → ℕ → Bool
named ts n j i = i == left_of ts (suc n) j || i == right_of ts (suc n) j

reached : TableLists → ℕ → ℕ → ℕ → Bool
reached ts zero n i = nat_lt i (entries ts n)
reached ts (suc d) n i = any_below (entries ts (suc n)) (λ j. reached ts d (suc n) j && named ts n j i)

reached_is : (ts : TableLists) → PairsInside ts 6 → (d n i : ℕ) → n + d ≡ 6 → (reached ts d n i ≡ true) ↔ IsReached ts d n i
unfolding reached named IsReached
reached_is ts inside zero n i e = (λ h. ltb-true _ _ h, λ h. lt-ltb _ _ h)
reached_is ts inside (suc d) n i e =
    let up : (j : ℕ) → (reached ts d (suc n) j ≡ true) ↔ IsReached ts d (suc n) j =
    λ j. reached_is ts inside d (suc n) j (omega arith) in (
      λ h.
          let j = any_from _ _ h in
          let p = and_parts _ _ j.2 in (
            j.0,
            (up j.0).0 p.0,
            ⊎_elim (λ q. inl (eqb-true _ _ q)) (λ q. inr (eqb-true _ _ q)) (or_cases _ _ p.1),
          ),
      λ h.
          any_has _ _ h.0 (inside_by_distance ts inside d (suc n) h.0 (omega arith) h.1)
          (and_from _ _ ((up h.0).1 h.1)
          (⊎_elim (λ q. or_left _ _ (eq-eqb _ _ q)) (λ q. or_right _ _ (eq-eqb _ _ q)) h.2)),
    )

used_test : TableLists → ℕ → ℕ → Bool
used_test ts n i = reached ts (6 - n) n i

used_tested : (ts : TableLists) (n : ℕ) → PairsInside ts 6 → n ≤ 6 → MarksUsed ts n (used_test ts n)
unfolding used_test
used_tested ts n inside l = λ i. reached_is ts inside (6 - n) n i (omega arith)

-- ---- the place of an old place in a list of points

place_of : List (ℕ × ℕ) → ℕ → ℕ
place_of [] i = 0
place_of (q ∷ qs) i = if q.1 == i then 0 else suc (place_of qs i)

place_found : (qs : List (ℕ × ℕ)) (i s : ℕ) → s < length qs → (slice_index_or qs s (0, 0)).1 ≡ i →
    (place_of qs i < length qs) × ((slice_index_or qs (place_of qs i) (0, 0)).1 ≡ i)
unfolding place_of
place_found [] i s l e = absurd (omega arith)
place_found (q ∷ qs) i zero l e = let t = eq-eqb _ _ e in rw t (omega arith, e)
place_found (q ∷ qs) i (suc s) l e =
    ⊎_elim
    (λ (h : q.1 ≡ i). let t = eq-eqb _ _ h in rw t (omega arith, h))
    (λ (h : q.1 ≢ i).
    let t = ne_eqb _ _ h in
    let r = place_found qs i s (omega arith) e in
    rw t (omega (arith, r.0), r.1))
    (cases_eq q.1 i)

-- ---- one level

module _ (ts : TableLists) (id : List ℕ) (k n : ℕ) (old : ℕ → ℕ) (t : Describes ts id k) (l : n < 6) (apart : IsOneToOne ts n old) where
  used_places : List ℕ
  used_places = filter (used_test ts (suc n)) (listed_by (λ i. i) (entries ts (suc n)))

  with_point : ℕ → ℕ × ℕ
  with_point i = (point_at ts n old i, i)

  point_in : ℕ × ℕ → ℕ
  point_in q = q.0

  pointed : List (ℕ × ℕ)
  pointed = sort_by point_in (map with_point used_places)

  with_place : ℕ → ℕ × ℕ
  with_place i = (i, place_of pointed i)

  moved : List (ℕ × ℕ)
  moved = map with_place used_places

  places_used : (i : ℕ) → Contains used_places i → IsUsed ts (suc n) i
  unfolding used_places
  places_used i c = (used_tested ts (suc n) t.inside l i).0 (filter_from (used_test ts (suc n)) _ i c).1

  used_in : (i : ℕ) → IsUsed ts (suc n) i → Contains used_places i
  unfolding used_places
  used_in i u =
      filter_keeps (used_test ts (suc n)) _ i ((used_tested ts (suc n) t.inside l i).1 u)
      (listed_has (λ i. i) (entries ts (suc n)) i (used_is_inside ts (suc n) i l t.inside u))

  places_rise : AllPairs ◌<◌ used_places
  unfolding used_places
  places_rise = AllPairs-filter ◌<◌ (used_test ts (suc n)) _ (listed_pairs ◌<◌ (λ i. i) (entries ts (suc n)) (λ i j h g. h))

  pointed_has : (i : ℕ) → IsUsed ts (suc n) i → Contains pointed (with_point i)
  unfolding pointed
  pointed_has i u = sort_keeps point_in (map with_point used_places) (with_point i) (map_has with_point used_places i (used_in i u))

  pointed_from : (q : ℕ × ℕ) → Contains pointed q → IsUsed ts (suc n) q.1 × (with_point q.1 ≡ q)
  unfolding pointed with_point
  pointed_from q c =
      let i = map_from with_point used_places q (sort_from point_in (map with_point used_places) q c) in
      let e : i.0 ≡ q.1 = ap (λ (r : ℕ × ℕ). r.1) i.2 in
      (subst (IsUsed ts (suc n)) e (places_used i.0 i.1), ap with_point (sym e) ∙ i.2)

  pointed_rise : AllPairs (λ a b. a.0 < b.0) pointed
  unfolding pointed with_point point_in
  pointed_rise =
      pairs_both (λ a b. a.0 ≤ b.0) ◌≢◌ (λ a b. a.0 < b.0) pointed
      (λ a b ca cb le ne.
      let pa = pointed_from a ca in
      let pb = pointed_from b cb in
      ⊎_elim
      (λ (e : a.1 ≡ b.1). absurd (ne (sym pa.1 ∙ ap with_point e ∙ pb.1)))
      (λ (e : a.1 ≢ b.1).
      let d = points_differ ts id k n old a.1 b.1 t l apart pa.0 pb.0 e in
      let ea : point_at ts n old a.1 ≡ a.0 = ap (λ (r : ℕ × ℕ). r.0) pa.1 in
      let eb : point_at ts n old b.1 ≡ b.0 = ap (λ (r : ℕ × ℕ). r.0) pb.1 in
      let f : a.0 ≢ b.0 = λ g. d (ea ∙ g ∙ sym eb) in
      omega arith)
      (cases_eq a.1 b.1))
      (sort_rises point_in (map with_point used_places))
      (sort_differs point_in (map with_point used_places)
      (pairs_map with_point ◌≢◌ used_places
      (pairs_weaker ◌<◌ (λ a b. with_point a ≢ with_point b) used_places
      (λ a b ca cb lt e. let f : a ≡ b = ap (λ (r : ℕ × ℕ). r.1) e in absurd (omega arith)) places_rise)))

  place_is : (s : ℕ) → s < length pointed → place_of pointed (slice_index_or pointed s (0, 0)).1 ≡ s
  place_is s h =
      let i = (slice_index_or pointed s (0, 0)).1 in
      let f = place_found pointed i s h refl in
      let a = (pointed_from _ (contains_at pointed (place_of pointed i) (0, 0) f.0)).1 in
      let b = (pointed_from _ (contains_at pointed s (0, 0) h)).1 in
      one_place pointed pointed_rise (place_of pointed i) s f.0 h
      (ap (λ (r : ℕ × ℕ). r.0) (sym a ∙ ap with_point f.1 ∙ b))

  moved_has : (s : ℕ) → s < length pointed → Contains moved ((slice_index_or pointed s (0, 0)).1, s)
  unfolding moved with_place
  moved_has s h =
      let i = (slice_index_or pointed s (0, 0)).1 in
      let u = (pointed_from _ (contains_at pointed s (0, 0) h)).0 in
      subst (Contains moved) (ap (λ v. (i, v)) (place_is s h)) (map_has with_place used_places i (used_in i u))

  moved_from : (q : ℕ × ℕ) → Contains moved q → (q.1 < length pointed) × ((slice_index_or pointed q.1 (0, 0)).1 ≡ q.0)
  unfolding moved with_place with_point
  moved_from q c =
      let i = map_from with_place used_places q c in
      let s = at_contained pointed (with_point i.0) (0, 0) (pointed_has i.0 (places_used i.0 i.1)) in
      let f = place_found pointed i.0 s.0 s.1 (ap (λ (r : ℕ × ℕ). r.1) s.2) in
      let e : i.0 ≡ q.0 = ap (λ (r : ℕ × ℕ). r.0) i.2 in
      let g : place_of pointed i.0 ≡ q.1 = ap (λ (r : ℕ × ℕ). r.1) i.2 in
      (subst (λ v. v < length pointed) g f.0, ap (λ v. (slice_index_or pointed v (0, 0)).1) (sym g) ∙ f.1 ∙ e)

  numbered : IsNumbered ts n old pointed moved
  unfolding moved with_place with_point
  numbered = record {
    rise = pointed_rise;
    all = pointed_has;
    only = λ s h. let q = pointed_from _ (contains_at pointed s (0, 0) h) in (q.0, sym (ap (λ (r : ℕ × ℕ). r.0) q.1));
    moved_rise = pairs_map with_place (λ a b. a.0 < b.0) used_places places_rise;
    moved_all = moved_has;
    moved_only = λ r h. moved_from _ (contains_at moved r (0, 0) h);
  }

  few_points : length (firsts pointed) ≤ entries ts (suc n)
  unfolding pointed used_places
  few_points =
      omega (
        arith,
        length-firsts pointed,
        length-sort_by point_in (map with_point used_places),
        length-map used_places with_point,
        length_filter (used_test ts (suc n)) (listed_by (λ i. i) (entries ts (suc n))),
        length-listed_by (λ i. i) (entries ts (suc n)),
      )

-- ---- all levels

abbrev place_at : List (ℕ → ℕ) → ℕ → ℕ → ℕ
place_at places n = slice_index_or places n (λ i. 0)

record Levels (ts : TableLists) (m : ℕ) : Type 0 where
  places : List (ℕ → ℕ)
  points : List (List ℕ)
  places_length : length places ≡ suc m
  points_length : length points ≡ m
  values : (i : ℕ) → place_at places 0 i ≡ slice_index ts.values i
  steps : (n : ℕ) → n < m → IsRenumbered ts n (place_at places n) (place_at places (suc n)) (slice_index_or points n [])
  apart : IsOneToOne ts m (place_at places m)
  few : (n : ℕ) → n < m → length (slice_index_or points n []) ≤ entries ts (suc n)

levels_zero : (ts : TableLists) (id : List ℕ) (k : ℕ) → Describes ts id k → Levels ts 0
levels_zero ts id k t = record {
  places = slice_index ts.values ∷ [];
  points = [];
  places_length = refl;
  points_length = refl;
  values = λ i. refl;
  steps = λ n l. absurd (omega arith);
  apart = values_are_apart ts id k t;
  few = λ n l. absurd (omega arith);
}

levels_suc : (ts : TableLists) (id : List ℕ) (k m : ℕ) → Describes ts id k → m < 6 → Levels ts m → Levels ts (suc m)
levels_suc ts id k m t l v =
    let old = place_at v.places m in
    let work = numbered ts id k m old t l v.apart in
    let qs = pointed ts id k m old t l v.apart in
    let new = new_place (used_test ts (suc m)) (moved ts id k m old t l v.apart) in
    let r = (numbered_is_renumbered ts m old qs _ (used_test ts (suc m)) work (used_tested ts (suc m) t.inside l)).0 in
    let points = firsts qs in
    let place_old : (n : ℕ) → n ≤ m → place_at (v.places ++ new ∷ []) n ≡ place_at v.places n =
    λ n g. get_or_append_left v.places (new ∷ []) (λ i. 0) n (omega (arith, v.places_length)) in
    let place_new : place_at (v.places ++ new ∷ []) (suc m) ≡ new = get_or_push v.places new (λ i. 0) (suc m) v.places_length in
    let points_old : (n : ℕ) → n < m → slice_index_or (v.points ++ points ∷ []) n [] ≡ slice_index_or v.points n [] =
    λ n g. get_or_append_left v.points (points ∷ []) [] n (omega (arith, v.points_length)) in
    let points_new : slice_index_or (v.points ++ points ∷ []) m [] ≡ points = get_or_push v.points points [] m v.points_length in
    record {
      places = v.places ++ new ∷ [];
      points = v.points ++ points ∷ [];
      places_length = length_push v.places new ∙ omega (arith, v.places_length);
      points_length = length_push v.points points ∙ omega (arith, v.points_length);
      values = λ i. ap (λ f. f i) (place_old 0 (omega arith)) ∙ v.values i;
      steps = λ n g.
          ⊎_elim
          (λ (h : n < m).
          subst (λ f. IsRenumbered ts n f (place_at (v.places ++ new ∷ []) (suc n)) (slice_index_or (v.points ++ points ∷ []) n [])) (sym (place_old n (omega arith)))
          (subst (λ f. IsRenumbered ts n (place_at v.places n) f (slice_index_or (v.points ++ points ∷ []) n [])) (sym (place_old (suc n) h))
          (subst (IsRenumbered ts n (place_at v.places n) (place_at v.places (suc n))) (sym (points_old n h)) (v.steps n h))))
          (λ (h : m ≤ n).
          let e : m ≡ n = omega arith in
          subst (λ q. IsRenumbered ts q (place_at (v.places ++ new ∷ []) q) (place_at (v.places ++ new ∷ []) (suc q)) (slice_index_or (v.points ++ points ∷ []) q [])) e
          (subst (λ f. IsRenumbered ts m f (place_at (v.places ++ new ∷ []) (suc m)) (slice_index_or (v.points ++ points ∷ []) m [])) (sym (place_old m (omega arith)))
          (subst (λ f. IsRenumbered ts m (place_at v.places m) f (slice_index_or (v.points ++ points ∷ []) m [])) (sym place_new)
          (subst (IsRenumbered ts m (place_at v.places m) new) (sym points_new) r))))
          (cases_lt n m);
      apart = subst (IsOneToOne ts (suc m)) (sym place_new) (renumbered_is_apart ts id k m old new points t l v.apart r);
      few = λ n g.
          ⊎_elim
          (λ (h : n < m). subst (λ q. length q ≤ entries ts (suc n)) (sym (points_old n h)) (v.few n h))
          (λ (h : m ≤ n).
          let e : m ≡ n = omega arith in
          subst (λ q. length (slice_index_or (v.points ++ points ∷ []) q []) ≤ entries ts (suc q)) e
          (subst (λ q. length q ≤ entries ts (suc m)) (sym points_new) (few_points ts id k m old t l v.apart)))
          (cases_lt n m);
    }

levels_to : (ts : TableLists) (id : List ℕ) (k : ℕ) → Describes ts id k → (m : ℕ) → m ≤ 6 → Levels ts m
levels_to ts id k t zero l = levels_zero ts id k t
levels_to ts id k t (suc m) l = levels_suc ts id k m t l (levels_to ts id k t m (omega arith))

-- ---- the last table and the plot

last_number_of : TableLists → ℕ → (ℕ → ℕ) → ℕ → ℕ
last_number_of ts k new i = slice_index ts.last i / 64 * 2 ^ (k + 1) + new i

lasts_of : TableLists → ℕ → (ℕ → ℕ) → List ℕ
lasts_of ts k new = sort_by (λ s. s) (listed_by (last_number_of ts k new) (entries ts 6))

last_table : (ts : TableLists) (k : ℕ) (new : ℕ → ℕ) → IsOneToOne ts 6 new → ((i : ℕ) → i < entries ts 6 → new i < 2 ^ (k + 1)) →
    IsLastTable ts k new (lasts_of ts k new)
unfolding lasts_of last_number_of
last_table ts k new apart below =
    let all = listed_by (last_number_of ts k new) (entries ts 6) in
    record {
      rise = pairs_both (λ a b. a ≤ b) ◌≢◌ ◌<◌ (lasts_of ts k new) (λ a b ca cb le ne. omega arith)
          (sort_rises (λ s. s) all)
          (sort_differs (λ s. s) all
          (listed_pairs ◌≢◌ (last_number_of ts k new) (entries ts 6)
          (λ i j l g. last_numbers_differ ts k new i j apart (omega arith) g (below i (omega arith)) (below j g) (λ e. omega arith))));
      placed = λ i l. sort_keeps (λ s. s) all _ (listed_has (last_number_of ts k new) (entries ts 6) i l);
      filled = λ s c.
          let i = listed_from (last_number_of ts k new) (entries ts 6) s (sort_from (λ s. s) all s c) in
          (i.0, i.1, sym i.2);
    }

module _ (ts : TableLists) (id : List ℕ) (k : ℕ) (t : Describes ts id k) (few : IsAbove id k 6 (2 ^ (k + 1)) → ⊥) where
  levels : Levels ts 6
  levels = levels_to ts id k t 6 (omega arith)

  place : ℕ → ℕ → ℕ
  place = place_at levels.places

  few_entries : entries ts 6 ≤ 2 ^ (k + 1)
  few_entries =
      ⊎_elim
      (λ (l : 2 ^ (k + 1) < entries ts 6).
      absurd (few (tuples_are_above ts id k 6 (2 ^ (k + 1))
      (λ i g. t.nodes 6 i (omega arith) g) (λ i j g h e. t.once 6 i j (omega arith) g h e) l)))
      (λ (l : entries ts 6 ≤ 2 ^ (k + 1)). l)
      (cases_lt (2 ^ (k + 1)) (entries ts 6))

  lasts : List ℕ
  lasts = lasts_of ts k (place 6)

  plot : PlotLists
  plot = record { id = id; k = k; tables = levels.points ++ lasts ∷ [] }

  numbers-low : (n : ℕ) → n < 6 → numbers plot (suc n) ≡ slice_index_or levels.points n []
  unfolding plot numbers
  numbers-low n l = get_or_append_left levels.points (lasts ∷ []) [] n (omega (arith, levels.points_length))

  numbers-last : numbers plot 7 ≡ lasts
  unfolding plot numbers
  numbers-last = get_or_push levels.points lasts [] 6 levels.points_length

  same_id : plot.id ≡ id
  unfolding plot
  same_id = refl

  same_size : plot.k ≡ k
  unfolding plot
  same_size = refl

  seven : length plot.tables ≡ 7
  unfolding plot
  seven = length_push levels.points lasts ∙ ap (λ n. n + 1) levels.points_length

  relocated : IsRelocated ts plot place
  unfolding place lasts
  relocated = record {
    values = levels.values;
    six = λ n l. subst (IsRenumbered ts n (place n) (place (suc n))) (sym (numbers-low n l)) (levels.steps n l);
    seventh =
        subst (IsLastTable ts plot.k (place 6)) (sym numbers-last)
        (subst (λ b. IsLastTable ts b (place 6) lasts) (sym same_size)
        (last_table ts k (place 6) levels.apart
        (λ i l.
        let b = (levels.steps 5 (omega arith)).placed i (used_at_top ts i l) in
        let c = levels.few 5 (omega arith) in
        let d = few_entries in
        omega arith)));
  }

  few_numbers : count plot 6 ≤ 2 ^ (k + 1)
  few_numbers = omega (arith, ap length (numbers-low 5 (omega arith)), levels.few 5 (omega arith), few_entries)

pub renumbering_is_there : RenumberingIsThere
renumbering_is_there ts id k t few =
    let p = plot ts id k t few in
    let r = relocated ts id k t few in
    let size = same_size ts id k t few in
    let n = few_numbers ts id k t few in (
      p,
      place ts id k t few,
      r,
      relocated_is_the_plot ts id k p (place ts id k t few) t r (same_id ts id k t few) size (seven ts id k t few),
      relocated_is_in_range ts id k p (place ts id k t few) t r size n,
      n,
    )

pub plot_is_there : PlotIsThere
plot_is_there id k few =
    let ts = tables_are_there id k in
    let r = renumbering_is_there ts.0 id k ts.1 few in
    (r.0, r.3, r.4, r.5)
