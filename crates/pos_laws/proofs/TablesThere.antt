-- Each id and each size has its tables: all values, and then all matching pairs, put in the order of y.
use Rattle.std.proofs.Common.{◌≡◌, ◌≢◌, ℕ, zero, suc, ◌+◌, ◌*◌, ◌/◌, ◌%◌, ◌^◌, ◌<◌, ◌≤◌, Bool, true, List, [], length, map, filter, slice_index_or, AllPairs, Contains, sym, refl, ap, ap₂, ◌∙◌, subst, arith, div-add-mod', mod-lt, zero-mul, add-one}
use Rattle.std.proofs.lemmas.List.{length-map, get_or-map, get_or_default, length_push}
use Rattle.std.proofs.lemmas.Nat.{div-mul-add, mod-mul-add, mul-add-lt, div_below}
use Rattle.std.proofs.lemmas.List.Kept.{AllPairs-filter}
use Rattle.pos_tuple.specs.declared.entry.Entry.{Entry}
use Rattle.pos_tuple.specs.Match.{Match, is_match}
use Rattle.pos_tuple.specs.Node.{first_entry, next_entry}
use Rattle.pos_lists.specs.TableLists.{TableLists, left_in, right_in, with_level}
use Rattle.pos_laws.specs.Making.{AreNodes, NeverFalls, IsFirstTable, IsNextTable, AreMade}
use Rattle.pos_laws.specs.ThereLaws.{TablesAreThere}
use Rattle.pos_order.proofs.NodeParts.{match_from_test, test_from_match}
use Rattle.pos_laws.proofs.Made.{no_entry, first_table_is_right}
use Rattle.pos_laws.proofs.MadeLevels.{first_table_is_made, next_table_is_made, made_tables_describe}
use Rattle.pos_laws.proofs.SameLists.{contains_at}
use Rattle.pos_laws.proofs.Sorting.{pairs_map, listed_by, listed_has, listed_from, listed_pairs, filter_keeps, filter_from, sort_by, sort_keeps, sort_from, sort_rises, sort_differs}

-- ---- the first table

first_y : List ℕ → ℕ → ℕ → ℕ
first_y id k x = (first_entry id k x).y

first_values : List ℕ → ℕ → List ℕ
first_values id k = sort_by (first_y id k) (listed_by (λ x. x) (2 ^ k))

first_there : (id : List ℕ) (k : ℕ) → IsFirstTable id k (first_values id k) (map (first_entry id k) (first_values id k))
unfolding first_values
first_there id k = record {
  below = λ i d l.
      let c = sort_from (first_y id k) (listed_by (λ x. x) (2 ^ k)) _ (contains_at (first_values id k) i d l) in
      let x = listed_from (λ x. x) (2 ^ k) _ c in
      subst (λ v. v < 2 ^ k) x.2 x.1;
  all = λ x l. sort_keeps (first_y id k) (listed_by (λ x. x) (2 ^ k)) x (listed_has (λ x. x) (2 ^ k) x l);
  once = sort_differs (first_y id k) (listed_by (λ x. x) (2 ^ k)) (listed_pairs ◌≢◌ (λ x. x) (2 ^ k) (λ i j l g e. absurd (omega arith)));
  made = refl;
}

first_rises : (id : List ℕ) (k : ℕ) → NeverFalls (map (first_entry id k) (first_values id k))
unfolding first_values first_y
first_rises id k = pairs_map (first_entry id k) (λ a b. a.y ≤ b.y) (first_values id k) (sort_rises (first_y id k) (listed_by (λ x. x) (2 ^ k)))

-- ---- all pairs of places

pair_of : ℕ → ℕ → ℕ × ℕ
pair_of m i = (i / m, i % m)

all_pairs : ℕ → List (ℕ × ℕ)
all_pairs m = listed_by (pair_of m) (m * m)

all_pairs_has : (m l r : ℕ) → l < m → r < m → Contains (all_pairs m) (l, r)
unfolding all_pairs pair_of
all_pairs_has m l r a b =
    let e : pair_of m (l * m + r) ≡ (l, r) = ap₂ {C = ℕ × ℕ} (λ x y. (x, y)) (div-mul-add l m r b) (mod-mul-add l m r b) in
    subst (Contains (all_pairs m)) e (listed_has (pair_of m) (m * m) (l * m + r) (mul-add-lt l m r m a b))

all_pairs_inside : (m : ℕ) (q : ℕ × ℕ) → Contains (all_pairs m) q → (q.0 < m) × (q.1 < m)
unfolding all_pairs pair_of
all_pairs_inside m q c =
    let i = listed_from (pair_of m) (m * m) q c in
    let pos : 0 < m = above_zero m i.0 i.1 in
    (subst (λ v. v.0 < m) i.2 (div_below i.0 m m pos i.1), subst (λ v. v.1 < m) i.2 (mod-lt i.0 pos))
  where
    above_zero : (n i : ℕ) → i < n * n → 0 < n
    above_zero zero i l = let e : 0 * 0 ≡ 0 = zero-mul 0 in absurd (omega arith)
    above_zero (suc n) i l = omega arith

all_pairs_once : (m : ℕ) → AllPairs ◌≢◌ (all_pairs m)
unfolding all_pairs pair_of
all_pairs_once m =
    listed_pairs ◌≢◌ (pair_of m) (m * m)
    (λ i j l g e.
    let a : i / m ≡ j / m = ap (λ (q : ℕ × ℕ). q.0) e in
    let b : i % m ≡ j % m = ap (λ (q : ℕ × ℕ). q.1) e in
    let c : i / m * m ≡ j / m * m = ap (λ q. q * m) a in
    absurd (omega (arith, div-add-mod' i m, div-add-mod' j m)))

-- ---- the next table

module _ (k n : ℕ) (below : List Entry) where
  matching : ℕ × ℕ → Bool
  matching q = is_match (slice_index_or below q.0 no_entry).y (slice_index_or below q.1 no_entry).y

  next_of : ℕ × ℕ → Entry
  next_of q = next_entry k (n + 2) (slice_index_or below q.0 no_entry) (slice_index_or below q.1 no_entry)

  next_y : ℕ × ℕ → ℕ
  next_y q = (next_of q).y

  next_pairs : List (ℕ × ℕ)
  next_pairs = sort_by next_y (filter matching (all_pairs (length below)))

  next_from : (q : ℕ × ℕ) → Contains next_pairs q → (q.0 < length below) × (q.1 < length below) × (matching q ≡ true)
  unfolding next_pairs
  next_from q c =
      let f = filter_from matching (all_pairs (length below)) q (sort_from next_y (filter matching (all_pairs (length below))) q c) in
      let i = all_pairs_inside (length below) q f.0 in
      (i.0, i.1, f.1)

  same_read : (q : ℕ) (d : Entry) → q < length below → slice_index_or below q no_entry ≡ slice_index_or below q d
  same_read q d l = get_or_default below q no_entry d l

  match_at : (q : ℕ × ℕ) (d : Entry) → Contains next_pairs q → Match (slice_index_or below q.0 d).y (slice_index_or below q.1 d).y
  unfolding matching
  match_at q d c =
      let f = next_from q c in
      subst (λ v. Match v.y (slice_index_or below q.1 d).y) (same_read q.0 d f.0)
      (subst (λ v. Match (slice_index_or below q.0 no_entry).y v.y) (same_read q.1 d f.1) (match_from_test _ _ f.2))

  next_has : (l r : ℕ) (d : Entry) → l < length below → r < length below →
      Match (slice_index_or below l d).y (slice_index_or below r d).y → Contains next_pairs (l, r)
  unfolding next_pairs matching
  next_has l r d a b m =
      let w = subst (λ v. Match v.y (slice_index_or below r no_entry).y) (sym (same_read l d a))
      (subst (λ v. Match (slice_index_or below l d).y v.y) (sym (same_read r d b)) m) in
      sort_keeps next_y (filter matching (all_pairs (length below))) (l, r)
      (filter_keeps matching (all_pairs (length below)) (l, r) (test_from_match _ _ w) (all_pairs_has (length below) l r a b))

  next_once : AllPairs ◌≢◌ next_pairs
  unfolding next_pairs
  next_once =
      sort_differs next_y (filter matching (all_pairs (length below)))
      (AllPairs-filter ◌≢◌ matching (all_pairs (length below)) (all_pairs_once (length below)))

  next_made : (i : ℕ) (d : Entry) → i < length next_pairs →
      slice_index_or (map next_of next_pairs) i d
      ≡ next_entry k (n + 2) (slice_index_or below (left_in next_pairs i) d) (slice_index_or below (right_in next_pairs i) d)
  unfolding next_of
  next_made i d l =
      let f = next_from _ (contains_at next_pairs i (0, 0) l) in
      get_or-map next_of next_pairs i (0, 0) d l
      ∙ ap₂ (next_entry k (n + 2)) (same_read _ d f.0) (same_read _ d f.1)

  next_there : IsNextTable k n below next_pairs (map next_of next_pairs)
  next_there = record {
    are_matching = record {
      inside = λ i l. let f = next_from _ (contains_at next_pairs i (0, 0) l) in (f.0, f.1);
      matching = λ i d l. match_at _ d (contains_at next_pairs i (0, 0) l);
      once = next_once;
    };
    all = next_has;
    one_each = length-map _ _;
    made = next_made;
  }

  next_rises : NeverFalls (map next_of next_pairs)
  unfolding next_pairs next_y
  next_rises = pairs_map next_of (λ a b. a.y ≤ b.y) next_pairs (sort_rises next_y (filter matching (all_pairs (length below))))

-- ---- all levels

record MadeTo (id : List ℕ) (k n : ℕ) : Type 0 where
  tables : TableLists
  levels : length tables.pairs ≡ n
  made : AreMade tables id k n
  top : List Entry
  nodes : AreNodes tables id k n top

first_tables : List ℕ → ℕ → TableLists
first_tables id k = record { values = first_values id k; pairs = []; last = [] }

made_zero : (id : List ℕ) (k : ℕ) → MadeTo id k 0
unfolding first_tables
made_zero id k = record {
  tables = first_tables id k;
  levels = refl;
  made = first_table_is_made (first_tables id k) id k _ (first_there id k) (first_rises id k);
  top = map (first_entry id k) (first_values id k);
  nodes = first_table_is_right (first_tables id k) id k _ (first_there id k);
}

made_suc : (id : List ℕ) (k n : ℕ) → MadeTo id k n → MadeTo id k (suc n)
made_suc id k n m =
    let ps = next_pairs k n m.top in
    let next =
    next_table_is_made m.tables id k n m.top ps (map (next_of k n m.top) ps) m.levels m.made m.nodes
    (next_there k n m.top) (next_rises k n m.top) in
    record {
      tables = with_level m.tables ps;
      levels = length_push m.tables.pairs ps ∙ ap (λ q. q + 1) m.levels ∙ add-one n;
      made = next.0;
      top = map (next_of k n m.top) ps;
      nodes = next.1;
    }

made_to : (id : List ℕ) (k n : ℕ) → MadeTo id k n
made_to id k zero = made_zero id k
made_to id k (suc n) = made_suc id k n (made_to id k n)

pub tables_are_there : TablesAreThere
tables_are_there id k =
    let m = made_to id k 6 in
    let last = map (λ (e : Entry). e.y) m.top in
    (record m.tables { last = last }, made_tables_describe m.tables id k m.top last m.levels m.made m.nodes refl)
