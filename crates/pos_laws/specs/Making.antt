-- How the tables are made, one from the one before, and when there are too many entries.
-- Source: the Construction document, "forward propagation". Levels count from 0 to 6, as in the tables.
use Rattle.std.specs.Prelude.{◌≡◌, ◌≢◌, ℕ, ◌+◌, ◌-◌, ◌^◌, ◌≤◌, ◌<◌, List, length, map, slice_index_or, All, AllPairs, Contains, Some}
use Rattle.pos_tuple.specs.declared.entry.Entry.{Entry}
use Rattle.pos_tuple.specs.Match.{Match}
use Rattle.pos_tuple.specs.Node.{node, first_entry, next_entry}
use Rattle.pos_laws.specs.Tables.{HasNode}
use Rattle.pos_lists.specs.TableLists.{TableLists, left_in, right_in, entries, tuple, PairsInside}

-- es are the entries of level n of these tables, by place; they are all that there are, each once
pub record AreNodes (ts : TableLists) (id : List ℕ) (k n : ℕ) (es : List Entry) : Type 0 where
  pub one_each : length es ≡ entries ts n
  pub nodes : (i : ℕ) (d : Entry) → i < length es → node id k n (tuple ts n i) ≡ Some (slice_index_or es i d)
  pub all : (xs : List ℕ) → HasNode id k n xs → (i : ℕ) × (i < entries ts n) × (tuple ts n i ≡ xs)
  pub once : (i j : ℕ) → i < entries ts n → j < entries ts n → tuple ts n i ≡ tuple ts n j → i ≡ j

-- the y of these entries never falls
abbrev pub NeverFalls : List Entry → Type 0
NeverFalls es = AllPairs (λ a b. a.y ≤ b.y) es

-- these values, in any order, are all that are below 2 ^ k, each once, with their entries by place
pub record IsFirstTable (id : List ℕ) (k : ℕ) (values : List ℕ) (es : List Entry) : Type 0 where
  pub below : All (λ x. x < 2 ^ k) values
  pub all : (x : ℕ) → x < 2 ^ k → Contains values x
  pub once : AllPairs ◌≢◌ values
  pub made : es ≡ map (first_entry id k) values

-- these are matching pairs of places of the entries below, each once
pub record AreMatching (below : List Entry) (pairs : List (ℕ × ℕ)) : Type 0 where
  pub inside : (i : ℕ) → i < length pairs → (left_in pairs i < length below) × (right_in pairs i < length below)
  pub matching : (i : ℕ) (d : Entry) → i < length pairs →
      Match (slice_index_or below (left_in pairs i) d).y (slice_index_or below (right_in pairs i) d).y
  pub once : AllPairs ◌≢◌ pairs

-- these pairs, in any order, are those of level n + 1 over the entries below: all the matching pairs of
-- places, each once, with their entries by place
pub record IsNextTable (k n : ℕ) (below : List Entry) (pairs : List (ℕ × ℕ)) (es : List Entry) : Type 0 where
  pub are_matching : AreMatching below pairs
  pub all : (l r : ℕ) (d : Entry) → l < length below → r < length below →
      Match (slice_index_or below l d).y (slice_index_or below r d).y → Contains pairs (l, r)
  pub one_each : length es ≡ length pairs
  pub made : (i : ℕ) (d : Entry) → i < length pairs →
      slice_index_or es i d
      ≡ next_entry k (n + 2) (slice_index_or below (left_in pairs i) d) (slice_index_or below (right_in pairs i) d)

-- the levels 0 to n of these tables are made: each has its entries, with a y that never falls
pub record AreMade (ts : TableLists) (id : List ℕ) (k n : ℕ) : Type 0 where
  pub inside : PairsInside ts n
  pub made : (m : ℕ) → m ≤ n → (es : List Entry) × AreNodes ts id k m es × NeverFalls es

-- more than c tuples have a node at level n: there is a list of so many different ones
abbrev pub IsAbove : List ℕ → ℕ → ℕ → ℕ → Type 0
IsAbove id k n c = (xs : List (List ℕ)) × (c < length xs) × AllPairs ◌≢◌ xs × All (HasNode id k n) xs

-- table t, from 2 to 7, is the first that has more than c entries
pub record IsFull (id : List ℕ) (k c t : ℕ) : Type 0 where
  pub second : 2 ≤ t
  pub seventh : t ≤ 7
  pub above : IsAbove id k (t - 1) c
  pub first : (s : ℕ) → 2 ≤ s → s < t → IsAbove id k (s - 1) c → ⊥
