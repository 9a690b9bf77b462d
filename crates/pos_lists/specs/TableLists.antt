-- The tables that a plotting run makes, as lists, and the tuples that their places stand for.
-- Source: the Construction document, "tables"; the order within a table is this project's own.
-- Levels count from 0 to 6: level n is the run's table n + 1, and a place of it stands for 2 ^ n values.
-- Places count from 0.
use Rattle.std.specs.Prelude.{ℕ, zero, suc, ◌<◌, List, [], ◌∷◌, ◌++◌, length, slice_index, slice_index_or}

-- the values of level 0 by place; for each of the levels 1 to 6 its pairs by place, each a left and a
-- right place of the level below; and the y of level 6 by place
pub record TableLists : Type 0 where
  pub values : List ℕ
  pub pairs : List (List (ℕ × ℕ))
  pub last : List ℕ

-- the pairs of a level from 1 to 6
unfoldable pub pairs_of : TableLists → ℕ → List (ℕ × ℕ)
pairs_of ts zero = []
pairs_of ts (suc n) = slice_index_or ts.pairs n []

-- how many places a level has
unfoldable pub entries : TableLists → ℕ → ℕ
entries ts zero = length ts.values
entries ts (suc n) = length (pairs_of ts (suc n))

-- the left and the right place of a pair in a list of pairs
abbrev pub left_in : List (ℕ × ℕ) → ℕ → ℕ
left_in pairs i = (slice_index_or pairs i (0, 0)).0

abbrev pub right_in : List (ℕ × ℕ) → ℕ → ℕ
right_in pairs i = (slice_index_or pairs i (0, 0)).1

-- the left and the right place that a place of a level from 1 to 6 is made of
abbrev pub left_of : TableLists → ℕ → ℕ → ℕ
left_of ts n i = left_in (pairs_of ts n) i

abbrev pub right_of : TableLists → ℕ → ℕ → ℕ
right_of ts n i = right_in (pairs_of ts n) i

-- the 2 ^ n values that a place of level n stands for
unfoldable pub tuple : TableLists → ℕ → ℕ → List ℕ
tuple ts zero i = slice_index ts.values i ∷ []
tuple ts (suc n) i = tuple ts n (left_of ts (suc n) i) ++ tuple ts n (right_of ts (suc n) i)

-- every pair of the levels 1 to n points into the level below
abbrev pub PairsInside : TableLists → ℕ → Type 0
PairsInside ts n = (m i : ℕ) → m < n → i < entries ts (suc m) →
    (left_of ts (suc m) i < entries ts m) × (right_of ts (suc m) i < entries ts m)

-- these tables with the pairs of one more level
abbrev pub with_level : TableLists → List (ℕ × ℕ) → TableLists
with_level ts ps = record ts { pairs = ts.pairs ++ ps ∷ [] }
