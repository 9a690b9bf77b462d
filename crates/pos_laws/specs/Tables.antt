-- The tables of an id: their places stand for exactly the tuples that have a node.
-- Source: the Construction document, "tables"; the order within a table is this project's own.
-- Levels count from 0 to 6: level n is the run's table n + 1, and a place of it stands for 2 ^ n values.
-- Places count from 0.
use Rattle.std.specs.Prelude.{◌≡◌, ℕ, ◌≤◌, ◌<◌, List, length, slice_index, IsSome}
use Rattle.std.specs.Option.{option_map_or}
use Rattle.pos_lists.specs.TableLists.{TableLists, entries, tuple, PairsInside}
use Rattle.pos_tuple.specs.Node.{node}

-- these are 2 ^ n values that have an entry in table n + 1: each is below 2 ^ k, and all their pairs match
abbrev pub HasNode : List ℕ → ℕ → ℕ → List ℕ → Type 0
HasNode id k n xs = IsSome (node id k n xs)

-- the y of the entry of a tuple that has one
abbrev pub y_of : List ℕ → ℕ → ℕ → List ℕ → ℕ
y_of id k n xs = option_map_or (λ e. e.y) (node id k n xs) 0

-- the tables are those of this id and size: at each level their places stand for exactly the tuples
-- that have a node, each once, with a y that never falls, and the last list has the y of level 6
pub record Describes (ts : TableLists) (id : List ℕ) (k : ℕ) : Type 0 where
  pub six : length ts.pairs ≡ 6
  pub inside : PairsInside ts 6
  pub nodes : (n i : ℕ) → n ≤ 6 → i < entries ts n → HasNode id k n (tuple ts n i)
  pub all : (n : ℕ) (xs : List ℕ) → n ≤ 6 → HasNode id k n xs → (i : ℕ) × (i < entries ts n) × (tuple ts n i ≡ xs)
  pub once : (n i j : ℕ) → n ≤ 6 → i < entries ts n → j < entries ts n → tuple ts n i ≡ tuple ts n j → i ≡ j
  pub rises : (n i j : ℕ) → n ≤ 6 → i < j → j < entries ts n → y_of id k n (tuple ts n i) ≤ y_of id k n (tuple ts n j)
  pub as_long : length ts.last ≡ entries ts 6
  pub last_y : (i : ℕ) → i < entries ts 6 → slice_index ts.last i ≡ y_of id k 6 (tuple ts 6 i)
