-- A plot as seven lists of numbers.
-- Source: the Construction document, "tables"; that a plot is these lists and nothing else, and the numbers of table 7,
-- are this project's own. Tables count from 1 to 7, places in a table from 0.
use Rattle.std.specs.Prelude.{ℕ, zero, suc, ◌+◌, ◌*◌, ◌/◌, ◌%◌, ◌^◌, ◌<◌, List, [], length, slice_index, slice_index_or, AllPairs}

-- an id of 32 bytes, a size k, and the lists of tables 1 to 7
pub record PlotLists : Type 0 where
  pub id : List ℕ
  pub k : ℕ
  pub tables : List (List ℕ)

-- the numbers of a table from 1 to 7
unfoldable pub numbers : PlotLists → ℕ → List ℕ
numbers p zero = []
numbers p (suc n) = slice_index_or p.tables n []

-- how many there are
abbrev pub count : PlotLists → ℕ → ℕ
count p t = length (numbers p t)

-- the number at a place of a table
abbrev pub number_at : PlotLists → ℕ → ℕ → ℕ
number_at p t i = slice_index (numbers p t) i

-- the number of table 7 for an f7 and a place of table 6, at size k
abbrev pub last_number : ℕ → ℕ → ℕ → ℕ
last_number k f7 place = f7 * 2 ^ (k + 1) + place

-- the f7 and the place in a number of table 7 at size k
abbrev pub f7_in : ℕ → ℕ → ℕ
f7_in k s = s / 2 ^ (k + 1)

abbrev pub place_in : ℕ → ℕ → ℕ
place_in k s = s % 2 ^ (k + 1)

-- every table's numbers rise
abbrev pub NumbersRise : PlotLists → Type 0
NumbersRise p = (n : ℕ) → n < 7 → AllPairs ◌<◌ (numbers p (suc n))
