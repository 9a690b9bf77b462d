-- What a plot file holds: an id, a size and seven lists of numbers.
-- Source: this project's plot file format. Tables count from 1 to 7, places in a table from 0.
use Rattle.std.specs.Prelude.{◌≡◌, ℕ, ◌+◌, ◌*◌, ◌^◌, ◌<◌, ◌≤◌, ◌==◌, ◌&&◌, nat_lt, Bool, if◌then◌else◌, List, length, All}
use Rattle.std.specs.List.Sorted.{IsStrictlyIncreasing}
use Rattle.pos_bits.specs.Bits.{AreBytes}
use Rattle.pos_lists.specs.Pairs.{greater}
use Rattle.pos_lists.specs.PlotLists.{PlotLists, f7_in, place_in}
use Rattle.pos_layout.specs.declared.header.TheConstants.{LEAST_SIZE, GREATEST_SIZE}

-- numbers that a table can have at size k: not too many, rising, each of 2k + 2 bits
pub record IsTable (k : ℕ) (ns : List ℕ) : Type 0 where
  pub few : length ns ≤ 2 ^ (k + 1)
  pub rising : IsStrictlyIncreasing ns
  pub below : All (λ n. n < 2 ^ (2 * k + 2)) ns

-- lists that a file can hold
pub record IsPlot (p : PlotLists) : Type 0 where
  pub id_length : length p.id ≡ 32
  pub id_bytes : AreBytes p.id
  pub least : LEAST_SIZE ≤ p.k
  pub greatest : p.k ≤ GREATEST_SIZE
  pub seven : length p.tables ≡ 7
  pub tables : All (IsTable p.k) p.tables

-- Whether a number of table t points inside, at size k, where the table before it has so many numbers. A number of
-- tables 1 to 6 is the line point of two values below 2^k in table 1, of two places of the table before in tables
-- 2 to 6; a number of table 7 has an f7 of k bits and a place of table 6.
unfoldable pub points_inside : ℕ → ℕ → ℕ → ℕ → Bool
points_inside k t before n =
    if t == 7 then nat_lt (f7_in k n) (2 ^ k) && nat_lt (place_in k n) before
    else nat_lt (greater n) (if t == 1 then 2 ^ k else before)
