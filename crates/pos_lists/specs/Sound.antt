-- What a pass may rely on of tables that it reads back, whatever id they are of; and tables that are not too long.
-- Source: this project's own. Levels count from 0 to 6, places from 0.
use Rattle.std.specs.Prelude.{◌≡◌, ◌≢◌, ℕ, suc, ◌+◌, ◌^◌, ◌<◌, ◌≤◌, length, slice_index}
use Rattle.pos_lists.specs.TableLists.{TableLists, entries, left_of, right_of, PairsInside}

-- every pair points into the level below, to two different places; and each y of the last list has k + 6 bits
pub record IsSound (ts : TableLists) (k : ℕ) : Type 0 where
  pub six : length ts.pairs ≡ 6
  pub inside : PairsInside ts 6
  pub differ : (n i : ℕ) → n < 6 → i < entries ts (suc n) → left_of ts (suc n) i ≢ right_of ts (suc n) i
  pub as_long : length ts.last ≡ entries ts 6
  pub below : (i : ℕ) → i < entries ts 6 → slice_index ts.last i < 2 ^ (k + 6)

-- no level from 1 on has more than c entries
abbrev pub IsWithin : ℕ → TableLists → Type 0
IsWithin c ts = (n : ℕ) → 0 < n → n ≤ 6 → entries ts n ≤ c
