-- The tables of a plotting run, on pages. Levels count from 0 to 6: level n is table n + 1. The list behind them, 7,
-- has the y of table 7.
use Rattle.std.specs.Prelude.{ℕ, zero, suc, ◌≡◌, ◌≤◌, true, false, List, [], length, map, slice_index_or}
use Rattle.pos_edge.specs.View.{View}
use Rattle.pos_lists.specs.TableLists.{TableLists, pairs_of}
use Rattle.pos_record.specs.Kinds.{value_read, pair_read, pair_width, number_read, number_width}
use Rattle.pos_record.specs.declared.kinds.Value.{Value}
use Rattle.pos_record.specs.declared.kinds.Pair.{Pair}
use Rattle.pos_record.specs.declared.kinds.Number.{Number}
use Rattle.pos_runs.specs.Pages.{ListPages, ListStands, ListHolds}

-- the lists of the tables by level: the values, the pairs of tables 2 to 7, and the y of table 7
abbrev pub TablesState : Type 0
TablesState = List ListPages

-- no list
abbrev pub no_pages : ListPages
no_pages = record { file = 0; number = 0; count = 0; is_sealed = false; written = 0; page = 0; used = 0; bytes = [] }

-- the list of a level
abbrev pub pages_at : TablesState → ℕ → ListPages
pages_at t n = slice_index_or t n no_pages

-- how many bits a record of a level has at size k
abbrev pub level_width : ℕ → ℕ → ℕ
level_width k zero = k
level_width k (suc n) = pair_width k

-- the same values, pairs and numbers as records
abbrev pub value_record : ℕ → Value
value_record x = record { x = x }

abbrev pub pair_record : ℕ × ℕ → Pair
pair_record p = record { left = p.0; right = p.1 }

abbrev pub number_record : ℕ → Number
number_record y = record { number = y }

-- a sealed list that stands
pub record StandsSealed (w : ℕ) (s : ListPages) (view : View) : Type 0 where
  pub stands : ListStands w s view
  pub sealed : s.is_sealed ≡ true

-- What tables stand for: these lists. Of a disk that doesn't tell, their lengths alone.
pub record TablesStand (k : ℕ) (t : TablesState) (ts : TableLists) (view : View) : Type 0 where
  pub eight : length t ≡ 8
  pub six : length ts.pairs ≡ 6
  pub as_long : (pages_at t 7).count ≡ (pages_at t 6).count
  pub levels : (n : ℕ) → n ≤ 6 → StandsSealed (level_width k n) (pages_at t n) view
  pub last : StandsSealed (number_width k) (pages_at t 7) view
  pub values : ListHolds (value_read k) k (pages_at t 0) (map value_record ts.values) view
  pub pairs : (n : ℕ) → n ≤ 5 → ListHolds (pair_read k) (pair_width k) (pages_at t (suc n)) (map pair_record (pairs_of ts (suc n))) view
  pub numbers : ListHolds (number_read k) (number_width k) (pages_at t 7) (map number_record ts.last) view

-- the FileId is that of a list of these tables
abbrev pub IsTablesFile : TablesState → ℕ → Type 0
IsTablesFile t file = (n : ℕ) × (n ≤ 7) × (file ≡ (pages_at t n).file)

-- the same tables, but for the pages that are in memory
pub record SameTables (k : ℕ) (before after : TablesState) (old new : View) : Type 0 where
  pub stand : (ts : TableLists) → TablesStand k before ts old → TablesStand k after ts new
  pub counts : (n : ℕ) → (pages_at after n).count ≡ (pages_at before n).count
  pub files : (n : ℕ) → (pages_at after n).file ≡ (pages_at before n).file
  pub numbers : (n : ℕ) → (pages_at after n).number ≡ (pages_at before n).number
