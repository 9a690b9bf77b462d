-- The seven tables of a plotting run: what stands of them, and why there are none. Levels count from 0 to 6: level n is table
-- n + 1. Source: the Construction document, "forward propagation"; the order of work on scratch files is this project's own.
use Rattle.std.specs.Prelude.{ℕ, ◌+◌, ◌-◌, ◌/◌, ◌^◌, ◌<◌, ◌≤◌, ◌≡◌, ◌⊎◌, true, List, min}
use Rattle.pos_edge.specs.Faults.{Rose}
use Rattle.pos_edge.specs.View.{View}
use Rattle.pos_edge.specs.Calls.{WasThere}
use Rattle.pos_edge.specs.ScratchNames.{ScratchState, scratch_name, IsLeft}
use Rattle.pos_edge.specs.declared.scratch.ScratchDamage.{ScratchDamage}
use Rattle.pos_edge.specs.declared.scratch.WorkFault.TheVariants.{DiskFailed, Exists, Scratch, Memory}
use Rattle.pos_lists.specs.TableLists.{TableLists}
use Rattle.pos_runs.specs.Runs.{TablesState, TablesStand, IsTablesFile, pages_at}
use Rattle.pos_laws.specs.Making.{IsAbove, IsFull}
use Rattle.pos_laws.specs.Tables.{Describes}
use Rattle.pos_forward.specs.declared.faults.ForwardFault.{ForwardFault}
use Rattle.pos_forward.specs.declared.faults.ForwardFault.TheVariants.{TableFull, Work}

-- how many times eight entries are whole in the table of a level
abbrev pub eights_at : TablesState → ℕ → ℕ
eights_at t n = (pages_at t n).count / 8

-- and in tables 2 to 7 together
abbrev pub eights_of : TablesState → ℕ
eights_of t = eights_at t 1 + eights_at t 2 + eights_at t 3 + eights_at t 4 + eights_at t 5 + eights_at t 6

-- The entries of each table from 2 to 7 were made eight at a time, but for fewer than eight of a table: so often since the
-- count of times was `before`. A count at the greatest number of 64 bits stays.
abbrev pub AreByEights : ℕ → ℕ → TablesState → Type 0
AreByEights before now t = min (before + eights_of t) (2 ^ 64 - 1) ≤ now

-- Out of order: a record of the scratch file that was made last, the one before `made` and none before `first`, was read back
-- with a y below `least`, which is the y of the record read before it.
pub record IsOutOfOrder (k first made : ℕ) (damage : ScratchDamage) : Type 0 where
  pub earliest : first ≤ damage.file
  pub last : damage.file + 1 ≡ made
  pub behind : 0 < damage.at
  pub below : damage.found < damage.least
  pub least : damage.least < damage.limit
  pub limit : damage.limit ≡ 2 ^ (k + 6)

-- Why there are no seven tables of an id, by the fault: a table has more entries than c, and none below it; the disk failed; the
-- next scratch name was there; a record was read back out of order, over a disk that does not tell; or there was no memory.
abbrev pub IsForwardCause : List ℕ → ℕ → ℕ → ScratchState → ScratchState → View → View → ForwardFault → Type 0
IsForwardCause id k c s u old new (TableFull table) = old.tells ≡ true → IsFull id k c table
IsForwardCause id k c s u old new (Work DiskFailed) = Rose old.faults new.faults
IsForwardCause id k c s u old new (Work (Exists file)) = (file ≡ u.made) × WasThere (scratch_name s.base file) old
IsForwardCause id k c s u old new (Work (Scratch damage)) = IsOutOfOrder k s.made u.made damage × (old.tells ≡ true → ⊥)
IsForwardCause id k c s u old new (Work Memory) = Unit {0}

-- The seven tables of an id, table 1 with 2^k entries and none of the others with more than c, stand on eight lists. 14 scratch
-- files were made, and of these only the files of the eight lists are left. Over a disk that tells, the lists are the tables.
pub record AreSevenTables (id : List ℕ) (k c : ℕ) (s u : ScratchState) (t : TablesState) (old new : View) : Type 0 where
  pub tables : (ts : TableLists) × TablesStand k t ts new × (new.tells ≡ true → Describes ts id k)
  pub made : u.made ≡ s.made + 14
  pub left : (file : ℕ) → IsTablesFile t file → IsLeft u file
  pub only : (file : ℕ) → IsLeft u file → IsLeft s file ⊎ IsTablesFile t file
  pub first : (pages_at t 0).count ≡ 2 ^ k
  pub within : (n : ℕ) → 0 < n → n ≤ 6 → (pages_at t n).count ≤ c
  pub none_above : old.tells ≡ true → (n : ℕ) → 0 < n → n ≤ 6 → IsAbove id k n c → ⊥
