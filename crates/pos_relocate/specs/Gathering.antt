-- What is read back of tables in one pass, and what is wrong with it.
-- Source: the Construction document, "compression"; the damages are this project's own.
-- Levels count from 0 to 6, a run's tables from 1 to 7, places from 0.
use Rattle.std.specs.Prelude.{◌≡◌, ◌≢◌, ℕ, suc, ◌+◌, ◌-◌, ◌*◌, ◌/◌, ◌%◌, ◌^◌, ◌<◌, ◌≤◌, ◌⊎◌, Bool, true, List, length, slice_index, Result, IsErrOf}
use Rattle.pos_edge.specs.Faults.{Rose}
use Rattle.pos_edge.specs.View.{View}
use Rattle.pos_edge.specs.Frame.{ReadsOnly, SameFaultsBut}
use Rattle.pos_edge.specs.declared.scratch.ScratchDamage.{ScratchDamage}
use Rattle.pos_edge.specs.declared.scratch.WorkFault.{WorkFault}
use Rattle.pos_edge.specs.declared.scratch.WorkFault.TheVariants.{DiskFailed, Exists, Scratch}
use Rattle.pos_lists.specs.TableLists.{TableLists, entries, left_of, right_of}
use Rattle.pos_lists.specs.Used.{Names}
use Rattle.pos_record.specs.Fields.{IsRecordSize}
use Rattle.pos_runs.specs.Runs.{TablesState, TablesStand, pages_at}
use Rattle.pos_relocate.specs.Passes.{AreBelow, IsOutOfRange}

-- ---- the disk and the tables

-- Work that only reads, whatever it answered: no file was changed or made. The count of faults tells whether the disk failed,
-- and damage is of a number out of its range.
pub record IsPointing {X : Type 0} (result : Result X WorkFault) (old new : View) : Type 0 where
  pub only : ReadsOnly old new
  pub failed : IsErrOf result DiskFailed → Rose old.faults new.faults
  pub quiet : SameFaultsBut DiskFailed result old new
  pub makes_none : (number : ℕ) → IsErrOf result (Exists number) → ⊥
  pub range : (damage : ScratchDamage) → IsErrOf result (Scratch damage) → IsOutOfRange damage

-- Entries of table t can get points below a bound: the tables stand, and the numbers of the table below are below a
-- limit whose pairs have points below the bound.
pub record CanPoint (k t limit bound : ℕ) (below : List ℕ) (tables : TablesState) (view : View) : Type 0 where
  pub size : IsRecordSize k
  pub first : 2 ≤ t
  pub last : t ≤ 7
  pub stands : (ts : TableLists) × TablesStand k tables ts view
  pub below_limit : AreBelow (length below) limit below
  pub limited : limit ≤ 2 ^ (k + 1)
  pub exact : limit * (limit - 1) / 2 ≤ bound

-- The two numbers of each numbered pair of level n + 1 below a place differ: so it has a point.
abbrev pub HavePoints : TableLists → ℕ → (ℕ → Bool) → List ℕ → ℕ → Type 0
HavePoints ts n p below high = (i : ℕ) → i < high → p i ≡ true → slice_index below (left_of ts (suc n) i) ≢ slice_index below (right_of ts (suc n) i)

-- ---- what is wrong

-- a place of pair i of level n + 1 is not below the count of the level below: the damage names the pair in its file
pub record IsOutsideBelow (ts : TableLists) (n i count file : ℕ) (damage : ScratchDamage) : Type 0 where
  pub file_is : damage.file ≡ file
  pub place : damage.at ≡ i
  pub found : Names ts n i damage.found
  pub least : damage.least ≡ 0
  pub limit : damage.limit ≡ count
  pub above : damage.limit ≤ damage.found

-- both places of pair i of level n + 1 have one number below, at level 0 one value: the damage names the right one
-- of them in the file of the level below, with that number
pub record IsOneNumber (ts : TableLists) (n i bound file : ℕ) (old : ℕ → ℕ) (damage : ScratchDamage) : Type 0 where
  pub file_is : damage.file ≡ file
  pub place : damage.at ≡ right_of ts (suc n) i
  pub found : damage.found ≡ old damage.at
  pub same : old (left_of ts (suc n) i) ≡ damage.found
  pub least : damage.least ≡ damage.found + 1
  pub limit : damage.limit ≡ bound

-- pair i of level n + 1 has no point over these numbers of level n
abbrev pub HasNoPoint : TableLists → ℕ → ℕ → ℕ → List ℕ → TablesState → ScratchDamage → Type 0
HasNoPoint ts n i limit below tables damage =
    IsOutsideBelow ts n i (length below) (pages_at tables (suc n)).number damage
    ⊎ IsOneNumber ts n i limit (pages_at tables n).number (slice_index below) damage

-- a numbered entry of level n + 1 has no point
abbrev pub SomeHasNoPoint : TableLists → ℕ → (ℕ → Bool) → ℕ → List ℕ → TablesState → ScratchDamage → Type 0
SomeHasNoPoint ts n p limit below tables damage =
    (i : ℕ) × (i < entries ts (suc n)) × (p i ≡ true) × HasNoPoint ts n i limit below tables damage

-- the y of place i of level 6 has more than k + 6 bits among its low 64: the damage names it in its file
pub record IsLastAbove (ts : TableLists) (k i file : ℕ) (damage : ScratchDamage) : Type 0 where
  pub file_is : damage.file ≡ file
  pub place : damage.at ≡ i
  pub found : damage.found ≡ slice_index ts.last i % 2 ^ 64
  pub least : damage.least ≡ 0
  pub limit : damage.limit ≡ 2 ^ (k + 6)
  pub above : damage.limit ≤ damage.found

-- Entries of table 7 can get numbers below a bound: the tables stand, and there is a new place for each.
pub record CanNumber (k bound : ℕ) (places : List ℕ) (tables : TablesState) (view : View) : Type 0 where
  pub size : IsRecordSize k
  pub stands : (ts : TableLists) × TablesStand k tables ts view
  pub places_below : AreBelow (pages_at tables 7).count (2 ^ (k + 1)) places
  pub exact : 2 ^ (2 * k + 1) ≤ bound
