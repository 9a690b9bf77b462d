-- What the passes of relocation rely on, do to the disk and the writer, and find wrong.
-- Source: the Construction document, "compression" and "sort on line points"; the damages are this project's own.
-- In a list of pairs the points stand first and the old places second. Places count from 0, tables of a run from 1.
use Rattle.std.specs.Prelude.{◌≡◌, ℕ, true, ◌+◌, ◌<◌, ◌≤◌, ◌⊎◌, List, length, slice_index, AllPairs, Result, IsErrOf}
use Rattle.std.specs.List.Sorted.{IsPermutation}
use Rattle.pos_edge.specs.Faults.{Rose}
use Rattle.pos_edge.specs.View.{View}
use Rattle.pos_edge.specs.Frame.{SameFaultsBut}
use Rattle.pos_edge.specs.declared.scratch.ScratchDamage.{ScratchDamage}
use Rattle.pos_edge.specs.declared.scratch.WorkFault.{WorkFault}
use Rattle.pos_edge.specs.declared.scratch.WorkFault.TheVariants.{DiskFailed, Exists, Scratch}
use Rattle.pos_lists.specs.Numbering.{AreNumbered, IsRepeated}
use Rattle.pos_lists.specs.Rank.{first_in, second_in}
use Rattle.pos_lists.specs.TableLists.{TableLists}
use Rattle.pos_lists.specs.Sound.{IsSound}
use Rattle.pos_runs.specs.Runs.{TablesState, TablesStand}
use Rattle.pos_laws.specs.Renumbering.{firsts, IsLastTable}
use Rattle.pos_layout.specs.Drafts.{WriterState}
use Rattle.pos_layout.specs.Writing.{WritesOnly, Goes, with_table}

-- ---- entries in memory

-- by rising old place, each below a count, each point below a bound: what a pass may rely on over every disk
pub record AreListed (count bound : ℕ) (xs : List (ℕ × ℕ)) : Type 0 where
  pub rise : AllPairs (λ a b. a.1 < b.1) xs
  pub below : (s : ℕ) → s < length xs → second_in xs s < count
  pub small : (s : ℕ) → s < length xs → first_in xs s < bound

-- so many numbers, each below a limit
pub record AreBelow (count limit : ℕ) (ns : List ℕ) : Type 0 where
  pub as_long : length ns ≡ count
  pub below : (i : ℕ) → i < count → slice_index ns i < limit

-- listed entries in any order
pub record AreShuffled (count : ℕ) (xs : List (ℕ × ℕ)) : Type 0 where
  pub gathered : List (ℕ × ℕ)
  pub bound : ℕ
  pub listed : AreListed count bound gathered
  pub permuted : IsPermutation gathered xs

-- ---- the disk and the writer

-- the record that the damage names was read back as a number out of its range
abbrev pub IsOutOfRange : ScratchDamage → Type 0
IsOutOfRange damage = (damage.found < damage.least) ⊎ (damage.limit ≤ damage.found)

-- a writer of this size that has a table open, without numbers
pub record HasEmptyTable (size : ℕ) (w : WriterState) : Type 0 where
  pub size_is : w.size ≡ size
  pub tables : length w.columns < 7
  pub count : w.count ≡ 0
  pub least : w.least ≡ 0

-- A pass, whatever it answered: it changed the writer's file alone, each image of which has a closed gate, and made no
-- file. The count of faults tells whether the disk failed, and damage is of a number out of its range.
pub record IsPass {X : Type 0} (file : ℕ) (result : Result X WorkFault) (old new : View) : Type 0 where
  pub writes : WritesOnly file old new
  pub failed : IsErrOf result DiskFailed → Rose old.faults new.faults
  pub quiet : SameFaultsBut DiskFailed result old new
  pub makes_none : (number : ℕ) → IsErrOf result (Exists number) → ⊥
  pub range : (damage : ScratchDamage) → IsErrOf result (Scratch damage) → IsOutOfRange damage

-- The entries were sorted by point and their points added as a table; each has its new place by its old one.
pub record IsTableAdded (gathered : List (ℕ × ℕ)) (places : List ℕ) (before after : WriterState) (old new : View) : Type 0 where
  pub pointed : List (ℕ × ℕ)
  pub numbered : AreNumbered gathered pointed places
  pub added : Goes (with_table (firsts pointed)) before after old new

-- the same, with the sorted entries
pub record IsPointedTable (gathered pointed : List (ℕ × ℕ)) (before after : WriterState) (old new : View) : Type 0 where
  pub permuted : IsPermutation gathered pointed
  pub rise : AllPairs (λ a b. a.0 < b.0) pointed
  pub added : Goes (with_table (firsts pointed)) before after old new

-- The numbers of table 7 were added: over a disk that tells and sound tables, those of these new places.
pub record IsLastAdded (k : ℕ) (places : List ℕ) (tables : TablesState) (before after : WriterState) (old new : View) : Type 0 where
  pub lasts : List ℕ
  pub added : Goes (with_table lasts) before after old new
  pub seventh : (ts : TableLists) → TablesStand k tables ts old → old.tells ≡ true → IsSound ts k → IsLastTable ts k (slice_index places) lasts

-- ---- what is wrong

-- Sorted by point, the entries have one whose point is the one before it: the damage names it in the file of its
-- pairs, with its point.
pub record IsRepetition (file bound : ℕ) (gathered : List (ℕ × ℕ)) (damage : ScratchDamage) : Type 0 where
  pub pointed : List (ℕ × ℕ)
  pub at : ℕ
  pub permuted : IsPermutation gathered pointed
  pub repeated : IsRepeated (firsts pointed) at
  pub file_is : damage.file ≡ file
  pub place : damage.at ≡ second_in pointed at
  pub found : damage.found ≡ first_in pointed at
  pub least : damage.least ≡ damage.found + 1
  pub limit : damage.limit ≡ bound
