-- What the renumbering of one table needs and does.
-- Source: the Construction document, "compression" and "sort on line points".
-- Levels count from 0 to 6, a run's tables from 1 to 7: table t has level t - 1, over the numbers of level t - 2.
use Rattle.std.specs.Prelude.{◌≡◌, ◌≢◌, ℕ, suc, ◌+◌, ◌-◌, ◌*◌, ◌/◌, ◌^◌, ◌<◌, ◌≤◌, Bool, true, List, slice_index}
use Rattle.pos_edge.specs.View.{View}
use Rattle.pos_edge.specs.Frame.{Just, NameOf}
use Rattle.pos_edge.specs.FileSets.{IsOutside}
use Rattle.pos_edge.specs.declared.scratch.ScratchDamage.{ScratchDamage}
use Rattle.pos_lists.specs.TableLists.{TableLists, entries, PairsInside}
use Rattle.pos_lists.specs.Used.{MarksUsed}
use Rattle.pos_laws.specs.Renumbering.{point_at, IsRenumbered, IsOneToOne}
use Rattle.pos_layout.specs.Drafts.{WriterState}
use Rattle.pos_layout.specs.Writing.{Goes, IsStanding, with_table}
use Rattle.pos_runs.specs.Runs.{TablesState, TablesStand, IsTablesFile, pages_at}
use Rattle.pos_relocate.specs.declared.chosen.Chosen.{Chosen}
use Rattle.pos_relocate.specs.Passes.{HasEmptyTable}
use Rattle.pos_relocate.specs.Choosing.{Chooses}
use Rattle.pos_relocate.specs.Gathering.{CanPoint, HavePoints}

-- The numbered entries of table t can be renumbered over these numbers below a limit: they can get points, the marks stand,
-- and a writer of this size has an empty table open, in a file that is none of the tables'.
pub record CanRenumber (k t limit : ℕ) (chosen : Chosen) (below : List ℕ) (tables : TablesState) (w : WriterState) (view : View) : Type 0 where
  pub can : CanPoint k t limit (limit * (limit - 1) / 2) below tables view
  pub chooses : (p : ℕ → Bool) × Chooses chosen (pages_at tables (t - 1)).count p view
  pub few : (pages_at tables (t - 1)).count ≤ 2 ^ (k + 1)
  pub standing : IsStanding w view
  pub empty : HasEmptyTable k w
  pub outside : IsOutside (IsTablesFile tables) (NameOf w.file view) (Just w.file) view

-- A table was added whose numbers are the points of table t, and each numbered entry has its new place: over a disk that
-- tells and marks of the used places, the level is renumbered, and different used places have different new ones; the two numbers
-- of each numbered entry differ.
pub record IsLevelAdded (k t : ℕ) (chosen : Chosen) (below places : List ℕ) (tables : TablesState) (before after : WriterState) (old new : View) : Type 0 where
  pub points : List ℕ
  pub added : Goes (with_table points) before after old new
  pub renumbered : (ts : TableLists) (p : ℕ → Bool) → TablesStand k tables ts old → Chooses chosen (pages_at tables (t - 1)).count p old → old.tells ≡ true
      → PairsInside ts 6 → MarksUsed ts (t - 1) p
      → IsRenumbered ts (t - 2) (slice_index below) (slice_index places) points × IsOneToOne ts (t - 1) (slice_index places)
  pub have_points : (ts : TableLists) (p : ℕ → Bool) → TablesStand k tables ts old → Chooses chosen (pages_at tables (t - 1)).count p old → old.tells ≡ true
      → HavePoints ts (t - 2) p below (pages_at tables (t - 1)).count

-- Two different entries of level n + 1 with a property have one point over these numbers of level n: the damage names one of
-- them in its file, with that point.
pub record IsPointTwice (ts : TableLists) (k n : ℕ) (Has : ℕ → Type 0) (old : ℕ → ℕ) (file : ℕ) (damage : ScratchDamage) : Type 0 where
  pub other : ℕ
  pub differ : other ≢ damage.at
  pub other_has : Has other
  pub place_has : Has damage.at
  pub inside : damage.at < entries ts (suc n)
  pub found : damage.found ≡ point_at ts n old damage.at
  pub same : point_at ts n old other ≡ damage.found
  pub file_is : damage.file ≡ file
  pub least : damage.least ≡ damage.found + 1
  pub limit : damage.limit ≡ 2 ^ (2 * k + 2)
