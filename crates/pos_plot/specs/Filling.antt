-- The filling of a plot file from tables that stand: what it needs and does.
-- Source: the order of the work is this project's own. Sizes are k, levels count from 0 to 6, tables of the file from 1 to 7.
use Rattle.std.specs.Prelude.{ℕ, ◌+◌, ◌^◌, ◌≤◌, ◌≡◌, ◌⊎◌, true, List, length, Result, IsErrOf}
use Rattle.pos_edge.specs.Faults.{Rose}
use Rattle.pos_edge.specs.View.{View}
use Rattle.pos_edge.specs.Frame.{SameFaultsBut, Just, NameOf}
use Rattle.pos_edge.specs.Calls.{WasThere}
use Rattle.pos_edge.specs.ScratchNames.{ScratchState, scratch_name, IsScratchName, IsLeft, StandsOn}
use Rattle.pos_edge.specs.ScratchWork.{IsNameBetween, IsScratchWork, IsScratchDone}
use Rattle.pos_edge.specs.declared.scratch.ScratchDamage.{ScratchDamage}
use Rattle.pos_edge.specs.declared.scratch.WorkFault.{WorkFault}
use Rattle.pos_edge.specs.declared.scratch.WorkFault.TheVariants.{DiskFailed, Exists, Scratch}
use Rattle.pos_lists.specs.PlotLists.{count}
use Rattle.pos_lists.specs.Sound.{IsSound}
use Rattle.pos_lists.specs.TableLists.{TableLists, entries, PairsInside}
use Rattle.pos_lists.specs.Trees.{IsInRange}
use Rattle.pos_laws.specs.PlotOf.{PlotOf}
use Rattle.pos_laws.specs.Tables.{Describes}
use Rattle.pos_layout.specs.Drafts.{Draft, WriterState, Stands, begun, plot_of}
use Rattle.pos_layout.specs.Images.{EachImageOf, IsShut}
use Rattle.pos_layout.specs.declared.layout.Layout.{Layout}
use Rattle.pos_layout.specs.Writing.{IsBegun, IsStanding}
use Rattle.pos_record.specs.Fields.{IsRecordSize}
use Rattle.pos_relocate.specs.Passes.{IsOutOfRange}
use Rattle.pos_runs.specs.Runs.{TablesState, TablesStand, IsTablesFile, pages_at}

-- The tables stand on scratch files that are left, their pairs point inside over a disk that tells, no table from 2 on is too
-- long, and a writer of this size has nothing yet, in a file that is none of the scratch files.
pub record CanFill (k : ℕ) (tables : TablesState) (s : ScratchState) (w : WriterState) (view : View) : Type 0 where
  pub size : IsRecordSize k
  pub few : (n : ℕ) → 1 ≤ n → n ≤ 6 → (pages_at tables n).count ≤ 2 ^ (k + 1)
  pub room : s.made ≤ 9960
  pub stand : StandsOn s view
  pub left : (file : ℕ) → IsTablesFile tables file → IsLeft s file
  pub tables_stand : (ts : TableLists) × TablesStand k tables ts view × (view.tells ≡ true → PairsInside ts 6)
  pub begins : IsBegun w.file w.layout k w
  pub standing : IsStanding w view
  pub apart : IsLeft s w.file → ⊥
  pub other : (n : List ℕ) → NameOf w.file view n → IsScratchName s.base n → ⊥

-- the name of the plot file, or that of a scratch file with a number from `low` to below `high`
abbrev pub IsFillName : List ℕ → ℕ → ℕ → ℕ → View → List ℕ → Type 0
IsFillName base low high file view n = NameOf file view n ⊎ IsNameBetween base low high n

-- The lists were made and written, or were not. Whatever was answered, each image of the plot file has a closed gate. Damage is
-- of a number out of its range, and over a disk that tells never of the tables of an id.
pub record IsFilling {X : Type 0} (k : ℕ) (tables : TablesState) (s t : ScratchState) (file : ℕ) (result : Result X WorkFault) (old new : View) : Type 0 where
  pub work : IsScratchWork (IsFillName s.base s.made (t.made + 1) file old) (Just file) s t old new
  pub images : EachImageOf IsShut file old new
  pub exists : (number : ℕ) → IsErrOf result (Exists number) → (number ≡ t.made) × WasThere (scratch_name s.base number) old
  pub failed : IsErrOf result DiskFailed → Rose old.faults new.faults
  pub quiet : SameFaultsBut DiskFailed result old new
  pub range : (damage : ScratchDamage) → IsErrOf result (Scratch damage) → IsOutOfRange damage
  pub never : (damage : ScratchDamage) → IsErrOf result (Scratch damage) → (ts : TableLists) (id : List ℕ) → TablesStand k tables ts old → old.tells ≡ true → Describes ts id k → ⊥

-- A draft that was made of these tables: over a disk that tells and sound tables its last two lists have a number for each pair
-- of table 7, and over the tables of an id it is the plot of the id, and each number points inside.
pub record IsPlotFrom (l : Layout) (memo id : List ℕ) (k : ℕ) (tables : TablesState) (p : Draft) (old : View) : Type 0 where
  pub layout : p.layout ≡ l
  pub memo_is : p.memo ≡ memo
  pub id_is : p.id ≡ id
  pub size : p.k ≡ k
  pub counted : (ts : TableLists) → TablesStand k tables ts old → old.tells ≡ true → IsSound ts k → (count (plot_of p) 6 ≡ entries ts 6) × (count (plot_of p) 7 ≡ entries ts 6)
  pub plot : (ts : TableLists) → TablesStand k tables ts old → old.tells ≡ true → Describes ts id k → PlotOf (plot_of p) id k × IsInRange (plot_of p)

-- All seven tables are ended, and the writer stands for a draft that was made of the tables. The five scratch files that were
-- made had absent names.
pub record HasLists (k : ℕ) (tables : TablesState) (s t : ScratchState) (w filled : WriterState) (old new : View) : Type 0 where
  pub done : IsScratchDone (IsFillName s.base s.made t.made w.file old) (Just w.file) s t old new
  pub made : t.made ≡ s.made + 5
  pub file : filled.file ≡ w.file
  pub name : new.name_of w.file ≡ old.name_of w.file
  pub ended : length filled.columns ≡ 7
  pub lists : (l : Layout) (memo id : List ℕ) → Stands w (begun l memo id k) old → (p : Draft) × Stands filled p new × IsPlotFrom l memo id k tables p old
