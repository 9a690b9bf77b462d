-- What a plotting run did, whatever it answered.
use Rattle.std.specs.Prelude.{ℕ, ◌<◌, ◌≤◌, ◌≡◌, ◌⊎◌, true, List, None, IsSome, Result, Err, IfErr, IfOk, OnOk}
use Rattle.pos_edge.specs.Faults.{Rose}
use Rattle.pos_edge.specs.View.{View}
use Rattle.pos_edge.specs.Frame.{ChangesOnly, SameFaultsBut, Nothing}
use Rattle.pos_edge.specs.Images.{EachImage}
use Rattle.pos_edge.specs.ScratchWork.{IsSpared}
use Rattle.pos_edge.specs.Calls.{WasThere}
use Rattle.pos_edge.specs.ScratchNames.{scratch_name, IsScratchName}
use Rattle.pos_edge.specs.declared.scratch.TheConstants.{MAX_SCRATCH_FILES}
use Rattle.pos_laws.specs.Making.{IsAbove, IsFull}
use Rattle.pos_layout.specs.declared.layout.Layout.{Layout}
use Rattle.pos_relocate.specs.Passes.{IsOutOfRange}
use Rattle.pos_plot.specs.PlotFiles.{OpensAs, IsLeftPlot}
use Rattle.pos_plot.specs.declared.fault.Name.TheVariants.{Plot, Scratch as ScratchFile}
use Rattle.pos_plot.specs.declared.fault.PlotFault.{PlotFault}
use Rattle.pos_plot.specs.declared.fault.PlotFault.TheVariants.{Exists, TableFull, DiskFailed, Scratch, Memory}
use Rattle.pos_plot.specs.declared.run.Counts.{Counts}
use Rattle.pos_plot.specs.declared.run.TheConstants.{SCRATCH_FILES}

-- a name that a run may write: that of its file, or one of its scratch names
abbrev pub IsRunName : List ℕ → List ℕ → List ℕ → Type 0
IsRunName name base n = (n ≡ name) ⊎ IsScratchName base n

-- the first scratch name that was to be made and was there
pub record IsFirstThere (base : List ℕ) (number : ℕ) (view : View) : Type 0 where
  pub few : number < MAX_SCRATCH_FILES
  pub there : WasThere (scratch_name base number) view
  pub before : (m : ℕ) → m < number → view.contents (scratch_name base m) ≡ None

-- Why a run made no plot. A name that was to be made was there; a table has too many entries and none before it; the disk
-- failed; a record was read back out of its range, which over a disk that tells never comes. Want of memory is free.
abbrev pub IsPlotCause : List ℕ → ℕ → ℕ → List ℕ → List ℕ → PlotFault → View → View → Type 0
IsPlotCause id k capacity name base (Exists Plot) old new = WasThere name old
IsPlotCause id k capacity name base (Exists (ScratchFile number)) old new = IsFirstThere base number old
IsPlotCause id k capacity name base (TableFull table) old new = old.tells ≡ true → IsFull id k capacity table
IsPlotCause id k capacity name base DiskFailed old new = Rose old.faults new.faults
IsPlotCause id k capacity name base (Scratch damage) old new = IsOutOfRange damage × (old.tells ≡ true → ⊥)
IsPlotCause id k capacity name base Memory old new = Unit {0}

-- the answers of a run that finds its file's name there
abbrev pub IsStopped : Result Counts PlotFault → Type 0
IsStopped (Err (Exists Plot)) = Unit {0}
IsStopped (Err DiskFailed) = Unit {0}
IsStopped (Err Memory) = Unit {0}
IsStopped _ = ⊥

-- A run for an id and a size in a layout, with a memo, with a capacity, a name and a base of scratch names, whatever it answered.
pub record IsPlotRun (l : Layout) (memo id : List ℕ) (k capacity : ℕ) (name base : List ℕ) (result : Result Counts PlotFault) (old new : View) : Type 0 where
  -- it wrote no other name, and no file that was open
  pub others : ChangesOnly (IsRunName name base) Nothing old new
  -- and each other name that was there is as it was, at each moment
  pub spares : (n : List ℕ) → (n ≡ name → ⊥) → IsSome (old.contents n) → IsSpared n old new
  -- where its file's name was there, it changed and made nothing, and answered so
  pub there : IsSome (old.contents name) → ChangesOnly Nothing Nothing old new
  pub stops : IsSome (old.contents name) → IsStopped result
  -- where that name was absent, at each moment what opens under it is the file of the plot
  pub images : old.contents name ≡ None → EachImage name (OpensAs l memo id k) old new
  pub cause : IfErr result (λ fault. IsPlotCause id k capacity name base fault old new)
  pub quiet : SameFaultsBut DiskFailed result old new
  -- where it went well, no table is above the capacity, each name that it made was absent, each other name holds what it
  -- held, and the plot stands
  pub within : OnOk result (old.tells ≡ true → (m : ℕ) → 0 < m → m ≤ 6 → IsAbove id k m capacity → ⊥)
  pub absent : OnOk result ((m : ℕ) → m < SCRATCH_FILES → old.contents (scratch_name base m) ≡ None)
  pub same : OnOk result ((n : List ℕ) → (n ≡ name → ⊥) → new.contents n ≡ old.contents n)
  pub plotted : IfOk result (λ counts. old.tells ≡ true → IsLeftPlot l memo id k name counts new)
