-- What the three parts of a plotting run did: the start of its file, the filling of it, and its close.
use Rattle.std.specs.Prelude.{ℕ, ◌-◌, ◌<◌, ◌≤◌, ◌≡◌, ◌⊎◌, true, false, List, length, slice_index, None, IsSome, Result, IfErr, IsErrOf}
use Rattle.pos_edge.specs.Faults.{Rose}
use Rattle.pos_edge.specs.View.{View}
use Rattle.pos_edge.specs.Frame.{ChangesOnly, SameFaultsBut, Nothing, Just, NameOf}
use Rattle.pos_edge.specs.Images.{EachImage}
use Rattle.pos_edge.specs.Calls.{WasThere}
use Rattle.pos_edge.specs.ScratchNames.{ScratchState, scratch_name, IsScratchName, IsNameIn, IsLeft, StandsOn}
use Rattle.pos_edge.specs.ScratchWork.{IsNameBetween, IsSpared, AreLeftOrGone}
use Rattle.pos_edge.specs.declared.scratch.WorkFault.{WorkFault}
use Rattle.pos_edge.specs.declared.scratch.WorkFault.TheVariants.{DiskFailed as WorkFailed}
use Rattle.pos_lists.specs.Trees.{IsInRange}
use Rattle.pos_laws.specs.Making.{IsAbove, IsFull}
use Rattle.pos_laws.specs.PlotOf.{PlotOf}
use Rattle.pos_layout.specs.declared.layout.Layout.{Layout}
use Rattle.pos_layout.specs.Files.{file_of}
use Rattle.pos_layout.specs.Drafts.{Draft, WriterState, Stands, IsFinished, IsWriteFault, begun, count_so_far, plot_of}
use Rattle.pos_layout.specs.Images.{EachImageOf, IsShut, IsShutOr, IsTinyOrShut}
use Rattle.pos_layout.specs.Writing.{IsBegun}
use Rattle.pos_relocate.specs.Passes.{IsOutOfRange}
use Rattle.pos_plot.specs.declared.fault.Name.TheVariants.{Plot, Scratch as ScratchFile}
use Rattle.pos_plot.specs.declared.fault.PlotFault.{PlotFault}
use Rattle.pos_plot.specs.declared.fault.PlotFault.TheVariants.{Exists, TableFull, DiskFailed, Scratch, Memory}
use Rattle.pos_plot.specs.declared.run.Counts.{Counts}
use Rattle.pos_plot.specs.declared.run.TheConstants.{SCRATCH_FILES}
use Rattle.pos_plot.specs.PlotRuns.{IsFirstThere}

-- ---- the start

-- why the file was not begun
abbrev pub IsStartCause : List ℕ → View → View → PlotFault → Type 0
IsStartCause name old new (Exists Plot) = WasThere name old
IsStartCause name old new DiskFailed = Rose old.faults new.faults
IsStartCause name old new Memory = Unit {0}
IsStartCause name old new _ = ⊥

-- The file of this name was made and begun, or was not. Whatever was answered, each image of it is tiny or has a closed gate.
pub record IsFileStart {X : Type 0} (name : List ℕ) (result : Result X PlotFault) (old new : View) : Type 0 where
  pub kept : ChangesOnly (Just name) Nothing old new
  pub there : IsSome (old.contents name) → ChangesOnly Nothing Nothing old new
  pub images : old.contents name ≡ None → EachImage name IsTinyOrShut old new
  pub cause : IfErr result (IsStartCause name old new)
  pub quiet : SameFaultsBut DiskFailed result old new

-- The name was absent, and a writer stands for a plot with nothing in it, in a file of this name that was not open before.
pub record HasStarted (l : Layout) (memo id : List ℕ) (k : ℕ) (name : List ℕ) (w : WriterState) (old new : View) : Type 0 where
  pub absent : old.contents name ≡ None
  pub fresh : old.is_live w.file ≡ false
  pub begins : IsBegun w.file l k w
  pub stands : Stands w (begun l memo id k) new
  pub named : (n : List ℕ) → NameOf w.file new n → n ≡ name
  pub told : new.tells ≡ true → NameOf w.file new name

-- ---- the filling

-- why the lists were not written
abbrev pub IsFillCause : List ℕ → ℕ → ℕ → List ℕ → View → View → PlotFault → Type 0
IsFillCause id k capacity base old new (Exists Plot) = ⊥
IsFillCause id k capacity base old new (Exists (ScratchFile number)) = IsFirstThere base number old
IsFillCause id k capacity base old new (TableFull table) = old.tells ≡ true → IsFull id k capacity table
IsFillCause id k capacity base old new DiskFailed = Rose old.faults new.faults
IsFillCause id k capacity base old new (Scratch damage) = IsOutOfRange damage × (old.tells ≡ true → ⊥)
IsFillCause id k capacity base old new Memory = Unit {0}

-- The lists of a plot were made on scratch files and written, or were not. Whatever was answered, each other name that was
-- there is as it was, and each image of the plot file has a closed gate.
pub record IsFill {X : Type 0} (id : List ℕ) (k capacity : ℕ) (base : List ℕ) (file : ℕ) (result : Result X PlotFault) (old new : View) : Type 0 where
  pub kept : ChangesOnly (λ n. NameOf file old n ⊎ IsScratchName base n) (Just file) old new
  pub spares : (n : List ℕ) → (NameOf file old n → ⊥) → IsSome (old.contents n) → IsSpared n old new
  pub images : EachImageOf IsShut file old new
  pub cause : IfErr result (IsFillCause id k capacity base old new)
  pub quiet : SameFaultsBut DiskFailed result old new

-- All seven tables are ended, over a disk that tells those of the plot of the id. The scratch files that were made had
-- absent names; those that are left stand, and the plot file is none of them.
pub record HasFilled (id : List ℕ) (k capacity : ℕ) (base : List ℕ) (t : ScratchState) (w filled : WriterState) (old new : View) : Type 0 where
  pub file : filled.file ≡ w.file
  pub ended : length filled.columns ≡ 7
  pub base_is : t.base ≡ base
  pub kept : ChangesOnly (λ n. NameOf w.file old n ⊎ IsNameBetween base 0 t.made n) (Just w.file) old new
  pub name : new.name_of w.file ≡ old.name_of w.file
  pub made : t.made ≡ SCRATCH_FILES
  pub absent : (m : ℕ) → m < t.made → old.contents (scratch_name base m) ≡ None
  pub gone : AreLeftOrGone t new
  pub stand : StandsOn t new
  pub left : (f : ℕ) → IsLeft t f → old.is_live f ≡ false
  pub within : old.tells ≡ true → (m : ℕ) → 0 < m → m ≤ 6 → IsAbove id k m capacity → ⊥
  pub lists : (l : Layout) (memo : List ℕ) → Stands w (begun l memo id k) old → (p : Draft) × Stands filled p new × (p.layout ≡ l) × (p.memo ≡ memo)
      × (old.tells ≡ true → PlotOf (plot_of p) id k × IsInRange (plot_of p))

-- ---- the close

-- The scratch files that were left were removed and the plot file finished, or were not. Whatever was answered, each image
-- of the plot file has a closed gate or is the finished file.
pub record IsClose {X : Type 0} (s : ScratchState) (w : WriterState) (result : Result X WorkFault) (old new : View) : Type 0 where
  pub kept : ChangesOnly (λ n. NameOf w.file old n ⊎ IsNameIn s.base s.left n) (λ f. (f ≡ w.file) ⊎ IsLeft s f) old new
  pub images : (p : Draft) → Stands w p old → EachImageOf (IsShutOr (file_of p.layout p.memo (plot_of p))) w.file old new
  pub fault : IfErr result IsWriteFault
  pub failed : IsErrOf result WorkFailed → Rose old.faults new.faults
  pub quiet : SameFaultsBut WorkFailed result old new

-- The file is the finished one of the draft, none of those scratch files is there, and each other name holds what it held.
pub record HasClosed (s : ScratchState) (w : WriterState) (counts : Counts) (old new : View) : Type 0 where
  pub name : new.name_of w.file ≡ old.name_of w.file
  pub gone : (n : List ℕ) → IsNameIn s.base s.left n → new.contents n ≡ None
  pub still : (n : List ℕ) → (NameOf w.file old n → ⊥) → old.contents n ≡ None → new.contents n ≡ None
  pub numbers : (t : ℕ) → 1 ≤ t → t ≤ 7 → slice_index counts.tables (t - 1) ≡ count_so_far w t
  pub finished : (p : Draft) → Stands w p old → IsFinished p.layout p.memo w.file (plot_of p) counts.length new
