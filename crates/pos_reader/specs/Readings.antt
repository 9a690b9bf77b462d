-- What a call on an open plot leaves, whatever it answers, and what opening one leaves.
use Rattle.std.specs.Prelude.{◌≡◌, ℕ, true, false, List, Result, Some, IsErrOf}
use Rattle.pos_edge.specs.Faults.{Rose}
use Rattle.pos_edge.specs.View.{View}
use Rattle.pos_edge.specs.Frame.{Just, KeepsIds, NameOf, SameFaultsBut}
use Rattle.pos_layout.specs.Rules.{IsLaidOut}
use Rattle.pos_reader.specs.declared.refusal.OpenRefusal.{OpenRefusal}
use Rattle.pos_reader.specs.declared.refusal.OpenRefusal.TheVariants.{DiskFailed as OpenFailed, Memory}
use Rattle.pos_reader.specs.declared.refusal.ReadRefusal.{ReadRefusal}
use Rattle.pos_reader.specs.declared.refusal.ReadRefusal.TheVariants.{DiskFailed}
use Rattle.pos_reader.specs.Plots.{PlotState, IsOpen, IsPlotFile, OnlyReads}

-- The plot is as it was, the disk was only read, at most so often, and the plot's file is there with the bytes that it had.
pub record LeavesPlot (most : ℕ) (p q : PlotState) (old new : View) : Type 0 where
  pub same : q ≡ p
  pub reads : OnlyReads most old new
  pub stays_open : IsOpen q new
  pub stays_file : (b : List ℕ) → IsPlotFile p b old → IsPlotFile q b new

-- The count of faults rose where this fault is answered, and is as it was where it is not.
pub record CountsFaults {X E : Type 0} (fault : E) (result : Result X E) (old new : View) : Type 0 where
  pub failed : IsErrOf result fault → Rose old.faults new.faults
  pub quiet : SameFaultsBut fault result old new

-- what each call on an open plot keeps, by its answer
pub record IsReading {X : Type 0} (most : ℕ) (result : Result X ReadRefusal) (p q : PlotState) (old new : View) : Type 0 where
  pub left : LeavesPlot most p q old new
  pub faults : CountsFaults DiskFailed result old new

-- The plot is that of the file of this name, by a FileId that was not live, and no other FileId has changed. Over a disk
-- that tells, the file's bytes open, and have the plot's header and memo.
pub record IsPlotOpened (name : List ℕ) (p : PlotState) (old new : View) : Type 0 where
  pub fresh : old.is_live p.file ≡ false
  pub others : KeepsIds (Just p.file) old new
  pub is_open : IsOpen p new
  pub laid_out : IsLaidOut p.header.layout p.header
  pub named : old.tells ≡ true → NameOf p.file new name
  pub holds : old.tells ≡ true → (b : List ℕ) × (old.contents name ≡ Some b) × IsPlotFile p b new

-- the refusals of a file whose header opens
abbrev pub IsOpenFault : OpenRefusal → Type 0
IsOpenFault OpenFailed = Unit {0}
IsOpenFault Memory = Unit {0}
IsOpenFault _ = ⊥
