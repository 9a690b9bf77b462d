-- Where the numbers of an open plot come from: the plot's file itself, or something above it that keeps some of them; and what
-- each call on such a source leaves.
-- Source: this project's own.
use Rattle.std.specs.Prelude.{◌≡◌, ℕ, ◌≤◌, List, Option, Some, None, Result, Ok, Err}
use Rattle.pos_edge.specs.View.{View}
use Rattle.pos_layout.specs.declared.damage.Damage.{Damage}
use Rattle.pos_reader.specs.declared.refusal.ReadRefusal.{ReadRefusal}
use Rattle.pos_reader.specs.declared.refusal.ReadRefusal.TheVariants.{DiskFailed, Damage as Found}
use Rattle.pos_reader.specs.Plots.{PlotState, IsOpen, IsPlotFile, OnlyReads}
use Rattle.pos_reader.specs.Readings.{CountsFaults}

-- What is to be said of a source S whose calls refuse by E.
pub record Source (S E : Type 0) : Type 1 where
  -- the plot
  pub plot : S → PlotState
  -- over this disk it answers by these bytes, which are those of the plot's file
  pub Serves : S → List ℕ → View → Type 0
  pub is_file : (p : S) (b : List ℕ) (view : View) → Serves p b view → IsPlotFile (plot p) b view
  -- no number costs a read
  pub IsSpared : S → Type 0
  -- the refusal where the disk failed
  pub failed : E
  -- the damage that a refusal names
  pub found : E → Option Damage

-- the damage that an open plot's refusal names
abbrev pub found_in : ReadRefusal → Option Damage
found_in DiskFailed = None
found_in (Found d) = Some d

-- an open plot, which keeps no number and reads each anew
abbrev pub opened_source : Source PlotState ReadRefusal
opened_source = record {
  plot = λ p. p;
  Serves = λ p b view. IsPlotFile p b view;
  is_file = λ p b view holds. holds;
  IsSpared = λ p. ⊥;
  failed = DiskFailed;
  found = found_in;
}

-- The plot is as it was, and the disk was only read: at most so often, and not at all for a source that is spared. The plot's
-- file is there, and what the source answered by it still answers by.
pub record LeavesSource {S E : Type 0} (s : Source S E) (most : ℕ) (p q : S) (old new : View) : Type 0 where
  pub same : s.plot q ≡ s.plot p
  pub reads : OnlyReads most old new
  pub spared : s.IsSpared p → new.reads ≤ old.reads
  pub stays_spared : s.IsSpared p → s.IsSpared q
  pub stays_open : IsOpen (s.plot q) new
  pub stays : (b : List ℕ) → s.Serves p b old → s.Serves q b new

-- what each call on a source keeps, by its answer
pub record IsSourceRead {S E X : Type 0} (s : Source S E) (most : ℕ) (result : Result X E) (p q : S) (old new : View) : Type 0 where
  pub left : LeavesSource s most p q old new
  pub faults : CountsFaults s.failed result old new

-- a value, or a damage, is the one that a definition says; of a refusal that names no damage nothing is said
abbrev pub AnswersBy : {X E : Type 0} → (E → Option Damage) → Result X E → Result X Damage → Type 0
AnswersBy found (Ok x) said = said ≡ Ok x
AnswersBy found (Err e) said = (d : Damage) → found e ≡ Some d → said ≡ Err d
