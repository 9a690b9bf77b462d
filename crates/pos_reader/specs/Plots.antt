-- An open plot file, as its reader keeps it and as the disk has it.
-- Source: this project's plot file format. Lengths are in bytes.
use Rattle.std.specs.Prelude.{◌≡◌, ℕ, ◌+◌, ◌≤◌, true, List, Some}
use Rattle.pos_edge.specs.View.{View}
use Rattle.pos_edge.specs.Frame.{ChangesOnly, KeepsIds, Nothing, NameOf}
use Rattle.pos_edge.specs.Calls.{IsThere}
use Rattle.pos_layout.specs.declared.header.Header.{Header}
use Rattle.pos_layout.specs.Fields.{header_in, memo_in}
use Rattle.pos_layout.specs.Rules.{Opens}

-- what a reader keeps of a plot file: its FileId, what the header says, and the memo
pub record PlotState : Type 0 where
  pub file : ℕ
  pub header : Header
  pub memo : List ℕ

abbrev pub opened_plot : ℕ → Header → List ℕ → PlotState
opened_plot file header memo = record { file = file; header = header; memo = memo }

-- The plot's file is live on this disk, was not removed through another FileId, and has at least the bytes that the plot has.
pub record IsOpen (p : PlotState) (view : View) : Type 0 where
  pub live : view.is_live p.file ≡ true
  pub there : IsThere p.file view
  pub whole : p.header.file_length ≤ view.size_of p.file

-- The disk tells that a file holds these bytes. They open in the layout of this header, which is theirs, and so is the memo.
pub record HoldsPlot (file : ℕ) (h : Header) (memo b : List ℕ) (view : View) : Type 0 where
  pub name : List ℕ
  pub named : NameOf file view name
  pub contents : view.contents name ≡ Some b
  pub opens : Opens h.layout b
  pub header : h ≡ header_in b
  pub memo_is : memo ≡ memo_in b

-- The disk tells that the plot's file holds these bytes. They open, and their header and memo are those that the plot keeps.
abbrev pub IsPlotFile : PlotState → List ℕ → View → Type 0
IsPlotFile p b view = HoldsPlot p.file p.header p.memo b view

-- A call that only reads, at most so often: no file, image or FileId has changed.
pub record OnlyReads (most : ℕ) (old new : View) : Type 0 where
  pub kept : ChangesOnly Nothing Nothing old new
  pub ids : KeepsIds Nothing old new
  pub reads : new.reads ≤ old.reads + most
