-- The answer of `plot ID K FILE SCRATCH`. Tables count from 1 to 7.
use Rattle.std.specs.Prelude.{ℕ, ◌+◌, ◌^◌, ◌<◌, ◌≤◌, ◌≡◌, ◌≢◌, ◌⊎◌, true, List, [], ◌∷◌, Some, None, IsSome, Result, Ok, Err}
use Rattle.pos_edge.specs.Faults.{Rose}
use Rattle.pos_edge.specs.Frame.{ChangesOnly, Nothing}
use Rattle.pos_edge.specs.Images.{EachImage, IsOnlyImage}
use Rattle.pos_edge.specs.ScratchNames.{scratch_name}
use Rattle.pos_edge.specs.ScratchWork.{IsSpared}
use Rattle.pos_edge.specs.declared.scratch.TheConstants.{MAX_SCRATCH_FILES}
use Rattle.pos_edge.specs.Sinks.{Heard, followed_by}
use Rattle.pos_edge.specs.View.{View}
use Rattle.pos_lists.specs.PlotLists.{PlotLists, count}
use Rattle.pos_laws.specs.Making.{IsAbove, IsFull}
use Rattle.pos_plot.specs.declared.fault.Name.TheVariants.{Plot, Scratch as ScratchFile}
use Rattle.pos_plot.specs.declared.fault.PlotFault.{PlotFault}
use Rattle.pos_plot.specs.declared.fault.PlotFault.TheVariants.{Exists, TableFull, DiskFailed, Scratch, Memory}
use Rattle.pos_plot.specs.declared.run.Counts.{Counts}
use Rattle.pos_plot.specs.declared.run.TheConstants.{SCRATCH_FILES}
use Rattle.pos_layout.specs.declared.layout.Layout.TheVariants.{Two}
use Rattle.pos_plot.specs.PlotFiles.{IsNew, OpensAs}
use Rattle.pos_plot.specs.PlotRuns.{IsFirstThere, IsPlotRun, IsRunName}
use Rattle.pos_app.specs.Statuses.{done_status, refused_status, usage_status, disk_fault_status, damage_status, name_status, full_status, scratch_status, list_status}
use Rattle.pos_app.specs.Answers.{EndsWith, IsUnsaid, Says, Speaks}
use Rattle.pos_app.specs.FileAnswers.{SaysUnlessFault}
use Rattle.pos_app.specs.Texts.{plotted_line, exists_line, full_line, scratch_line, disk_fault_line}

-- ---- a run, and what is said of it

-- how many entries a table of a plot of size k may have
abbrev pub capacity_of : ℕ → ℕ
capacity_of k = 2 ^ (k + 1)

-- what is said of why no plot was made, and with which status
abbrev pub SaysPlotFault : List ℕ → List ℕ → PlotFault → ℕ → Heard → Heard → Type 0
SaysPlotFault file base (Exists Plot) result old new = Says name_status (exists_line file) result old new
SaysPlotFault file base (Exists (ScratchFile number)) result old new = Says name_status (exists_line (scratch_name base number)) result old new
SaysPlotFault file base (TableFull table) result old new = Says full_status (full_line table) result old new
SaysPlotFault file base DiskFailed result old new = Speaks disk_fault_status disk_fault_line result old new
SaysPlotFault file base (Scratch damage) result old new = Says scratch_status (scratch_line damage) result old new
SaysPlotFault file base Memory result old new = IsUnsaid result old new

-- and of a plot that was made
abbrev pub SaysPlotEnd : ℕ → List ℕ → List ℕ → Result Counts PlotFault → ℕ → Heard → Heard → Type 0
SaysPlotEnd k file base (Ok counts) result old new = Says done_status (plotted_line k counts.tables) result old new
SaysPlotEnd k file base (Err fault) result old new = SaysPlotFault file base fault result old new

-- the answer of `plot ID K FILE SCRATCH`: one plotting run was made, in layout 2 without a memo, and how it ended is said
pub record SaysPlotting (id : List ℕ) (k : ℕ) (file base : List ℕ) (before after : View) (result : ℕ) (old new : Heard) : Type 0 where
  pub answer : Result Counts PlotFault
  pub run : IsPlotRun Two [] id k (capacity_of k) file base answer before after
  pub said : SaysPlotEnd k file base answer result old new

-- ---- what follows, over a disk that tells

-- how many numbers each table of a plot has
abbrev pub counts_of : PlotLists → List ℕ
counts_of p = count p 1 ∷ count p 2 ∷ count p 3 ∷ count p 4 ∷ count p 5 ∷ count p 6 ∷ count p 7 ∷ []

-- The plot is made: under the name stands the new file of the plot of the id and the size, and a crash leaves just it. Each
-- other name holds what it held, none of the scratch names was there, and the counts of the file's tables are said.
pub record HasPlotted (id : List ℕ) (k : ℕ) (file base : List ℕ) (before after : View) (old new : Heard) : Type 0 where
  pub bytes : List ℕ
  pub contents : after.contents file ≡ Some bytes
  pub only : IsOnlyImage file (Some bytes) after
  pub is_plot : IsNew bytes id k
  pub others : (name : List ℕ) → (name ≡ file → ⊥) → after.contents name ≡ before.contents name
  pub scratch : (number : ℕ) → number < SCRATCH_FILES → before.contents (scratch_name base number) ≡ None
  pub text : new.text ≡ followed_by old.text (plotted_line k (counts_of is_plot.of_plot.plot))

-- Whatever ends the run: no name but the file's and those of scratch files is written, each name but the file's that was there
-- holds what it held, at each moment and after a crash, and where the file's name was there, no file is changed or made. Where
-- it was absent, at each moment what a crash leaves under it doesn't open or is the new file of the plot of the id and the size;
-- so is, over a disk that tells images, what stands there in the end.
pub record EndsSafely (id : List ℕ) (k : ℕ) (file base : List ℕ) (before after : View) : Type 0 where
  pub others : ChangesOnly (IsRunName file base) Nothing before after
  pub spares : (name : List ℕ) → (name ≡ file → ⊥) → IsSome (before.contents name) → IsSpared name before after
  pub there : IsSome (before.contents file) → ChangesOnly Nothing Nothing before after
  pub crash : before.contents file ≡ None → EachImage file (OpensAs Two [] id k) before after
  pub left : before.contents file ≡ None → after.tells_images ≡ true → OpensAs Two [] id k (after.contents file)

-- which status says that a name is there: that of the file, which has it said but for a fault of the disk or of the sink and
-- want of memory; or that of the first of the scratch files that was
pub record TellsNames (file base : List ℕ) (before after : View) (result : ℕ) (old new : Heard) : Type 0 where
  pub there : IsSome (before.contents file) → SaysUnlessFault name_status (exists_line file) before after result old new
  pub named : result ≡ name_status → (name : List ℕ) × IsSome (before.contents name) × (new.text ≡ followed_by old.text (exists_line name))
      × ((name ≡ file) ⊎ ((number : ℕ) × (name ≡ scratch_name base number) × IsFirstThere base number before))

-- The status of a full table names the first table that has more than 2^(k + 1) entries. It comes where there is one, but for
-- a fault of the disk or of the sink, want of memory and a name that is there.
pub record TellsFullTable (id : List ℕ) (k : ℕ) (result : ℕ) (old new : Heard) : Type 0 where
  pub named : result ≡ full_status → (table : ℕ) × IsFull id k (capacity_of k) table × (new.text ≡ followed_by old.text (full_line table))
  pub comes : (m : ℕ) → 0 < m → m ≤ 6 → IsAbove id k m (capacity_of k)
      → EndsWith full_status result ⊎ ((result ≡ disk_fault_status) ⊎ (result ≡ name_status))

-- the names of the file and of the scratch files that a run can make are absent, and no table has more than 2^(k + 1) entries
pub record CanPlot (id : List ℕ) (k : ℕ) (file base : List ℕ) (before : View) : Type 0 where
  pub file_absent : before.contents file ≡ None
  pub scratch_absent : (number : ℕ) → number < MAX_SCRATCH_FILES → before.contents (scratch_name base number) ≡ None
  pub few : (m : ℕ) → 0 < m → m ≤ 6 → IsAbove id k m (capacity_of k) → ⊥

-- All that the status tells over a disk that tells: a plot that is made, names, a full table; no scratch file is damaged; and
-- where the plot can be made and the disk doesn't fail it is made, but for a fault of the sink and want of memory.
pub record TellsPlotting (id : List ℕ) (k : ℕ) (file base : List ℕ) (before after : View) (result : ℕ) (old new : Heard) : Type 0 where
  pub plotted : result ≡ done_status → HasPlotted id k file base before after old new
  pub names : TellsNames file base before after result old new
  pub full : TellsFullTable id k result old new
  pub undamaged : result ≢ scratch_status
  pub complete : CanPlot id k file base before → (Rose before.faults after.faults → ⊥) → EndsWith done_status result

-- a status of this command
pub record IsPlotStatus (result : ℕ) : Type 0 where
  pub not_refused : result ≢ refused_status
  pub not_usage : result ≢ usage_status
  pub not_damage : result ≢ damage_status
  pub not_list : result ≢ list_status
