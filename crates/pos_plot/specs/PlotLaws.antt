-- What follows from the contract of a plotting run, whatever the code.
use Rattle.std.specs.Prelude.{ℕ, ◌≡◌, true, List, Ok}
use Rattle.pos_edge.specs.View.{View}
use Rattle.pos_layout.specs.Fields.{layout_in, memo_in}
use Rattle.pos_layout.specs.declared.layout.Layout.{Layout}
use Rattle.pos_plot.specs.PlotFiles.{IsFileOfPlot}
use Rattle.pos_plot.specs.PlotRuns.{IsPlotRun}
use Rattle.pos_plot.specs.declared.run.Counts.{Counts}

-- at most one file of a layout and a memo is that of the plot of an id and a size
abbrev pub APlotFileIsOne : Type 0
APlotFileIsOne = (b c id : List ℕ) (k : ℕ) → IsFileOfPlot b id k → IsFileOfPlot c id k → layout_in b ≡ layout_in c → memo_in b ≡ memo_in c → b ≡ c

-- What two disks that tell held before and after a run each, for one id, size, layout and memo.
abbrev pub LeaveEqualBytes : View → View → View → View → Type 0
LeaveEqualBytes old new other_old other_new = (l : Layout) (memo id : List ℕ) (k capacity other_capacity : ℕ) (name other_name base other_base : List ℕ) (counts other_counts : Counts)
    → old.tells ≡ true → other_old.tells ≡ true
    → IsPlotRun l memo id k capacity name base (Ok counts) old new → IsPlotRun l memo id k other_capacity other_name other_base (Ok other_counts) other_old other_new
    → new.contents name ≡ other_new.contents other_name
