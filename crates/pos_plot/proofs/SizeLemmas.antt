-- The choice of a size.
use Rattle.std.proofs.Common.{ℕ, ◌+◌, ◌^◌, ◌≤◌, ◌≡◌, List, Result, sym, ◌∙◌, subst}
use Rattle.pos_edge.specs.View.{View}
use Rattle.pos_layout.specs.declared.layout.Layout.{Layout}
use Rattle.pos_plot.specs.declared.fault.PlotFault.{PlotFault}
use Rattle.pos_plot.specs.declared.run.Counts.{Counts}
use Rattle.pos_plot.specs.PlotRuns.{IsPlotRun}

-- the size is this one
pub size_is : (size k n : ℕ) → k ≡ size → k ≡ n → size ≡ n
size_is size k n value is = sym value ∙ is

-- so a plan for the one is a plan for the other,
pub plan_at : (size k n capacity : ℕ) → k ≡ size → k ≡ n → capacity ≤ 2 ^ (size + 1) → capacity ≤ 2 ^ (n + 1)
plan_at size k n capacity value is few = subst (λ m. capacity ≤ 2 ^ (m + 1)) (size_is size k n value is) few

-- and a run for the one is a run for the other
pub run_at : (l : Layout) (memo : List ℕ) (size k n : ℕ) (id : List ℕ) (capacity : ℕ) (name base : List ℕ) (result : Result Counts PlotFault) (old new : View) → k ≡ size → k ≡ n
    → IsPlotRun l memo id n capacity name base result old new → IsPlotRun l memo id size capacity name base result old new
run_at l memo size k n id capacity name base result old new value is run =
    subst (λ m. IsPlotRun l memo id m capacity name base result old new) (sym (size_is size k n value is)) run
