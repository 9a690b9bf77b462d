-- Each place that was read shows a proof, and its quality was hashed.
use Rattle.std.proofs.Common.{◌-◌, ◌*◌, List, ℕ, Ok}
use Rattle.pos_reader.specs.Plots.{IsPlotFile}
use Rattle.pos_reader.specs.Readings.{IsReading}
use Rattle.pos_check.specs.Steps.{TakesPlaces}
use Rattle.pos_check.proofs.checking.add_places.Given as goal
use Rattle.pos_layout.specs.Fields.{layout_in}

abbrev pub invariant-loop-place : goal.invariant-loop-place
invariant-loop-place g l = record {
  far : IsReading {X = ℕ} (128 * (l.place - l.first)) (Ok 0) l.initial.plot l.plot (g.D.Disk.view l.initial.disk) (g.D.Disk.view l.disk);
  taken : (b : List ℕ) → IsPlotFile l.initial.plot b (g.D.Disk.view l.initial.disk) → TakesPlaces (layout_in b) b l.challenge.0 l.first l.place l.initial.hasher l.hasher;
}
