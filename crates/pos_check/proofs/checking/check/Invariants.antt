-- The challenges so far were checked, their proofs counted and their qualities hashed.
use Rattle.std.proofs.Common.{◌+◌, ◌-◌, ◌*◌, ◌^◌, ◌≤◌, List, ℕ, Ok}
use Rattle.pos_layout.specs.Fields.{count_of, layout_in}
use Rattle.pos_reader.specs.Plots.{IsPlotFile}
use Rattle.pos_reader.specs.Readings.{IsReading}
use Rattle.pos_check.specs.Steps.{HoldsSummary}
use Rattle.pos_check.proofs.checking.check.Given as goal

abbrev pub invariant-loop-i : goal.invariant-loop-i
invariant-loop-i g l = record {
  far : IsReading {X = ℕ} ((100 + 128 * count_of l.initial.plot.header 7) * (l.i - 0)) (Ok 0) l.initial.plot l.plot (g.D.Disk.view l.initial.disk) (g.D.Disk.view l.disk);
  reads : (g.D.Disk.view l.disk).reads ≤ (g.D.Disk.view l.initial.disk).reads + (100 * l.i + 128 * l.proofs);
  few : l.proofs ≤ l.i * 2 ^ 64;
  taken : (b : List ℕ) → IsPlotFile l.initial.plot b (g.D.Disk.view l.initial.disk) → HoldsSummary (layout_in b) b l.i l.proofs l.hasher;
}
