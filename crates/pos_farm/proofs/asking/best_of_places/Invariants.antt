-- The places that were read show proofs, and the first of their offers is kept.
use Rattle.std.proofs.Common.{◌-◌, ◌*◌, List, ℕ, Ok}
use Rattle.pos_layout.specs.Fields.{layout_in}
use Rattle.pos_reader.specs.Plots.{IsPlotFile}
use Rattle.pos_reader.specs.Readings.{IsReading}
use Rattle.pos_farm.specs.Offers.{AreOffered}
use Rattle.pos_farm.specs.Steps.{OffersTrulyAt}
use Rattle.pos_farm.proofs.asking.best_of_places.Given as goal

abbrev pub invariant-loop-place : goal.invariant-loop-place
invariant-loop-place g l = record {
  far : IsReading {X = ℕ} (128 * (l.place - l.first)) (Ok 0) l.initial.plot l.plot (g.D.Disk.view l.initial.disk) (g.D.Disk.view l.disk);
  offered : (b : List ℕ) → IsPlotFile l.initial.plot b (g.D.Disk.view l.initial.disk) → AreOffered (layout_in b) b l.challenge.0 l.first l.place (l.place - l.first) l.best;
  truly : OffersTrulyAt l.challenge.0 l.best;
}
