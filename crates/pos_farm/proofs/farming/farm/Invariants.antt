-- The plots so far have answered, and the faults that were answered have been counted.
use Rattle.std.proofs.Common.{◌≡◌, ◌<◌, ℕ, [], All, length, map, slice_index_or, string_bytes}
use Rattle.pos_edge.specs.Faults.{RoseBy}
use Rattle.pos_edge.specs.Frame.{ChangesOnly, Nothing, SameFaults}
use Rattle.pos_farm.specs.declared.offer.Answer.TheVariants.{Absent}
use Rattle.pos_farm.specs.PlotAnswers.{IsPlotAnswer, OffersTruly, failures}
use Rattle.pos_farm.proofs.farming.farm.Given as goal

abbrev pub invariant-loop-i : goal.invariant-loop-i
invariant-loop-i g l = record {
  as_many : length l.answers.items ≡ l.i;
  kept : ChangesOnly Nothing Nothing (g.D.Disk.view l.initial.disk) (g.D.Disk.view l.disk);
  each : (j : ℕ) → j < length l.answers.items → IsPlotAnswer (slice_index_or (map string_bytes l.names) j []) l.challenge.0 (g.D.Disk.view l.initial.disk) (slice_index_or l.answers.items j Absent);
  truly : All (OffersTruly l.challenge.0) l.answers.items;
  failed : RoseBy (failures l.answers.items) (g.D.Disk.view l.initial.disk).faults (g.D.Disk.view l.disk).faults;
  quiet : failures l.answers.items ≡ 0 → SameFaults (g.D.Disk.view l.initial.disk) (g.D.Disk.view l.disk);
}
