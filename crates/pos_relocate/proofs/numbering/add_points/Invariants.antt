use Rattle.std.proofs.Common.{map}
use Rattle.pos_relocate.proofs.AddingLemmas.{AddedSoFar}
use Rattle.pos_relocate.proofs.numbering.add_points.Given as goal

abbrev pub invariant-loop-entry : goal.invariant-loop-entry
invariant-loop-entry g l = AddedSoFar g.row.K l.entry-index l.least (map g.P.Pointed.pair l.records) l.initial.writer l.writer (g.D.Disk.view l.initial.disk) (g.D.Disk.view l.disk)
