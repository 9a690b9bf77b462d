use Rattle.std.proofs.Common.{map}
use Rattle.pos_relocate.specs.Numbers.{numbers_of}
use Rattle.pos_relocate.proofs.LastLemmas.{LastsSoFar}
use Rattle.pos_relocate.proofs.lasts.gather_last.Given as goal

abbrev pub invariant-loop-i : goal.invariant-loop-i
invariant-loop-i g l = LastsSoFar g.row.K g.P.Pointed.bound l.i (numbers_of l.places) (map g.P.Pointed.pair l.entries.items) l.initial.tables l.tables (g.D.Disk.view l.initial.disk) (g.D.Disk.view l.disk)
