-- The first numbers were added.
use Rattle.pos_convert.proofs.AddingLemmas.{AddedSoFar}
use Rattle.pos_convert.proofs.adding.add_numbers.Given as goal

abbrev pub invariant-loop-i : goal.invariant-loop-i
invariant-loop-i g l = AddedSoFar l.plot l.t l.numbers l.i l.least l.initial.writer l.writer (g.D.Disk.view l.initial.disk) (g.D.Disk.view l.disk)
