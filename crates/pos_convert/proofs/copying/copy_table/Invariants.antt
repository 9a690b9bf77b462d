-- The first parks were copied.
use Rattle.std.proofs.Common.{◌≡◌, length}
use Rattle.pos_convert.proofs.TableLemmas.{CopiedSoFar}
use Rattle.pos_convert.proofs.copying.copy_table.Given as goal

abbrev pub invariant-loop-park : goal.invariant-loop-park
invariant-loop-park g l = record {
  far : CopiedSoFar l.initial.plot l.plot l.t l.park l.next l.initial.writer l.writer (g.D.Disk.view l.initial.disk) (g.D.Disk.view l.disk);
  room : length l.numbers ≡ length l.initial.numbers;
}
