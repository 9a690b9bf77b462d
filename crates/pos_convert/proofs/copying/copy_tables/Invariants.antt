-- The first tables were copied.
use Rattle.std.proofs.Common.{◌≡◌, length}
use Rattle.pos_convert.proofs.TableLemmas.{TablesSoFar}
use Rattle.pos_convert.proofs.copying.copy_tables.Given as goal

abbrev pub invariant-loop-table : goal.invariant-loop-table
invariant-loop-table g l = record {
  far : TablesSoFar l.initial.plot l.plot l.table l.initial.writer l.writer (g.D.Disk.view l.initial.disk) (g.D.Disk.view l.disk);
  room : length l.numbers ≡ length l.initial.numbers;
}
