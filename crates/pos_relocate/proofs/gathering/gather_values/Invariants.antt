use Rattle.std.proofs.Common.{◌^◌, ◌≤◌}
use Rattle.pos_relocate.specs.Numbers.{bound_of, numbers_of}
use Rattle.pos_relocate.proofs.ValuesLemmas.{ValuesSoFar}
use Rattle.pos_relocate.proofs.gathering.gather_values.Given as goal

abbrev pub invariant-loop-i : goal.invariant-loop-i
invariant-loop-i g l = record {
  so_far : ValuesSoFar g.row.K l.i (numbers_of l.values) l.initial.tables l.tables (g.D.Disk.view l.initial.disk) (g.D.Disk.view l.disk);
  bound : 2 ^ g.row.K ≤ bound_of l.values;
}
