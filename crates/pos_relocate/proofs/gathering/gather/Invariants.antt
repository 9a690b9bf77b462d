use Rattle.std.proofs.Common.{◌-◌, ◌≤◌, map}
use Rattle.pos_relocate.specs.Numbers.{numbers_of}
use Rattle.pos_relocate.proofs.GatheredLemmas.{GatheredSoFar}
use Rattle.pos_relocate.proofs.gathering.gather.Given as goal

abbrev pub invariant-loop-from : goal.invariant-loop-from
invariant-loop-from g l = record {
  at_most : l.from ≤ l.count;
  so_far : GatheredSoFar g.row.K l.fn.t l.fn.limit g.P.Pointed.bound l.from (numbers_of l.below) (map g.P.Pointed.pair l.entries.items) l.initial.chosen l.chosen l.initial.tables l.tables
      (g.D.Disk.view l.initial.disk) (g.D.Disk.view l.disk);
}

abbrev pub decreases-loop-from : goal.decreases-loop-from
decreases-loop-from g l = l.count - l.from
