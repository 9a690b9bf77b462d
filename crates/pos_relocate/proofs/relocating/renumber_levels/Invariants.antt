use Rattle.std.proofs.Common.{◌≡◌, ◌+◌, ◌++◌, length}
use Rattle.std.specs.Array.Iter.{array_into_iter_items}
use Rattle.pos_relocate.specs.Numbers.{numbers_of}
use Rattle.pos_relocate.proofs.LevelsLemmas.{LevelsSoFar, chosen_levels}
use Rattle.pos_relocate.proofs.relocating.renumber_levels.Given as goal

abbrev pub invariant-loop-chosen : goal.invariant-loop-chosen
invariant-loop-chosen g l = record {
  left : l.yielded ++ array_into_iter_items l.chosen-iterator ≡ chosen_levels l.fn.m2 l.fn.m3 l.fn.m4 l.fn.m5 l.fn.m6;
  turn : l.t ≡ length l.yielded + 2;
  so_far : LevelsSoFar g.row.K (length l.yielded) l.limit l.fn.m2 l.fn.m3 l.fn.m4 l.fn.m5 l.fn.m6 (numbers_of l.places) l.fn.tables l.tables l.fn.writer l.writer
      (g.D.Disk.view l.fn.disk) (g.D.Disk.view l.disk);
}
