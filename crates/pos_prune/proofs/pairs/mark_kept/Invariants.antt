use Rattle.pos_prune.specs.Passes.{HasAsked, HasMarked, is_marked}
use Rattle.pos_prune.proofs.pairs.mark_kept.Given as goal

-- the places of the pairs before this one are marked where they are to be, and the marks above still stand
abbrev pub invariant-loop-i : goal.invariant-loop-i
invariant-loop-i g l = record {
  pairs : HasMarked g.row.K l.level 0 l.i (is_marked l.initial.above (g.D.Disk.view l.initial.disk)) l.initial.tables l.tables l.initial.below l.below (g.D.Disk.view l.initial.disk) (g.D.Disk.view l.disk);
  asked : HasAsked l.initial.above l.above (g.D.Disk.view l.initial.disk) (g.D.Disk.view l.disk);
}
