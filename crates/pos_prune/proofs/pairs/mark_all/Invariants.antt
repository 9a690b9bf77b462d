use Rattle.pos_runs.specs.Runs.{pages_at}
use Rattle.pos_prune.specs.Passes.{HasMarked, gives_below}
use Rattle.pos_prune.proofs.pairs.mark_all.Given as goal

-- the places of the pairs before this one are marked
abbrev pub invariant-loop-i : goal.invariant-loop-i
invariant-loop-i g l =
    HasMarked g.row.K 5 0 l.i (gives_below (pages_at l.initial.tables 6).count) l.initial.tables l.tables l.initial.below l.below (g.D.Disk.view l.initial.disk) (g.D.Disk.view l.disk)
