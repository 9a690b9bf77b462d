use Rattle.pos_buckets.specs.PairsBelow.{point, ArePairsBelow}
use Rattle.pos_buckets.proofs.pairs.push_run.Given as goal

abbrev pub invariant-loop-j : goal.invariant-loop-j
invariant-loop-j l = ArePairsBelow l.left l.right (point l.i l.m l.j) l.pairs.items
