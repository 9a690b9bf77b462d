use Rattle.pos_buckets.specs.PairsBelow.{point, ArePairsBelow}
use Rattle.pos_buckets.proofs.targets.Targets.list_marked.Given as goal

abbrev pub invariant-loop-i : goal.invariant-loop-i
invariant-loop-i l = ArePairsBelow l.left l.right (point l.i 0 0) l.pairs.items
