use Rattle.pos_buckets.proofs.BuiltLemmas.{IsBuilt, high_at}
use Rattle.pos_buckets.proofs.targets.high_parts.Given as goal

abbrev pub invariant-loop-i : goal.invariant-loop-i
invariant-loop-i l = IsBuilt high_at l.i l.highs.items
