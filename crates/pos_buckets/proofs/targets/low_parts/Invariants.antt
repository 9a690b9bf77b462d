use Rattle.pos_buckets.proofs.BuiltLemmas.{IsBuilt, low_at}
use Rattle.pos_buckets.proofs.targets.low_parts.Given as goal

abbrev pub invariant-loop-i : goal.invariant-loop-i
invariant-loop-i l = IsBuilt low_at l.i l.lows.items
