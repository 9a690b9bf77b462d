use Rattle.pos_buckets.proofs.HitLemmas.{AreHitsLeft}
use Rattle.pos_buckets.proofs.targets.Targets.list_left.Given as goal

abbrev pub invariant-loop-hits : goal.invariant-loop-hits
invariant-loop-hits l = AreHitsLeft l.left l.right l.places.marks.items l.i l.hits l.pairs.items

abbrev pub decreases-loop-hits : goal.decreases-loop-hits
decreases-loop-hits l = l.hits
