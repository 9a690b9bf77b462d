use Rattle.pos_buckets.specs.Hits.{AreHighHits}
use Rattle.pos_buckets.proofs.targets.Targets.marked_targets.Given as goal

abbrev pub invariant-loop-n : goal.invariant-loop-n
invariant-loop-n l = AreHighHits l.parity l.place l.places.marks.items l.n l.hits
