use Rattle.pos_buckets.specs.Places.{AreMarked}
use Rattle.pos_buckets.proofs.places.mark.Given as goal

abbrev pub invariant-loop-i : goal.invariant-loop-i
invariant-loop-i l = AreMarked l.base l.values l.i l.places.marks.items l.places.firsts.items
