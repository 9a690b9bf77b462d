use Rattle.pos_buckets.specs.Places.{AreLeftFrom}
use Rattle.pos_buckets.proofs.places.unmark.Given as goal

abbrev pub invariant-loop-i : goal.invariant-loop-i
invariant-loop-i l = AreLeftFrom l.base l.values l.i l.places.marks.items l.places.firsts.items
