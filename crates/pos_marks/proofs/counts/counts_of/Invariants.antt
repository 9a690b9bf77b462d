use Rattle.pos_marks.proofs.BitLemmas.{CountedTo}
use Rattle.pos_marks.proofs.counts.counts_of.Given as goal

abbrev pub invariant-loop-block : goal.invariant-loop-block
invariant-loop-block l = CountedTo l.bytes l.block l.ones l.counts.items
