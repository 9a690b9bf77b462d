use Rattle.pos_table_uses.proofs.TakingLemmas.{HasTaken}
use Rattle.pos_table_uses.proofs.matcher_tests.matching.Given as goal

abbrev pub invariant-loop-i : goal.invariant-loop-i
invariant-loop-i l = HasTaken l.size l.i l.least l.matcher l.drafts
