use Rattle.pos_order.proofs.ValuesLemmas.{JoinedSoFar}
use Rattle.pos_order.proofs.values.group_bytes.Given as goal

abbrev pub invariant-loop-value : goal.invariant-loop-value
invariant-loop-value l = JoinedSoFar l.size l.group l.value-index l.joined
