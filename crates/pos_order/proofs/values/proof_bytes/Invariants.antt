use Rattle.pos_order.proofs.ValuesLemmas.{WrittenSoFar}
use Rattle.pos_order.proofs.values.proof_bytes.Given as goal

abbrev pub invariant-loop-group : goal.invariant-loop-group
invariant-loop-group l = WrittenSoFar l.size l.values l.initial.out l.out l.group
