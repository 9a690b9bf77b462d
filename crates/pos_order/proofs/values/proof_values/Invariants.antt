use Rattle.pos_order.proofs.ValuesLemmas.{ReadSoFar}
use Rattle.pos_order.proofs.values.proof_values.Given as goal

abbrev pub invariant-loop-i : goal.invariant-loop-i
invariant-loop-i l = ReadSoFar l.size l.bytes l.values l.i l.reader
