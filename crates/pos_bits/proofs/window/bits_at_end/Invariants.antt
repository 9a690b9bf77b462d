use Rattle.pos_bits.proofs.WindowLemmas.{ReadBytes}
use Rattle.pos_bits.proofs.window.bits_at_end.Given as goal

abbrev pub invariant-loop-i : goal.invariant-loop-i
invariant-loop-i l = ReadBytes l.bytes l.at l.i l.window
