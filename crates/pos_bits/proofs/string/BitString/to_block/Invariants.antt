use Rattle.pos_bits.proofs.OutLemmas.{WroteWords}
use Rattle.pos_bits.proofs.string.BitString.to_block.Given as goal

abbrev pub invariant-loop-i : goal.invariant-loop-i
invariant-loop-i l = WroteWords l.self-inside.words l.out l.i
