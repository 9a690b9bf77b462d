use Rattle.std.proofs.Common.{[], refl, arith}
use Rattle.pos_bits.specs.Bits.{number}
use Rattle.pos_bits.specs.Blocks.{blocks}
use Rattle.pos_bits.proofs.HeldLemmas.{HoldsBits-of_blocks}
use Rattle.pos_bits.proofs.string.BitString.empty.Goals as goal

pub invariant_of-result : goal.invariant_of-result
unfolding blocks number
invariant_of-result c = HoldsBits-of_blocks _ 0 [] refl refl (omega arith)
