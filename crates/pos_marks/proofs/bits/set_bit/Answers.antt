use Rattle.pos_marks.proofs.BitLemmas.{has_bit-set}
use Rattle.pos_marks.proofs.bits.set_bit.Goals as goal

pub returns : goal.returns
returns c = λ j. has_bit-set c.args.bytes.now c.args.i j c.requires
