use Rattle.std.proofs.Common.{arith, refl}
use Rattle.std.proofs.lemmas.Nat.{and_mask, one_shl}
use Rattle.pos_bits.proofs.window.low_bits.Goals as goal

pub returns : goal.returns
returns c = rw (one_shl c.args.width 64 (omega arith), and_mask c.args.value c.args.width) refl
