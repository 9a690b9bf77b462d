use Rattle.std.proofs.Common.{◌-◌, ◌/◌, ◌^◌, refl, arith}
use Rattle.std.proofs.lemmas.Nat.{and_mask, one_shl}
use Rattle.pos_bits.proofs.places.top_bits.Goals as goal

pub returns : goal.returns
returns c = rw (one_shl c.args.count 128 (omega arith), and_mask (c.args.value / 2 ^ (c.args.left - c.args.count)) c.args.count) refl
