use Rattle.std.proofs.Common.{refl}
use Rattle.pos_bits.specs.Bits.{bits, bits_of}
use Rattle.pos_bits.proofs.writer.BitWriter.with_room.Goals as goal

pub returns : goal.returns
unfolding bits bits_of
returns c = rw c.in-Ok.ensures.items refl
