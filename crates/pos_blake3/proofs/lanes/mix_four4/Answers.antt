use Rattle.std.proofs.Common.{refl}
use Rattle.pos_blake3.specs.Blake3.{mix_words}
use Rattle.pos_blake3.proofs.lanes.mix_four4.Goals as goal

pub returns : goal.returns
unfolding mix_words
returns c j h =
    rw (
      c.xor_rotate4-b2.ensures j h,
      c.add4-c2.ensures j h,
      c.xor_rotate4-d2.ensures j h,
      c.add4-a2.ensures j h,
      c.add4-ab1.ensures j h,
      c.xor_rotate4-b1.ensures j h,
      c.add4-c1.ensures j h,
      c.xor_rotate4-d1.ensures j h,
      c.add4-a1.ensures j h,
      c.add4-ab.ensures j h,
    ) refl
