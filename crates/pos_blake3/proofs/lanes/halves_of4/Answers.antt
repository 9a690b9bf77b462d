use Rattle.std.proofs.Common.{refl}
use Rattle.pos_blake3.specs.Blake3.{halves_joined}
use Rattle.pos_blake3.proofs.LaneLemmas.{lane_cons, lane_nil, lane_word}
use Rattle.pos_blake3.proofs.lanes.halves_of4.Goals as goal

pub returns : goal.returns
unfolding halves_joined
returns c j h =
    simp (lane_cons, lane_nil, lane_word) (rw (
      c.xor4.ensures j h,
      c.xor4-2.ensures j h,
      c.xor4-3.ensures j h,
      c.xor4-4.ensures j h,
      c.xor4-5.ensures j h,
      c.xor4-6.ensures j h,
      c.xor4-7.ensures j h,
      c.xor4-8.ensures j h,
    ) refl)
