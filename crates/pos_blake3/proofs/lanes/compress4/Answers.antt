use Rattle.std.proofs.Common.{refl}
use Rattle.pos_blake3.specs.Blake3.{rounds}
use Rattle.pos_blake3.proofs.lanes.compress4.Goals as goal

pub returns : goal.returns
unfolding rounds
returns c j h =
    rw (
      c.apply_round4-7.ensures j h,
      c.permute4-m6.ensures j h,
      c.apply_round4-6.ensures j h,
      c.permute4-m5.ensures j h,
      c.apply_round4-5.ensures j h,
      c.permute4-m4.ensures j h,
      c.apply_round4-4.ensures j h,
      c.permute4-m3.ensures j h,
      c.apply_round4-3.ensures j h,
      c.permute4-m2.ensures j h,
      c.apply_round4-2.ensures j h,
      c.permute4-m1.ensures j h,
      c.apply_round4.ensures j h,
    ) refl
