use Rattle.std.proofs.Common.{refl}
use Rattle.pos_blake3.specs.Blake3.{round}
use Rattle.pos_blake3.proofs.LaneLemmas.{lane_word}
use Rattle.pos_blake3.proofs.lanes.apply_round4.Goals as goal

pub returns : goal.returns
unfolding round
returns c j h =
    simp lane_word (rw (
      c.mix_at4-8.ensures j h,
      c.mix_at4-7.ensures j h,
      c.mix_at4-6.ensures j h,
      c.mix_at4-5.ensures j h,
      c.mix_at4-4.ensures j h,
      c.mix_at4-3.ensures j h,
      c.mix_at4-2.ensures j h,
      c.mix_at4.ensures j h,
    ) refl)
