use Rattle.std.proofs.Common.{refl}
use Rattle.pos_blake3.specs.Blake3.{mix}
use Rattle.pos_blake3.proofs.LaneLemmas.{lane_set, lane_word}
use Rattle.pos_blake3.proofs.lanes.mix_at4.Goals as goal

pub returns : goal.returns
unfolding mix
returns c j h =
    rw (
      lane_set,
      lane_set,
      lane_set,
      lane_set,
      lane_word c.args.v.now j c.args.a,
      lane_word c.args.v.now j c.args.b,
      lane_word c.args.v.now j c.args.c,
      lane_word c.args.v.now j c.args.d,
      ← c.mix_four4-mixed.ensures j h,
    ) refl
