use Rattle.pos_blake3.specs.Blake3.{permuted, permutation}
use Rattle.pos_blake3.proofs.LaneLemmas.{lane_cons, lane_nil, lane_word}
use Rattle.pos_blake3.proofs.lanes.permute4.Goals as goal

pub returns : goal.returns
unfolding permuted permutation
returns c j h = simp (lane_cons, lane_nil, lane_word)
