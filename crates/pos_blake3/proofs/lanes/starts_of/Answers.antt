use Rattle.std.proofs.Common.{refl}
use Rattle.pos_blake3.specs.Blake3.{initial_state, initial_words}
use Rattle.pos_blake3.specs.Lanes.{lane}
use Rattle.pos_blake3.proofs.LaneLemmas.{below_four}
use Rattle.pos_blake3.proofs.lanes.starts_of.Goals as goal

pub returns : goal.returns
unfolding initial_state initial_words lane
returns c = below_four _ refl refl refl refl
