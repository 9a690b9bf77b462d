use Rattle.std.proofs.Common.{sym, arith}
use Rattle.pos_blake3.proofs.LaneLemmas.{eight_words}
use Rattle.pos_blake3.proofs.lanes.words_in_lane.Goals as goal

pub returns : goal.returns
returns c = sym (eight_words c.args.h.now c.args.j (omega arith))
