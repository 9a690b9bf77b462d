use Rattle.pos_blake3.proofs.LaneLemmas.{xor_lanes}
use Rattle.pos_blake3.proofs.lanes.xor4.Goals as goal

pub returns : goal.returns
returns c = xor_lanes c.args.a c.fits-a.0 c.args.b c.fits-b.0
