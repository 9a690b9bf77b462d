use Rattle.pos_blake3.proofs.LaneLemmas.{shifts_rotate}
use Rattle.pos_blake3.proofs.lanes.xor_rotate4.Goals as goal

pub returns : goal.returns
returns c = shifts_rotate c.args.n c.requires.some c.requires.few c.args.a c.fits-a.0 c.args.b c.fits-b.0
