use Rattle.pos_order.proofs.Turnings.{one_turning}
use Rattle.pos_order.proofs.laws.one_turning.Goals as goal

pub returns : goal.returns
returns c = one_turning
