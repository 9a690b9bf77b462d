use Rattle.pos_laws.proofs.LinePoints.{points_rise}
use Rattle.pos_laws.proofs.orders.points_rise.Goals as goal

pub returns : goal.returns
returns c = points_rise
