use Rattle.pos_laws.proofs.TupleOrder.{below_is_total}
use Rattle.pos_laws.proofs.orders.below_is_total.Goals as goal

pub returns : goal.returns
returns c = below_is_total
