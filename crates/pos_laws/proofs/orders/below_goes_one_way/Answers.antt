use Rattle.pos_laws.proofs.TupleOrder.{below_goes_one_way}
use Rattle.pos_laws.proofs.orders.below_goes_one_way.Goals as goal

pub returns : goal.returns
returns c = below_goes_one_way
