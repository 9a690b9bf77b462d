use Rattle.pos_laws.proofs.TupleOrder.{below_is_transitive}
use Rattle.pos_laws.proofs.orders.below_is_transitive.Goals as goal

pub returns : goal.returns
returns c = below_is_transitive
