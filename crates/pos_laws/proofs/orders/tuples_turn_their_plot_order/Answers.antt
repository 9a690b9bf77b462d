use Rattle.pos_laws.proofs.Turnings.{tuples_turn_their_plot_order}
use Rattle.pos_laws.proofs.orders.tuples_turn_their_plot_order.Goals as goal

pub returns : goal.returns
returns c = tuples_turn_their_plot_order
