use Rattle.pos_order.proofs.Turnings.{plot_order_is_exact}
use Rattle.pos_order.proofs.laws.plot_order_is_exact.Goals as goal

pub returns : goal.returns
returns c = plot_order_is_exact
