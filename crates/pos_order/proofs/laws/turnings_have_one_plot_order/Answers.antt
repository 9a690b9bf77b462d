use Rattle.pos_order.proofs.PlotOrderLemmas.{plot_order-turning}
use Rattle.pos_order.proofs.laws.turnings_have_one_plot_order.Goals as goal

pub returns : goal.returns
returns c = plot_order-turning
