use Rattle.pos_laws.proofs.Trees.{points_are_plot_ordered}
use Rattle.pos_laws.proofs.orders.points_are_plot_ordered.Goals as goal

pub returns : goal.returns
returns c = points_are_plot_ordered
