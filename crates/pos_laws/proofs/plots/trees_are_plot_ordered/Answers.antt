use Rattle.pos_laws.proofs.AnyFile.{trees_are_plot_ordered}
use Rattle.pos_laws.proofs.plots.trees_are_plot_ordered.Goals as goal

pub returns : goal.returns
returns c = trees_are_plot_ordered
