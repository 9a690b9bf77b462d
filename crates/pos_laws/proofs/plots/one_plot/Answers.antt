use Rattle.pos_laws.proofs.OnePlotOnly.{one_plot}
use Rattle.pos_laws.proofs.plots.one_plot.Goals as goal

pub returns : goal.returns
returns c = one_plot
