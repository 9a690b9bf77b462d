use Rattle.pos_laws.proofs.Relocation.{relocated_is_the_plot}
use Rattle.pos_laws.proofs.plots.relocated_is_the_plot.Goals as goal

pub returns : goal.returns
returns c = relocated_is_the_plot
