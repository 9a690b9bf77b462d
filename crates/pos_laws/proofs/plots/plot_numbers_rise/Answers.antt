use Rattle.pos_laws.proofs.OnePlotOnly.{plot_numbers_rise}
use Rattle.pos_laws.proofs.plots.plot_numbers_rise.Goals as goal

pub returns : goal.returns
returns c = plot_numbers_rise
