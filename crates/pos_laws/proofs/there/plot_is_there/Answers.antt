use Rattle.pos_laws.proofs.PlotThere.{plot_is_there}
use Rattle.pos_laws.proofs.there.plot_is_there.Goals as goal

pub returns : goal.returns
returns c = plot_is_there
