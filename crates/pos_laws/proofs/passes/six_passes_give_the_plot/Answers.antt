use Rattle.pos_laws.proofs.PassLemmas.{six_passes_give_the_plot}
use Rattle.pos_laws.proofs.passes.six_passes_give_the_plot.Goals as goal

pub returns : goal.returns
returns c = six_passes_give_the_plot
