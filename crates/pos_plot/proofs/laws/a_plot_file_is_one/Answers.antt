use Rattle.pos_plot.proofs.PlotLemmas.{one_plot_file}
use Rattle.pos_plot.proofs.laws.a_plot_file_is_one.Goals as goal

pub returns : goal.returns
returns c = λ b d id k f g layout memo. one_plot_file b d id k f g layout memo
