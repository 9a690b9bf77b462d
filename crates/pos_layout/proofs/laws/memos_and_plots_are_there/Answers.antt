use Rattle.pos_layout.proofs.LayoutLemmas.{no_memo}
use Rattle.pos_layout.proofs.LawsThere.{bare_is_a_plot}
use Rattle.pos_layout.proofs.laws.memos_and_plots_are_there.Goals as goal

pub returns-clause-memo : goal.returns-clause-memo
returns-clause-memo c = no_memo

pub returns-clause-plot : goal.returns-clause-plot
returns-clause-plot c = bare_is_a_plot
