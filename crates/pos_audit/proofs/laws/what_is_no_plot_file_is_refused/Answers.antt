use Rattle.pos_audit.proofs.LawLemmas.{refuses_what_is_none}
use Rattle.pos_audit.proofs.laws.what_is_no_plot_file_is_refused.Goals as goal

pub returns : goal.returns
returns g c = refuses_what_is_none _ _
