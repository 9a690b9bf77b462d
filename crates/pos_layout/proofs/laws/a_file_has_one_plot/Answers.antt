use Rattle.pos_layout.proofs.FileOnly.{one_plot, stored_is_plot}
use Rattle.pos_layout.proofs.laws.a_file_has_one_plot.Goals as goal

pub returns-clause-a_plot : goal.returns-clause-a_plot
returns-clause-a_plot c = λ l b p bytes_ st. stored_is_plot l b p bytes_ st

pub returns-clause-one : goal.returns-clause-one
returns-clause-one c = one_plot
