use Rattle.std.proofs.Common.{sym, ap, ◌∙◌}
use Rattle.pos_layout.specs.Files.{file_of}
use Rattle.pos_layout.proofs.FileOnly.{one_file}
use Rattle.pos_layout.proofs.laws.a_plot_has_one_file.Goals as goal

pub returns-clause-the_file : goal.returns-clause-the_file
returns-clause-the_file c = λ l b p bytes_ st. one_file l b p bytes_ st

pub returns-clause-one : goal.returns-clause-one
returns-clause-one c = λ l b d p bs ds sb sd same. one_file l b p bs sb ∙ (ap (λ memo. file_of l memo p) same ∙ sym (one_file l d p ds sd))
