-- Each law is a lemma on lists of names.
use Rattle.pos_farm.proofs.NameLemmas.{list_or_bad_line, one_bad_line, one_name_list}
use Rattle.pos_farm.proofs.laws.bytes_list_names_or_have_a_bad_line.Goals as goal

pub returns-clause-names : goal.returns-clause-names
returns-clause-names c = one_name_list

pub returns-clause-line : goal.returns-clause-line
returns-clause-line c = one_bad_line

pub returns-clause-either : goal.returns-clause-either
returns-clause-either c = list_or_bad_line
