use Rattle.pos_convert.proofs.LawLemmas.{keeps_lists, one_converted}
use Rattle.pos_convert.proofs.laws.a_converted_file_is_one.Goals as goal

pub returns-clause-one : goal.returns-clause-one
returns-clause-one c = one_converted

pub returns-clause-lists : goal.returns-clause-lists
returns-clause-lists c = keeps_lists
