use Rattle.pos_convert.proofs.LawLemmas.{none_where_damaged, one_stop}
use Rattle.pos_convert.proofs.laws.a_first_damage_is_one.Goals as goal

pub returns-clause-one : goal.returns-clause-one
returns-clause-one c = one_stop

pub returns-clause-none : goal.returns-clause-none
returns-clause-none c = none_where_damaged
