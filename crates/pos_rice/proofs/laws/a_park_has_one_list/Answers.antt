use Rattle.pos_rice.proofs.ParkLemmas.{Park-one_list_of_numbers}
use Rattle.pos_rice.proofs.laws.a_park_has_one_list.Goals as goal

pub returns : goal.returns
returns c = Park-one_list_of_numbers
