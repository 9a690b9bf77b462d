use Rattle.pos_rice.proofs.ParkLemmas.{Park-one_list_of_bytes}
use Rattle.pos_rice.proofs.laws.numbers_have_one_park.Goals as goal

pub returns : goal.returns
returns c = Park-one_list_of_bytes
