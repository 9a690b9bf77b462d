use Rattle.pos_rice.proofs.ReadingLemmas.{found_exactly}
use Rattle.pos_rice.proofs.laws.numbers_in_a_park_are_its_list.Goals as goal

pub returns : goal.returns
returns c = found_exactly
