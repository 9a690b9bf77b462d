use Rattle.pos_harvest.proofs.CauseLemmas.{number_damage_has_its_cause, head_damage_has_its_cause, count_damage_has_its_cause}
use Rattle.pos_harvest.proofs.laws.damages_have_their_causes.Goals as goal

pub returns : goal.returns
returns c = record { number = number_damage_has_its_cause; head = head_damage_has_its_cause; count = count_damage_has_its_cause }
