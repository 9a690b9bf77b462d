use Rattle.pos_layout.proofs.FileCauses.{cause_found, found_cause}
use Rattle.pos_layout.proofs.laws.opening_finds_each_damage_by_its_cause.Goals as goal

pub returns : goal.returns
returns c = λ l b d. (cause_found l b d, found_cause l b d)
