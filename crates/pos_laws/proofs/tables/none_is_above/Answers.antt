use Rattle.pos_laws.proofs.Counting.{none_is_above}
use Rattle.pos_laws.proofs.tables.none_is_above.Goals as goal

pub returns : goal.returns
returns c = none_is_above
