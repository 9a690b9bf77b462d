use Rattle.pos_laws.proofs.Counting.{pairs_are_above}
use Rattle.pos_laws.proofs.tables.pairs_are_above.Goals as goal

pub returns : goal.returns
returns c = pairs_are_above
