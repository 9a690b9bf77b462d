use Rattle.pos_laws.proofs.Counting.{entries_are_above}
use Rattle.pos_laws.proofs.tables.entries_are_above.Goals as goal

pub returns : goal.returns
returns c = entries_are_above
