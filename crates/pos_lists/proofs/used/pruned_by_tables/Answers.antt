use Rattle.pos_lists.proofs.UsedLemmas.{pruned_by_tables}
use Rattle.pos_lists.proofs.used.pruned_by_tables.Goals as goal

pub returns : goal.returns
returns c = pruned_by_tables
