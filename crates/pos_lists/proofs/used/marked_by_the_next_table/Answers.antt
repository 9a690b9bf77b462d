use Rattle.pos_lists.proofs.UsedLemmas.{marked_by_the_next_table}
use Rattle.pos_lists.proofs.used.marked_by_the_next_table.Goals as goal

pub returns : goal.returns
returns c = marked_by_the_next_table
