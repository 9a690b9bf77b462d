use Rattle.pos_laws.proofs.Gathered.{sorted_is_last_table}
use Rattle.pos_laws.proofs.renumbering.sorted_is_last_table.Goals as goal

pub returns : goal.returns
returns c = sorted_is_last_table
