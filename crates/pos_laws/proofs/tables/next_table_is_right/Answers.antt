use Rattle.pos_laws.proofs.Made.{next_table_is_right}
use Rattle.pos_laws.proofs.tables.next_table_is_right.Goals as goal

pub returns : goal.returns
returns c = next_table_is_right
