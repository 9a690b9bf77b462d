use Rattle.pos_laws.proofs.Made.{first_table_is_right}
use Rattle.pos_laws.proofs.tables.first_table_is_right.Goals as goal

pub returns : goal.returns
returns c = first_table_is_right
