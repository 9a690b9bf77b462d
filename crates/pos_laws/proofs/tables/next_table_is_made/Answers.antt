use Rattle.pos_laws.proofs.MadeLevels.{next_table_is_made}
use Rattle.pos_laws.proofs.tables.next_table_is_made.Goals as goal

pub returns : goal.returns
returns c = next_table_is_made
