use Rattle.pos_laws.proofs.MadeLevels.{first_table_is_made}
use Rattle.pos_laws.proofs.tables.first_table_is_made.Goals as goal

pub returns : goal.returns
returns c = first_table_is_made
