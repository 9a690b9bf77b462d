use Rattle.pos_laws.proofs.MadeLevels.{made_tables_describe}
use Rattle.pos_laws.proofs.tables.made_tables_describe.Goals as goal

pub returns : goal.returns
returns c = made_tables_describe
