use Rattle.pos_laws.proofs.Full.{none_is_full}
use Rattle.pos_laws.proofs.tables.none_is_full.Goals as goal

pub returns : goal.returns
returns c = none_is_full
