use Rattle.pos_laws.proofs.Full.{one_is_full}
use Rattle.pos_laws.proofs.tables.one_is_full.Goals as goal

pub returns : goal.returns
returns c = one_is_full
