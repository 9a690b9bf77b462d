use Rattle.pos_laws.proofs.Full.{more_pairs_are_full}
use Rattle.pos_laws.proofs.tables.more_pairs_are_full.Goals as goal

pub returns : goal.returns
returns c = more_pairs_are_full
