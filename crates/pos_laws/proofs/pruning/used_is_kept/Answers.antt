use Rattle.pos_laws.proofs.KeptParts.{used_is_kept}
use Rattle.pos_laws.proofs.pruning.used_is_kept.Goals as goal

pub returns : goal.returns
returns c = used_is_kept
