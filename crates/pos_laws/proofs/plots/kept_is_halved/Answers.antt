use Rattle.pos_laws.proofs.KeptParts.{kept_is_halved}
use Rattle.pos_laws.proofs.plots.kept_is_halved.Goals as goal

pub returns : goal.returns
returns c = kept_is_halved
