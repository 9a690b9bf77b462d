use Rattle.pos_laws.proofs.Relocation.{relocated_is_in_range}
use Rattle.pos_laws.proofs.plots.relocated_is_in_range.Goals as goal

pub returns : goal.returns
returns c = relocated_is_in_range
