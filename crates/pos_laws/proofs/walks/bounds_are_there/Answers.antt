use Rattle.pos_laws.proofs.Spans.{bounds_are_there}
use Rattle.pos_laws.proofs.walks.bounds_are_there.Goals as goal

pub returns : goal.returns
returns c = bounds_are_there
