use Rattle.pos_laws.proofs.Spans.{one_bound}
use Rattle.pos_laws.proofs.walks.one_bound.Goals as goal

pub returns : goal.returns
returns c = one_bound
