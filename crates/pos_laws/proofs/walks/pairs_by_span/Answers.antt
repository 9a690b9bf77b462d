use Rattle.pos_laws.proofs.Spans.{pairs_by_span}
use Rattle.pos_laws.proofs.walks.pairs_by_span.Goals as goal

pub returns : goal.returns
returns c = pairs_by_span
