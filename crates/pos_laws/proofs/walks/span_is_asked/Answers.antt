use Rattle.pos_laws.proofs.Spans.{span_is_asked}
use Rattle.pos_laws.proofs.walks.span_is_asked.Goals as goal

pub returns : goal.returns
returns c = span_is_asked
