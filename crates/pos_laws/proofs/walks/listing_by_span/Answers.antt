use Rattle.pos_laws.proofs.Spans.{listing_by_span}
use Rattle.pos_laws.proofs.walks.listing_by_span.Goals as goal

pub returns : goal.returns
returns c = listing_by_span
