use Rattle.pos_laws.proofs.Listed.{listing_turns}
use Rattle.pos_laws.proofs.listings.listing_turns.Goals as goal

pub returns : goal.returns
returns c = listing_turns
