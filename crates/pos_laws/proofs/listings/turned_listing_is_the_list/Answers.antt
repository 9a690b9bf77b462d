use Rattle.pos_laws.proofs.Listed.{turned_listing_is_the_list}
use Rattle.pos_laws.proofs.listings.turned_listing_is_the_list.Goals as goal

pub returns : goal.returns
returns c = turned_listing_is_the_list
