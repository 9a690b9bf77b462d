-- The pair stands at two places of the values.
use Rattle.pos_laws.specs.Listing.{pair_in}
use Rattle.pos_check.proofs.place.branch_quality.Goals as goal

pub returns : goal.returns
unfolding pair_in
returns c = c.pair_quality.ensures.value
