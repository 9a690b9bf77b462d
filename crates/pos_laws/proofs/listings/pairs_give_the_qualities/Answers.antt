use Rattle.pos_laws.proofs.Qualities.{pairs_give_the_qualities}
use Rattle.pos_laws.proofs.listings.pairs_give_the_qualities.Goals as goal

pub returns : goal.returns
returns c = pairs_give_the_qualities
