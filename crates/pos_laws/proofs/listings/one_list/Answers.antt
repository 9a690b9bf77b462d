use Rattle.pos_laws.proofs.Listed.{one_list}
use Rattle.pos_laws.proofs.listings.one_list.Goals as goal

pub returns : goal.returns
returns c = one_list
