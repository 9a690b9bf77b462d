use Rattle.pos_laws.proofs.ListThere.{list_is_there}
use Rattle.pos_laws.proofs.there.list_is_there.Goals as goal

pub returns : goal.returns
returns c = list_is_there
