use Rattle.pos_lists.proofs.NamedLemmas.{nothing_is_named}
use Rattle.pos_lists.proofs.used.nothing_is_named.Goals as goal

pub returns : goal.returns
returns c = nothing_is_named
