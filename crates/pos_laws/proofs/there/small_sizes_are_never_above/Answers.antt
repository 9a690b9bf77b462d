use Rattle.pos_laws.proofs.ListThere.{small_sizes_are_never_above}
use Rattle.pos_laws.proofs.there.small_sizes_are_never_above.Goals as goal

pub returns : goal.returns
returns c = small_sizes_are_never_above
