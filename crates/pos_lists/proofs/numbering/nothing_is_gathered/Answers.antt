use Rattle.pos_lists.proofs.NumberingLemmas.{nothing_is_gathered}
use Rattle.pos_lists.proofs.numbering.nothing_is_gathered.Goals as goal

pub returns : goal.returns
returns c = nothing_is_gathered
