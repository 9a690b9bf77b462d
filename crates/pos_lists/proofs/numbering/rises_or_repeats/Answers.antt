use Rattle.pos_lists.proofs.NumberingLemmas.{rises_or_repeats}
use Rattle.pos_lists.proofs.numbering.rises_or_repeats.Goals as goal

pub returns : goal.returns
returns c = rises_or_repeats
