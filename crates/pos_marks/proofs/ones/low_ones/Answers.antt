use Rattle.pos_marks.proofs.BitLemmas.{rank-low}
use Rattle.pos_marks.proofs.ones.low_ones.Goals as goal

pub returns : goal.returns
returns c = rank-low c.args.word c.args.bits c.from.result c.requires c.from.ensures
