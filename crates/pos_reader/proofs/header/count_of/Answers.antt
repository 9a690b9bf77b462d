use Rattle.std.proofs.Common.{refl}
use Rattle.pos_layout.specs.Fields.{column_of}
use Rattle.pos_reader.proofs.header.count_of.Goals as goal

pub returns : goal.returns
unfolding column_of
returns c = refl
