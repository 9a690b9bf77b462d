use Rattle.pos_layout.specs.Fields.{column_in}
use Rattle.pos_layout.proofs.CodecLemmas.{column_from}
use Rattle.pos_layout.proofs.header.column_in.Goals as goal

pub returns : goal.returns
unfolding column_in
returns c = column_from _ _ _ _ c.eight_at.ensures c.eight_at-2.ensures
