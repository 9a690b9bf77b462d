use Rattle.std.proofs.Common.{refl}
use Rattle.pos_layout.specs.Fields.{header_in}
use Rattle.pos_layout.proofs.header.columns_in.Goals as goal

pub returns : goal.returns
unfolding header_in
returns c = rw (c.column_in.ensures, c.column_in-2.ensures, c.column_in-3.ensures, c.column_in-4.ensures, c.column_in-5.ensures, c.column_in-6.ensures, c.column_in-7.ensures) refl
