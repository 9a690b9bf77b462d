use Rattle.pos_layout.proofs.FileOpening.{opens_where_nothing, nothing_where_opens}
use Rattle.pos_layout.proofs.laws.opening_finds_nothing_where_a_file_opens.Goals as goal

pub returns : goal.returns
returns c = λ l b. (opens_where_nothing l b, nothing_where_opens l b)
