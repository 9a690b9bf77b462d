use Rattle.pos_layout.proofs.FileOnly.{open_memo, open_memo_length}
use Rattle.pos_layout.proofs.LayoutLemmas.{another_name, layout_named, opens_layout}
use Rattle.pos_layout.proofs.laws.a_file_has_one_layout_and_memo.Goals as goal

pub returns-clause-layout : goal.returns-clause-layout
returns-clause-layout c = layout_named

pub returns-clause-no_other : goal.returns-clause-no_other
returns-clause-no_other c = another_name

pub returns-clause-says : goal.returns-clause-says
returns-clause-says c = opens_layout

pub returns-clause-memo : goal.returns-clause-memo
returns-clause-memo c = λ l b bytes_ opens. (open_memo l b bytes_ opens, open_memo_length l b opens)
