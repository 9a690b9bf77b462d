use Rattle.pos_layout.proofs.StoredLemmas.{shown_lists}
use Rattle.pos_layout.proofs.laws.a_whole_file_shows_its_lists.Goals as goal

pub returns : goal.returns
returns c = shown_lists
