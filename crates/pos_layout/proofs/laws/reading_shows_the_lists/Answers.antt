use Rattle.pos_layout.proofs.StoredLemmas.{count_stored, head_stored, number_stored, park_stored}
use Rattle.pos_layout.proofs.laws.reading_shows_the_lists.Goals as goal

pub returns-clause-parks : goal.returns-clause-parks
returns-clause-parks c = park_stored

pub returns-clause-heads : goal.returns-clause-heads
returns-clause-heads c = head_stored

pub returns-clause-numbers : goal.returns-clause-numbers
returns-clause-numbers c = number_stored

pub returns-clause-counts : goal.returns-clause-counts
returns-clause-counts c = count_stored
