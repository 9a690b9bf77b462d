use Rattle.pos_laws.proofs.Apart.{last_numbers_differ}
use Rattle.pos_laws.proofs.renumbering.last_numbers_differ.Goals as goal

pub returns : goal.returns
returns c = last_numbers_differ
