use Rattle.pos_laws.proofs.Apart.{pairs_differ}
use Rattle.pos_laws.proofs.renumbering.pairs_differ.Goals as goal

pub returns : goal.returns
returns c = pairs_differ
