use Rattle.pos_laws.proofs.TablesThere.{tables_are_there}
use Rattle.pos_laws.proofs.there.tables_are_there.Goals as goal

pub returns : goal.returns
returns c = tables_are_there
