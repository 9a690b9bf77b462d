use Rattle.pos_laws.proofs.AnyFile.{trees_have_their_length}
use Rattle.pos_laws.proofs.plots.trees_have_their_length.Goals as goal

pub returns : goal.returns
returns c = trees_have_their_length
