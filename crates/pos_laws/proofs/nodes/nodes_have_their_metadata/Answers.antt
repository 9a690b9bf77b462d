use Rattle.pos_laws.proofs.NodeSizes.{nodes_have_their_metadata}
use Rattle.pos_laws.proofs.nodes.nodes_have_their_metadata.Goals as goal

pub returns : goal.returns
returns c = nodes_have_their_metadata
