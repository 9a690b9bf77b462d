use Rattle.pos_order.proofs.NodeParts.{nodes_have_their_length}
use Rattle.pos_laws.proofs.nodes.nodes_have_their_length.Goals as goal

pub returns : goal.returns
returns c = nodes_have_their_length
