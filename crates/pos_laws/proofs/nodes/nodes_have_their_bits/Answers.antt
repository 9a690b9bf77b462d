use Rattle.pos_laws.proofs.NodeSizes.{nodes_have_their_bits}
use Rattle.pos_laws.proofs.nodes.nodes_have_their_bits.Goals as goal

pub returns : goal.returns
returns c = nodes_have_their_bits
