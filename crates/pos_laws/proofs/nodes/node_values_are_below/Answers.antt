use Rattle.pos_laws.proofs.NodeSizes.{node_values_are_below}
use Rattle.pos_laws.proofs.nodes.node_values_are_below.Goals as goal

pub returns : goal.returns
returns c = node_values_are_below
