use Rattle.pos_order.proofs.NodeParts.{match_goes_one_way}
use Rattle.pos_laws.proofs.nodes.match_goes_one_way.Goals as goal

pub returns : goal.returns
returns c = match_goes_one_way
