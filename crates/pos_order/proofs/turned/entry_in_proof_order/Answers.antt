use Rattle.std.proofs.Common.{◌<◌, ◌^◌}
use Rattle.pos_order.proofs.Turnings.{All-turning}
use Rattle.pos_order.proofs.turned.entry_in_proof_order.Goals as goal

pub returns-clause-small : goal.returns-clause-small
returns-clause-small c =
    All-turning (λ x. x < 2 ^ c.args.size) 6 c.turn_group.new.values c.args.values.now c.in_ok-root.ensures.turned.turned c.requires
