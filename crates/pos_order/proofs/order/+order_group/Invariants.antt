use Rattle.pos_order.proofs.order.+order_group.Given as goal

abbrev pub decreases-order_group : goal.decreases-order_group
decreases-order_group l = l.level
