use Rattle.pos_order.proofs.turned.+turn_group.Given as goal

abbrev pub decreases-turn_group : goal.decreases-turn_group
decreases-turn_group l = l.level
