use Rattle.pos_harvest.proofs.branch.+follow.Given as goal

abbrev pub decreases-follow : goal.decreases-follow
decreases-follow g l = l.table
