use Rattle.pos_points.proofs.PointLemmas.{line_point-rises, line_point-lesser, line_point-bound}
use Rattle.pos_points.proofs.laws.points_keep_the_order.Goals as goal

pub returns-clause-rise_with_the_greater : goal.returns-clause-rise_with_the_greater
returns-clause-rise_with_the_greater c = line_point-rises

pub returns-clause-rise_with_the_lesser : goal.returns-clause-rise_with_the_lesser
returns-clause-rise_with_the_lesser c = line_point-lesser

pub returns-clause-bounded : goal.returns-clause-bounded
returns-clause-bounded c = line_point-bound
