use Rattle.pos_points.proofs.PointLemmas.{point_of-symm, point_of-is, point_of-pair}
use Rattle.pos_points.proofs.laws.points_are_in_either_order.Goals as goal

pub returns-clause-same : goal.returns-clause-same
returns-clause-same c = point_of-symm

pub returns-clause-ordered : goal.returns-clause-ordered
returns-clause-ordered c = point_of-is

pub returns-clause-greater : goal.returns-clause-greater
returns-clause-greater c = λ x y h. (point_of-pair x y h).0

pub returns-clause-lesser : goal.returns-clause-lesser
returns-clause-lesser c = λ x y h. (point_of-pair x y h).1
