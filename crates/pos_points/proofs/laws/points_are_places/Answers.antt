use Rattle.pos_points.proofs.PointLemmas.{line_point-pair_at, pair_at-line_point, pair_at-is}
use Rattle.pos_points.proofs.laws.points_are_places.Goals as goal

pub returns-clause-point_of_the_pair : goal.returns-clause-point_of_the_pair
returns-clause-point_of_the_pair c = line_point-pair_at

pub returns-clause-in_order : goal.returns-clause-in_order
returns-clause-in_order c = λ s. (pair_at-is s).0

pub returns-clause-greater_of_the_point : goal.returns-clause-greater_of_the_point
returns-clause-greater_of_the_point c = λ a b h. (pair_at-line_point a b h).0

pub returns-clause-lesser_of_the_point : goal.returns-clause-lesser_of_the_point
returns-clause-lesser_of_the_point c = λ a b h. (pair_at-line_point a b h).1
