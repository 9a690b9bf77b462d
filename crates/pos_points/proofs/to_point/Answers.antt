use Rattle.std.proofs.Common.{arith}
use Rattle.std.proofs.lemmas.Bool.Decides.{nat_tests}
use Rattle.pos_points.specs.Points.{point_of, line_point}
use Rattle.pos_points.proofs.PointLemmas.{point_of-pair}
use Rattle.pos_points.proofs.to_point.Goals as goal

pub returns-clause-point : goal.returns-clause-point
unfolding point_of line_point
returns-clause-point c = grind (arith, nat_tests)

pub returns-clause-greater : goal.returns-clause-greater
returns-clause-greater c = rw (returns-clause-point c) (point_of-pair c.args.a c.args.b c.requires.differ).0

pub returns-clause-lesser : goal.returns-clause-lesser
returns-clause-lesser c = rw (returns-clause-point c) (point_of-pair c.args.a c.args.b c.requires.differ).1
