use Rattle.std.proofs.Common.{◌-◌, ◌<◌, ◌^◌, sym, arith}
use Rattle.pos_points.proofs.PointLemmas.{IsAt, IsAt-only, pairs_below, taken_above, taken_here}
use Rattle.pos_points.proofs.RootLemmas.{sq_lt}
use Rattle.pos_points.proofs.from_point.Goals as goal
use Rattle.pos_points.proofs.from_point.Goals.{After-first_point-2, then-first_point-point, else-first_point-point}

-- the pair that is returned is in order and has the point as its place
found : (c : After-first_point-2) → IsAt (c.if-first_point-point.greater, c.args.point - c.first_point-2.result) c.args.point
unfolding pairs_below
found c =
    elim c.if-first_point-point.branch [
      | then-first_point-point w ↦ taken_above _ _ _ _ _ c.root_of-root.ensures.square_below c.root_of-root.ensures.next_square_above c.first_point.ensures w.if-first_point-point.true w.greater-is c.first_point-2.ensures
      | else-first_point-point w ↦ taken_here _ _ _ _ _ c.root_of-root.ensures.square_below c.root_of-root.ensures.next_square_above c.first_point.ensures w.if-first_point-point.false w.greater-is c.first_point-2.ensures
    ]

pub returns-clause-greater : goal.returns-clause-greater
returns-clause-greater c = sym (IsAt-only _ _ _ (found c)).0

pub returns-clause-lesser : goal.returns-clause-lesser
returns-clause-lesser c = sym (IsAt-only _ _ _ (found c)).1

pub returns-clause-differ : goal.returns-clause-differ
returns-clause-differ c = (found c).0

pub returns-clause-inverse : goal.returns-clause-inverse
returns-clause-inverse c = (IsAt-only _ _ _ (found c)).2

pub returns-clause-in_range : goal.returns-clause-in_range
returns-clause-in_range c =
    let h : c.root_of-root.result < 2 ^ 63 - 1 = sq_lt c.root_of-root.result (2 ^ 63 - 1) (omega (arith, c.root_of-root.ensures.square_below)) in
    elim c.if-first_point-point.branch [ then-first_point-point w ↦ omega arith | else-first_point-point w ↦ omega arith ]
