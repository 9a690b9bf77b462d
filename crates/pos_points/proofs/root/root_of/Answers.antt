use Rattle.std.proofs.Common.{arith}
use Rattle.pos_points.proofs.RootLemmas.{normal, rooted}
use Rattle.pos_points.proofs.root.root_of.Goals as goal

pub overflow_sub-half : goal.overflow_sub-half
overflow_sub-half c = (normal c.args.n c.requires.positive c.requires.in_range).even

pub overflow_cast-wide-2 : goal.overflow_cast-wide-2
overflow_cast-wide-2 c =
    let h = normal c.args.n c.requires.positive c.requires.in_range in
    omega (arith, h.high)

pub root_of_word-high-requires : goal.root_of_word-high-requires
root_of_word-high-requires c =
    let h = normal c.args.n c.requires.positive c.requires.in_range in
    omega (arith, h.high, h.low)

pub returns-clause-square_below : goal.returns-clause-square_below
returns-clause-square_below c =
    (rooted _ _ _ _ _ _ _ (normal c.args.n c.requires.positive c.requires.in_range) c.root_of_word-high.ensures.root c.refine.ensures.root).0

pub returns-clause-next_square_above : goal.returns-clause-next_square_above
returns-clause-next_square_above c =
    (rooted _ _ _ _ _ _ _ (normal c.args.n c.requires.positive c.requires.in_range) c.root_of_word-high.ensures.root c.refine.ensures.root).1
