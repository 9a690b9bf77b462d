use Rattle.std.proofs.Common.{arith}
use Rattle.std.proofs.lemmas.List.{same_lists}
use Rattle.std.proofs.lemmas.Simd.{length-zip2}
use Rattle.std.specs.Simd.Lanes.{zip2}
use Rattle.pos_tuple.specs.Node.{next_entry}
use Rattle.pos_lanes.proofs.fx8.Goals as goal

pub returns-clause-entries : goal.returns-clause-entries
returns-clause-entries c =
    same_lists c.loop-i.made (zip2 (next_entry c.args.size c.args.t) c.args.left.now c.args.right.now) (omega (arith, length-zip2))
    (λ k d lt. c.loop-i.invariant.entries k d (omega arith))
