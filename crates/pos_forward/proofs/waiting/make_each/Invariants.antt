use Rattle.std.proofs.Common.{take}
use Rattle.std.specs.Simd.Lanes.{zip2}
use Rattle.pos_tuple.specs.Node.{next_entry}
use Rattle.pos_forward.specs.Waiting.{HasMade}
use Rattle.pos_forward.proofs.waiting.make_each.Given as goal

abbrev pub invariant-loop-j : goal.invariant-loop-j
invariant-loop-j l = HasMade l.size l.t (take l.j (zip2 (next_entry l.size l.t) l.left l.right)) (take l.j l.pairs) l.initial.drafts l.drafts
