use Rattle.std.proofs.Common.{take}
use Rattle.pos_forward.proofs.GatherLemmas.{GatheredSoFar}
use Rattle.pos_forward.proofs.matcher.gather.Given as goal

abbrev pub invariant-loop-pair : goal.invariant-loop-pair
invariant-loop-pair l =
    GatheredSoFar l.size l.t l.left l.right (take l.pair-index l.pairs) l.initial.waiting l.waiting l.initial.drafts l.drafts l.initial.lanes l.lanes
