use Rattle.std.proofs.Common.{take}
use Rattle.pos_forward.specs.Waiting.{HasMade}
use Rattle.pos_forward.proofs.waiting.add_made.Given as goal

abbrev pub invariant-loop-j : goal.invariant-loop-j
invariant-loop-j l = HasMade l.size l.t (take l.j l.made) (take l.j l.pairs) l.initial.drafts l.drafts
