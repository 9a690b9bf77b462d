use Rattle.std.proofs.Common.{◌≡◌, ◌++◌, map, take}
use Rattle.pos_forward.specs.Keeping.{whole_draft}
use Rattle.pos_forward.proofs.drafts.push_whole.Given as goal

abbrev pub invariant-loop-i : goal.invariant-loop-i
invariant-loop-i l = l.whole.items ≡ l.initial.whole.items ++ map whole_draft (take l.i l.rows)
