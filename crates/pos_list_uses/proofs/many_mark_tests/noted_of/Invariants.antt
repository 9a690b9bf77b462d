use Rattle.std.proofs.Common.{◌≤◌}
use Rattle.pos_list_uses.proofs.many_mark_tests.noted_of.Given as goal

-- no more are noted than were looked at
abbrev pub invariant-loop-i : goal.invariant-loop-i
invariant-loop-i l = l.count ≤ l.i
