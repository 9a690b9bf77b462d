use Rattle.std.proofs.Common.{◌≡◌, ◌≤◌, length}
use Rattle.pos_list_uses.proofs.many_mark_tests.below_each.Given as goal

-- no more are noted than were looked at
abbrev pub invariant-loop-i : goal.invariant-loop-i
invariant-loop-i l = record {
  few : l.count ≤ l.i;
  room : length l.below.items ≡ length l.noted;
}
