use Rattle.std.proofs.Common.{ℕ, ◌+◌, ◌<◌, get_or}
use Rattle.pos_rice.proofs.tests.are_numbers.Given as goal

abbrev pub invariant-loop-i : goal.invariant-loop-i
invariant-loop-i l = record {
  below : (j : ℕ) → j < l.i → get_or l.numbers j 0 < l.limit;
  rising : (j : ℕ) → j + 1 < l.i → get_or l.numbers j 0 < get_or l.numbers (j + 1) 0;
}
