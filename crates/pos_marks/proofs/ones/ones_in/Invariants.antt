use Rattle.std.proofs.Common.{◌≡◌, ◌*◌}
use Rattle.pos_lists.specs.Rank.{rank}
use Rattle.pos_marks.specs.Bits.{has_bit}
use Rattle.pos_marks.proofs.ones.ones_in.Given as goal

abbrev pub invariant-loop-i : goal.invariant-loop-i
invariant-loop-i l = l.ones ≡ rank (has_bit l.bytes) (64 * l.i)
