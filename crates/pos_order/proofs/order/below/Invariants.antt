use Rattle.std.proofs.Common.{◌≡◌, ℕ, ◌<◌, ◌≤◌, length, slice_index}
use Rattle.pos_order.proofs.order.below.Given as goal

-- from place i on both lists are the same
abbrev pub invariant-loop-i : goal.invariant-loop-i
invariant-loop-i l =
    (l.i ≤ length l.a) × ((j : ℕ) → l.i ≤ j → j < length l.a → slice_index l.a j ≡ slice_index l.b j)

abbrev pub decreases-loop-i : goal.decreases-loop-i
decreases-loop-i l = l.i
