use Rattle.std.proofs.Common.{◌≡◌, ℕ, ◌<◌, ◌≤◌, [], length, slice_index_or}
use Rattle.pos_lanes.specs.Places.{IsMessageAt}
use Rattle.pos_lanes.proofs.put_messages.Given as goal

-- the messages before a place are made, and the others are empty
abbrev pub invariant-loop-i : goal.invariant-loop-i
invariant-loop-i l = record {
  len : length l.messages ≡ 8;
  made : (j : ℕ) → j < l.i → IsMessageAt l.size l.t l.left l.right j (slice_index_or l.messages j []);
  rest : (j : ℕ) → l.i ≤ j → j < 8 → slice_index_or l.messages j [] ≡ [];
}
