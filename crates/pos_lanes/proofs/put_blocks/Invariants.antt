use Rattle.std.proofs.Common.{◌≡◌, ℕ, ◌<◌, [], length, slice_index_or}
use Rattle.pos_lanes.specs.Places.{IsBlockAt}
use Rattle.pos_lanes.proofs.put_blocks.Given as goal

-- the blocks before a place are written
abbrev pub invariant-loop-i : goal.invariant-loop-i
invariant-loop-i l = record {
  len : length l.blocks ≡ 8;
  blocks : (j : ℕ) → j < l.i → IsBlockAt l.size l.t l.left l.right j (slice_index_or l.blocks j []);
}
