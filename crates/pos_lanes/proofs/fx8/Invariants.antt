use Rattle.std.proofs.Common.{◌≡◌, ℕ, ◌<◌, length, slice_index_or}
use Rattle.std.specs.Simd.Lanes.{zip2}
use Rattle.pos_tuple.specs.declared.entry.Entry.{Entry}
use Rattle.pos_tuple.specs.Node.{IsEntry, next_entry}
use Rattle.pos_lanes.proofs.fx8.Given as goal

-- the entries before a place are made
abbrev pub invariant-loop-i : goal.invariant-loop-i
invariant-loop-i l = record {
  len : length l.made ≡ 8;
  entries : (j : ℕ) (d : Entry) → j < l.i → slice_index_or l.made j d ≡ slice_index_or (zip2 (next_entry l.size l.t) l.left l.right) j d;
  each : (j : ℕ) (d : Entry) → j < l.i → IsEntry l.size l.t (slice_index_or l.made j d);
}
