use Rattle.std.proofs.Common.{◌≡◌, ◌<◌, ℕ, [], get_or, map, string_bytes}
use Rattle.pos_edge.proofs.doubles.history.find.Given as goal

abbrev pub invariant-loop-i : goal.invariant-loop-i
invariant-loop-i l = (k : ℕ) → k < l.i → get_or (map string_bytes l.names) k [] ≡ l.name → ⊥
