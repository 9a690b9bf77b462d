-- No newline stands before.
use Rattle.std.proofs.Common.{◌≡◌, All, take}
use Rattle.pos_farm.proofs.list.line_end.Given as goal

abbrev pub invariant-loop-i : goal.invariant-loop-i
invariant-loop-i l = All (λ x. x ≡ 10 → ⊥) (take l.i l.bytes)
