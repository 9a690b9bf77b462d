use Rattle.std.proofs.Common.{◌≡◌, ◌+◌, ◌*◌, ◌++◌, take}
use Rattle.pos_layout.specs.Fields.{columns_bytes}
use Rattle.pos_layout.proofs.header.put_columns.Given as goal

abbrev pub invariant-loop-i : goal.invariant-loop-i
invariant-loop-i l = take (56 + 16 * l.i) l.bytes ≡ take 56 l.initial.bytes ++ columns_bytes (take l.i l.columns)
