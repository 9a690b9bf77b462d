use Rattle.std.proofs.Common.{◌≡◌, ◌++◌, take}
use Rattle.std.specs.Prelude.{string_bytes}
use Rattle.pos_app.specs.Texts.{id_line, size_line, table_lines}
use Rattle.pos_app.proofs.text.header_lines.Given as goal

abbrev pub invariant-loop-i : goal.invariant-loop-i
invariant-loop-i l = string_bytes l.text ≡ (id_line l.id.0 ++ size_line l.k) ++ table_lines 1 (take l.i l.counts)
