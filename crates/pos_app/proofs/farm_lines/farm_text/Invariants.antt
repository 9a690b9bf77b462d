-- The lines of the plots so far.
use Rattle.std.proofs.Common.{◌≡◌, take}
use Rattle.std.specs.Prelude.{string_bytes}
use Rattle.pos_app.specs.FarmTexts.{plot_lines}
use Rattle.pos_app.proofs.farm_lines.farm_text.Given as goal

abbrev pub invariant-loop-i : goal.invariant-loop-i
invariant-loop-i l = string_bytes l.text ≡ plot_lines 0 (take l.i l.answers)
