use Rattle.std.proofs.Common.{◌<◌, ℕ}
use Rattle.pos_edge.specs.BlankFiles.{blank_names, IsThereAt}
use Rattle.pos_edge.proofs.doubles.blank_disk.find.Given as goal

abbrev pub invariant-loop-i : goal.invariant-loop-i
invariant-loop-i l = (k : ℕ) → k < l.i → IsThereAt (blank_names l.files) k l.name → ⊥
