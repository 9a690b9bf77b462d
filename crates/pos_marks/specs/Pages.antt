-- The pages of a scratch file, and the faults of a write.
use Rattle.std.specs.Prelude.{ℕ, ◌≡◌, List, length, take, Some}
use Rattle.pos_edge.specs.View.{View}
use Rattle.pos_edge.specs.Frame.{NameOf}
use Rattle.pos_edge.specs.declared.scratch.WorkFault.{WorkFault}
use Rattle.pos_edge.specs.declared.scratch.WorkFault.TheVariants.{DiskFailed, Memory}

-- the file begins with these bytes
abbrev pub BeginsWith : ℕ → List ℕ → View → Type 0
BeginsWith file bytes view = (name kept : List ℕ) → NameOf file view name → view.contents name ≡ Some kept → take (length bytes) kept ≡ bytes

-- the disk failed, or there was no memory
abbrev pub IsSealFault : WorkFault → Type 0
IsSealFault DiskFailed = Unit {0}
IsSealFault Memory = Unit {0}
IsSealFault _ = ⊥
