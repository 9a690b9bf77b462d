-- What a call that reads answers, by what a definition says of the bytes.
use Rattle.std.specs.Prelude.{◌≡◌, Result, Ok, Err}
use Rattle.pos_layout.specs.declared.damage.Damage.{Damage}
use Rattle.pos_reader.specs.declared.refusal.ReadRefusal.{ReadRefusal}
use Rattle.pos_reader.specs.declared.refusal.ReadRefusal.TheVariants.{DiskFailed, Damage as Found}

-- a value, or a damage, is the one that the definition says; where the disk failed nothing is said
abbrev pub Answers : {X : Type 0} → Result X ReadRefusal → Result X Damage → Type 0
Answers (Ok x) said = said ≡ Ok x
Answers (Err DiskFailed) said = Unit {0}
Answers (Err (Found d)) said = said ≡ Err d
