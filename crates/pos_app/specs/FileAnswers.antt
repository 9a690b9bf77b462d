-- The answer of a command on a plot file: a text that is right, or why there is none. A file is known by its bytes where
-- the disk tells them.
use Rattle.std.specs.Prelude.{ℕ, ◌≡◌, ◌⊎◌, true, List, Some, None}
use Rattle.pos_edge.specs.Faults.{Rose}
use Rattle.pos_edge.specs.Sinks.{Heard, followed_by}
use Rattle.pos_edge.specs.View.{View}
use Rattle.pos_layout.specs.Fields.{layout_in}
use Rattle.pos_layout.specs.declared.damage.Damage.{Damage}
use Rattle.pos_harvest.specs.PlotDamage.{IsDamage}
pub use Rattle.pos_harvest.specs.PlotDamage.{IsOpeningDamage}
use Rattle.pos_app.specs.Statuses.{done_status, disk_fault_status, damage_status, name_status}
use Rattle.pos_app.specs.Answers.{IsUnsaid, Speaks}
use Rattle.pos_app.specs.Texts.{absent_line, disk_fault_line, damage_line}

-- a command shows a text that is right
pub record ShowsText (IsRight : List ℕ → Type 0) (result : ℕ) (old new : Heard) : Type 0 where
  pub text : List ℕ
  pub right : IsRight text
  pub said : Speaks done_status text result old new

-- or a damage: over a disk that tells, one that the file's bytes have
pub record ShowsDamage (Has : List ℕ → Damage → Type 0) (file : List ℕ) (disk : View) (result : ℕ) (old new : Heard) : Type 0 where
  pub damage : Damage
  pub said : Speaks damage_status (damage_line damage) result old new
  pub told : disk.tells ≡ true → (b : List ℕ) × (disk.contents file ≡ Some b) × Has b damage

-- or that no file has the name: over a disk that tells, none has
pub record ShowsAbsence (file : List ℕ) (disk : View) (result : ℕ) (old new : Heard) : Type 0 where
  pub said : Speaks name_status (absent_line file) result old new
  pub absent : disk.contents file ≡ None

-- or that the disk failed: its count of faults rose
pub record ShowsDiskFault (before after : View) (result : ℕ) (old new : Heard) : Type 0 where
  pub said : Speaks disk_fault_status disk_fault_line result old new
  pub cause : Rose before.faults after.faults

-- the answer of a command on a file, by which text is right and which damages the file's bytes have, but for want of memory
abbrev pub SaysOfFile : (List ℕ → Type 0) → (List ℕ → Damage → Type 0) → List ℕ → View → View → ℕ → Heard → Heard → Type 0
SaysOfFile IsRight Has file before after result old new =
    (ShowsText IsRight result old new
    ⊎ (ShowsDamage Has file before result old new
    ⊎ (ShowsAbsence file before result old new ⊎ ShowsDiskFault before after result old new)))
    ⊎ IsUnsaid result old new

-- a text is said with its status, but for a fault of the disk or of the sink and want of memory
abbrev pub SaysUnlessFault : ℕ → List ℕ → View → View → ℕ → Heard → Heard → Type 0
SaysUnlessFault status text before after result old new =
    Speaks status text result old new ⊎ (ShowsDiskFault before after result old new ⊎ IsUnsaid result old new)

-- Over a disk that tells, of a file that is not there it is said that it is absent, and of one whose bytes do not open the
-- first damage that opening finds.
pub record RefusesUnopened (file : List ℕ) (before after : View) (result : ℕ) (old new : Heard) : Type 0 where
  pub absent : before.contents file ≡ None → SaysUnlessFault name_status (absent_line file) before after result old new
  pub damaged : (b : List ℕ) (d : Damage) → before.contents file ≡ Some b → IsOpeningDamage b d
      → SaysUnlessFault damage_status (damage_line d) before after result old new

-- Over a disk that tells, the damage that was said is one of the file, for this challenge.
pub record NamesDamage (file c : List ℕ) (disk : View) (old new : Heard) : Type 0 where
  pub damage : Damage
  pub text : new.text ≡ followed_by old.text (damage_line damage)
  pub bytes : List ℕ
  pub contents : disk.contents file ≡ Some bytes
  pub cause : IsDamage (layout_in bytes) bytes c damage
