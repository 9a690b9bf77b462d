-- Why a command on a plot file has nothing to show, and what is said then. This is for private functions; no public clause
-- speaks of it.
use Rattle.std.specs.Prelude.{ℕ, ◌≡◌, true, List, Some, None, Result, IfOk, IfErr}
use Rattle.pos_edge.specs.Faults.{Rose}
use Rattle.pos_edge.specs.View.{View}
use Rattle.pos_edge.specs.Frame.{ChangesOnly, Nothing, SameFaultsBut}
use Rattle.pos_layout.specs.declared.damage.Damage.{Damage}
use Rattle.pos_reader.specs.declared.refusal.OpenRefusal.{OpenRefusal}
use Rattle.pos_reader.specs.declared.refusal.OpenRefusal.TheVariants.{Absent as NotThere, DiskFailed as OpeningFailed, Damage as OpenedDamaged, Memory as NoMemory}
use Rattle.pos_reader.specs.declared.refusal.ReadRefusal.{ReadRefusal}
use Rattle.pos_reader.specs.declared.refusal.ReadRefusal.TheVariants.{DiskFailed as ReadFailed, Damage as ReadDamaged}
use Rattle.pos_harvest.specs.declared.refusal.ListRefusal.{ListRefusal}
use Rattle.pos_harvest.specs.declared.refusal.ListRefusal.TheVariants.{DiskFailed as ListFailed, Damage as ListDamaged, Memory as NoListMemory}
use Rattle.pos_app.specs.declared.refusal.Refusal.{Refusal}
use Rattle.pos_app.specs.declared.refusal.Refusal.TheVariants.{Absent, DiskFailed, Damage as Damaged, Memory}
use Rattle.pos_app.specs.Statuses.{disk_fault_status, damage_status, name_status}
use Rattle.pos_edge.specs.Sinks.{Heard}
use Rattle.pos_app.specs.Answers.{IsUnsaid, Says, Speaks}
use Rattle.pos_app.specs.Texts.{absent_line, disk_fault_line, damage_line}

-- why no plot was opened, as a command's refusal
abbrev pub refusal_of : OpenRefusal → Refusal
refusal_of NotThere = Absent
refusal_of OpeningFailed = DiskFailed
refusal_of (OpenedDamaged d) = Damaged d
refusal_of NoMemory = Memory

-- why nothing was listed
abbrev pub list_refusal : ListRefusal → Refusal
list_refusal ListFailed = DiskFailed
list_refusal (ListDamaged d) = Damaged d
list_refusal NoListMemory = Memory

-- why a plot was not read
abbrev pub read_refusal : ReadRefusal → Refusal
read_refusal ReadFailed = DiskFailed
read_refusal (ReadDamaged d) = Damaged d

-- when each comes
abbrev pub IsRefused : (List ℕ → Damage → Type 0) → List ℕ → View → View → Refusal → Type 0
IsRefused Has file before after Absent = before.contents file ≡ None
IsRefused Has file before after DiskFailed = Rose before.faults after.faults
IsRefused Has file before after (Damaged d) =
    before.tells ≡ true → (b : List ℕ) × (before.contents file ≡ Some b) × Has b d
IsRefused Has file before after Memory = Unit {0}

-- what a command finds in a plot file, or why it has nothing to show; no file has changed
pub record Finds {X : Type 0} (IsRight : X → Type 0) (Has : List ℕ → Damage → Type 0) (file : List ℕ) (result : Result X Refusal)
    (before after : View) : Type 0 where
  pub kept : ChangesOnly Nothing Nothing before after
  pub quiet : SameFaultsBut DiskFailed result before after
  pub right : IfOk result IsRight
  pub refused : IfErr result (IsRefused Has file before after)

-- what is said of it, and with which status
abbrev pub SaysRefusal : List ℕ → Refusal → ℕ → Heard → Heard → Type 0
SaysRefusal file Absent result old new = Says name_status (absent_line file) result old new
SaysRefusal file DiskFailed result old new = Speaks disk_fault_status disk_fault_line result old new
SaysRefusal file (Damaged d) result old new = Says damage_status (damage_line d) result old new
SaysRefusal file Memory result old new = IsUnsaid result old new
