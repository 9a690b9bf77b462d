-- What follows from the contract of an audit, whatever the code.
use Rattle.std.specs.Prelude.{ℕ, ◌+◌, ◌^◌, ◌≡◌, ◌↔◌, true, List, length, Some, None, Result, Ok, Err}
use Rattle.pos_edge.specs.Faults.{Rose}
use Rattle.pos_edge.specs.View.{View}
use Rattle.pos_edge.specs.ScratchNames.{scratch_name}
use Rattle.pos_laws.specs.Making.{IsFull}
use Rattle.pos_layout.specs.Damages.{opening}
use Rattle.pos_layout.specs.Fields.{layout_in}
use Rattle.pos_layout.specs.Rules.{Opens}
use Rattle.pos_audit.specs.declared.found.Audited.{Audited}
use Rattle.pos_audit.specs.declared.found.Audited.TheVariants.{Same, Differs}
use Rattle.pos_audit.specs.declared.fault.AuditFault.{AuditFault}
use Rattle.pos_audit.specs.declared.fault.AuditFault.TheVariants.{Absent, Damage, Memory}
use Rattle.pos_audit.specs.Audits.{IsAudit, IsOwnPlot, said_id, second_name, said_size}

-- the answer is that the file is its plot
abbrev pub SaysSame : Audited → Type 0
SaysSame (Same n) = Unit {0}
SaysSame (Differs at want found) = ⊥

-- over a disk that tells, an audit that answers says "same" exactly where the file is the plot of its id and size
abbrev pub AuditTells : View → View → Type 0
AuditTells old new = (name base b : List ℕ) (audited : Audited) → old.tells ≡ true → old.contents name ≡ Some b
    → IsAudit name base (Ok audited) old new → SaysSame audited ↔ IsOwnPlot b

-- A disk tells that the file holds bytes that open, that no name of a run is there, and no table of its plot is too long.
pub record CanAudit (name base b : List ℕ) (view : View) : Type 0 where
  pub tells : view.tells ≡ true
  pub contents : view.contents name ≡ Some b
  pub opens : Opens (layout_in b) b
  pub no_second : view.contents (second_name base) ≡ None
  pub no_scratch : (m : ℕ) → view.contents (scratch_name base m) ≡ None
  pub not_full : (t : ℕ) → ¬ IsFull (said_id b) (said_size b) (2 ^ (said_size b + 1)) t

-- an audit answered what it found, or there was not enough memory
abbrev pub IsFound : Result Audited AuditFault → Type 0
IsFound (Ok audited) = Unit {0}
IsFound (Err Memory) = Unit {0}
IsFound _ = ⊥

-- such a file is audited where the disk did not fail and there was enough memory
abbrev pub CanAuditIsAudited : View → View → Type 0
CanAuditIsAudited old new = (name base b : List ℕ) (result : Result Audited AuditFault) → CanAudit name base b old
    → IsAudit name base result old new → (¬ Rose old.faults new.faults) → IsFound result

-- the answers where no file has the name, and where its file does not open, if the disk did not fail
abbrev pub SaysAbsent : Result Audited AuditFault → Type 0
SaysAbsent (Err Absent) = Unit {0}
SaysAbsent (Err Memory) = Unit {0}
SaysAbsent _ = ⊥

abbrev pub SaysDamage : List ℕ → Result Audited AuditFault → Type 0
SaysDamage b (Err (Damage d)) = opening (layout_in b) b (length b) ≡ Some d
SaysDamage b (Err Memory) = Unit {0}
SaysDamage b _ = ⊥

-- over a disk that tells, just these are answered there
pub record RefusesWhatIsNoPlotFile (old new : View) : Type 0 where
  pub absent : (name base : List ℕ) (result : Result Audited AuditFault) → old.tells ≡ true → old.contents name ≡ None
      → IsAudit name base result old new → (¬ Rose old.faults new.faults) → SaysAbsent result
  pub damaged : (name base b : List ℕ) (result : Result Audited AuditFault) → old.tells ≡ true → old.contents name ≡ Some b
      → (¬ Opens (layout_in b) b) → IsAudit name base result old new → (¬ Rose old.faults new.faults) → SaysDamage b result
