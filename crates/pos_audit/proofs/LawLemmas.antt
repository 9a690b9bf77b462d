-- What follows from the contract of an audit.
use Rattle.std.proofs.Common.{◌≡◌, ℕ, ◌+◌, ◌^◌, ◌↔◌, true, List, length, Result, Ok, Err, Some, None, sym, ◌∙◌, subst}
use Rattle.std.proofs.lemmas.Option.{none-some, same_Some}
use Rattle.pos_edge.specs.Faults.{Rose}
use Rattle.pos_edge.specs.View.{View}
use Rattle.pos_edge.specs.ScratchNames.{scratch_name}
use Rattle.pos_laws.specs.Making.{IsFull}
use Rattle.pos_layout.specs.Damages.{opening}
use Rattle.pos_layout.specs.Fields.{layout_in}
use Rattle.pos_layout.specs.Rules.{Opens}
use Rattle.pos_layout.proofs.FileOpening.{nothing_where_opens}
use Rattle.pos_audit.specs.declared.found.Audited.{Audited}
use Rattle.pos_audit.specs.declared.found.Audited.TheVariants.{Same, Differs}
use Rattle.pos_audit.specs.declared.fault.AuditName.TheVariants.{Second, Scratch as ScratchName}
use Rattle.pos_audit.specs.declared.fault.AuditFault.{AuditFault}
use Rattle.pos_audit.specs.declared.fault.AuditFault.TheVariants.{Absent, Lost, Exists, TableFull, DiskFailed, Damage as IsDamaged, Scratch, Memory}
use Rattle.pos_audit.specs.Audits.{IsAudit, IsAuditFor, IsOwnPlot, TellsBytes, said_id, said_size, second_name}
use Rattle.pos_audit.specs.AuditLaws.{AuditTells, CanAuditIsAudited, IsFound, RefusesWhatIsNoPlotFile, SaysAbsent, SaysDamage, SaysSame}
use Rattle.pos_audit.proofs.AuditingLemmas.{some_there}

-- what is told of the file of a name, is told of the bytes that stand there
told_of : (name b : List ℕ) (v : View) (Holds : List ℕ → Type 0) → v.tells ≡ true → v.contents name ≡ Some b → TellsBytes name v Holds → Holds b
told_of name b v Holds told contents tells =
    let held = tells told in
    subst Holds (same_Some held.0 b (sym held.1 ∙ contents)) held.2

-- and nothing is told of an absent one
told_of_none : (name : List ℕ) (v : View) (Holds : List ℕ → Type 0) → v.tells ≡ true → v.contents name ≡ None → TellsBytes name v Holds → ⊥
told_of_none name v Holds told none tells = let held = tells told in none-some held.0 (sym none ∙ held.1)

tells_by : (b : List ℕ) (audited : Audited) → IsAuditFor b audited → SaysSame audited ↔ IsOwnPlot b
tells_by b (Same n) is = (λ says. is.0, λ own. tt)
tells_by b (Differs at want found) is = (λ says. absurd says, λ own. absurd (is.0 own))

pub audit_tells : (old new : View) → AuditTells old new
audit_tells old new name base b audited told contents audit =
    tells_by b audited (told_of name b old (λ x. IsAuditFor x audited) told contents audit.audited)

pub can_audit_is_audited : (old new : View) → CanAuditIsAudited old new
can_audit_is_audited old new name base b result can audit safe = by result audit where
  by : (result : Result Audited AuditFault) → IsAudit name base result old new → IsFound result
  by (Ok audited) audit = tt
  by (Err Absent) audit = none-some b (sym audit.cause ∙ can.contents)
  by (Err Lost) audit = audit.cause can.tells
  by (Err (Exists Second)) audit = some_there (old.contents (second_name base)) can.no_second (audit.cause can.tells)
  by (Err (Exists (ScratchName n))) audit = some_there (old.contents (scratch_name base n)) (can.no_scratch n) (audit.cause.there can.tells)
  by (Err (TableFull t)) audit =
      can.not_full t (told_of name b old (λ x. IsFull (said_id x) (said_size x) (2 ^ (said_size x + 1)) t) can.tells can.contents audit.cause)
  by (Err DiskFailed) audit = safe audit.cause
  by (Err (IsDamaged d)) audit =
      none-some d (sym (nothing_where_opens (layout_in b) b can.opens) ∙ told_of name b old (λ x. opening (layout_in x) x (length x) ≡ Some d) can.tells can.contents audit.cause)
  by (Err (Scratch d)) audit = audit.cause.1 can.tells
  by (Err Memory) audit = tt

pub refuses_what_is_none : (old new : View) → RefusesWhatIsNoPlotFile old new
refuses_what_is_none old new = record { absent = absent; damaged = damaged } where
  absent : (name base : List ℕ) (result : Result Audited AuditFault) → old.tells ≡ true → old.contents name ≡ None
      → IsAudit name base result old new → (¬ Rose old.faults new.faults) → SaysAbsent result
  absent name base (Ok audited) told none audit safe = told_of_none name old (λ x. Opens (layout_in x) x) told none (audit.opened tt)
  absent name base (Err Absent) told none audit safe = tt
  absent name base (Err Lost) told none audit safe = audit.cause told
  absent name base (Err (Exists n)) told none audit safe = told_of_none name old (λ x. Opens (layout_in x) x) told none (audit.opened tt)
  absent name base (Err (TableFull t)) told none audit safe = told_of_none name old (λ x. Opens (layout_in x) x) told none (audit.opened tt)
  absent name base (Err DiskFailed) told none audit safe = safe audit.cause
  absent name base (Err (IsDamaged d)) told none audit safe = told_of_none name old (λ x. opening (layout_in x) x (length x) ≡ Some d) told none audit.cause
  absent name base (Err (Scratch d)) told none audit safe = audit.cause.1 told
  absent name base (Err Memory) told none audit safe = tt

  damaged : (name base b : List ℕ) (result : Result Audited AuditFault) → old.tells ≡ true → old.contents name ≡ Some b
      → (¬ Opens (layout_in b) b) → IsAudit name base result old new → (¬ Rose old.faults new.faults) → SaysDamage b result
  damaged name base b (Ok audited) told contents closed audit safe = absurd (closed (told_of name b old (λ x. Opens (layout_in x) x) told contents (audit.opened tt)))
  damaged name base b (Err Absent) told contents closed audit safe = none-some b (sym audit.cause ∙ contents)
  damaged name base b (Err Lost) told contents closed audit safe = audit.cause told
  damaged name base b (Err (Exists n)) told contents closed audit safe = closed (told_of name b old (λ x. Opens (layout_in x) x) told contents (audit.opened tt))
  damaged name base b (Err (TableFull t)) told contents closed audit safe = closed (told_of name b old (λ x. Opens (layout_in x) x) told contents (audit.opened tt))
  damaged name base b (Err DiskFailed) told contents closed audit safe = safe audit.cause
  damaged name base b (Err (IsDamaged d)) told contents closed audit safe = told_of name b old (λ x. opening (layout_in x) x (length x) ≡ Some d) told contents audit.cause
  damaged name base b (Err (Scratch d)) told contents closed audit safe = audit.cause.1 told
  damaged name base b (Err Memory) told contents closed audit safe = tt
