-- The comparison of two files byte by byte.
-- Source: this project's own. Places count from 0, in bytes.
use Rattle.std.specs.Prelude.{ℕ, ◌+◌, ◌≡◌, true, List, length, take, slice_get, Option, Some, None, Result, IfErr, IfOk, OnOk, OnErr}
use Rattle.pos_edge.specs.Faults.{Rose}
use Rattle.pos_edge.specs.View.{View}
use Rattle.pos_edge.specs.Frame.{ChangesOnly, Just, NameOf, Nothing, ReadsOnly, SameFaults, SameFaultsBut}
use Rattle.pos_edge.specs.Calls.{IsThere}
use Rattle.pos_audit.specs.declared.found.Audited.{Audited}
use Rattle.pos_audit.specs.declared.found.Audited.TheVariants.{Same, Differs}
use Rattle.pos_audit.specs.declared.fault.AuditFault.{AuditFault}
use Rattle.pos_audit.specs.declared.fault.AuditFault.TheVariants.{Lost, DiskFailed, Memory}

-- The first place at which two lists differ: before it they are the same; there they have two bytes, or one of them has ended.
pub record DifferAt (found want : List ℕ) (at : ℕ) : Type 0 where
  pub before : take at found ≡ take at want
  pub differ : slice_get found at ≡ slice_get want at → ⊥

-- What a comparison of two whole files answers. The second is what was wanted.
abbrev pub IsComparison : List ℕ → List ℕ → Audited → Type 0
IsComparison b c (Same n) = (b ≡ c) × (n ≡ length b)
IsComparison b c (Differs at want found) = DifferAt b c at × (want ≡ slice_get c at) × (found ≡ slice_get b at)

-- ---- these are for private functions

-- the pages differ first at a place of them, which is so far behind their begin at `at`
pub record IsDifference (at : ℕ) (xs ys : List ℕ) (audited : Audited) : Type 0 where
  pub place : ℕ
  pub differ : DifferAt xs ys place
  pub said : audited ≡ Differs (at + place) (slice_get ys place) (slice_get xs place)

abbrev pub PageAnswer : ℕ → List ℕ → List ℕ → Option Audited → Type 0
PageAnswer at xs ys None = xs ≡ ys
PageAnswer at xs ys (Some audited) = IsDifference at xs ys audited

-- the disk tells that an open file holds these bytes, as many as its FileId knows of
pub record HoldsFile (file : ℕ) (b : List ℕ) (view : View) : Type 0 where
  pub name : List ℕ
  pub named : NameOf file view name
  pub contents : view.contents name ≡ Some b
  pub size : view.size_of file ≡ length b

-- an open file can be read
pub record IsReadable (file : ℕ) (view : View) : Type 0 where
  pub live : view.is_live file ≡ true
  pub there : IsThere file view

-- files were read, and the count of faults rose where that is answered, and is as it was where it is not
pub record IsLook {X E : Type 0} (result : Result X E) (old new : View) : Type 0 where
  pub reads : ReadsOnly old new
  pub failed : OnErr result (Rose old.faults new.faults)
  pub quiet : OnOk result (SameFaults old new)

-- why a file was not compared with the second one
abbrev pub IsSecondCause : List ℕ → AuditFault → View → View → Type 0
IsSecondCause second Lost old new = old.contents second ≡ None
IsSecondCause second DiskFailed old new = Rose old.faults new.faults
IsSecondCause second Memory old new = Unit {0}
IsSecondCause second _ old new = ⊥

-- An open file was compared with the second one, of this name, and the second was removed; or was not.
pub record IsSecondCompared (found : ℕ) (second : List ℕ) (result : Result Audited AuditFault) (old new : View) : Type 0 where
  pub others : ChangesOnly (Just second) Nothing old new
  pub quiet : SameFaultsBut DiskFailed result old new
  pub cause : IfErr result (λ fault. IsSecondCause second fault old new)
  pub compared : IfOk result (λ audited. (b c : List ℕ) → HoldsFile found b old → old.contents second ≡ Some c → IsComparison b c audited)
  pub gone : OnOk result (new.contents second ≡ None)
