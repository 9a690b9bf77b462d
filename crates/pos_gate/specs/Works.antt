-- What a call that writes one file does to the disk, whatever it answers.
use Rattle.std.specs.Prelude.{◌≡◌, ℕ, List, Option, Result, IfErr, IsErrOf}
use Rattle.pos_edge.specs.Faults.{Rose}
use Rattle.pos_edge.specs.View.{View}
use Rattle.pos_edge.specs.Frame.{ChangesFile, KeepsIds, SameFaultsBut, Nothing}
use Rattle.pos_edge.specs.Images.{ImagesBy}
use Rattle.pos_edge.specs.declared.scratch.WorkFault.{WorkFault}
use Rattle.pos_edge.specs.declared.scratch.WorkFault.TheVariants.{DiskFailed, Memory}
use Rattle.pos_gate.specs.Gates.{EachImageOf, IsShut}

-- the faults of writing
abbrev pub IsWriteFault : WorkFault → Type 0
IsWriteFault DiskFailed = Unit {0}
IsWriteFault Memory = Unit {0}
IsWriteFault _ = ⊥

-- A call that writes one file, whatever it answered: it changed that file alone, read nothing, and at each moment each
-- image of the file has P. It failed for want of memory or by the disk, and the count of faults tells which.
pub record Works {X : Type 0} (P : Option (List ℕ) → Type 0) (file : ℕ) (result : Result X WorkFault) (old new : View) : Type 0 where
  pub kept : ChangesFile file old new
  pub ids : KeepsIds Nothing old new
  pub reads : new.reads ≡ old.reads
  pub images : EachImageOf P file old new
  pub fault : IfErr result IsWriteFault
  pub failed : IsErrOf result DiskFailed → Rose old.faults new.faults
  pub quiet : SameFaultsBut DiskFailed result old new

-- The same, where each image of the file comes by a relation from one that it had before.
pub record WorksBy {X : Type 0} (R : Option (List ℕ) → Option (List ℕ) → Type 0) (file : ℕ) (result : Result X WorkFault) (old new : View) : Type 0 where
  pub kept : ChangesFile file old new
  pub ids : KeepsIds Nothing old new
  pub reads : new.reads ≡ old.reads
  pub images : ImagesBy R file old new
  pub fault : IfErr result IsWriteFault
  pub failed : IsErrOf result DiskFailed → Rose old.faults new.faults
  pub quiet : SameFaultsBut DiskFailed result old new

-- One file was changed alone, and at each moment each image of it has a closed gate.
pub record WritesOnly (file : ℕ) (old new : View) : Type 0 where
  pub kept : ChangesFile file old new
  pub ids : KeepsIds Nothing old new
  pub images : EachImageOf IsShut file old new
