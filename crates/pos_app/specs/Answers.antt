-- How a run ends: what it writes, and the status with which it ends.
use Rattle.std.specs.Prelude.{ℕ, ◌≡◌, ◌≢◌, ◌⊎◌, List}
use Rattle.pos_edge.specs.Faults.{Rose}
use Rattle.pos_edge.specs.Frame.{SameFaults}
use Rattle.pos_edge.specs.Sinks.{Heard, followed_by, AppendsPartOf}
use Rattle.pos_edge.specs.View.{View}
use Rattle.pos_app.specs.Statuses.{disk_fault_status, sink_fault_status, memory_status}

-- the sink failed: a front part of the text was written
pub record IsCutShort (text : List ℕ) (result : ℕ) (old new : Heard) : Type 0 where
  pub status : result ≡ sink_fault_status
  pub cause : Rose old.faults new.faults
  pub part : AppendsPartOf text old.text new.text

-- memory was wanting: nothing was written, and the sink did not fail
pub record IsUnsaid (result : ℕ) (old new : Heard) : Type 0 where
  pub status : result ≡ memory_status
  pub nothing : new.text ≡ old.text
  pub quiet : new.faults ≡ old.faults

-- the whole text was written without a failure of the sink, and this is the status
pub record IsSaid (status : ℕ) (text : List ℕ) (result : ℕ) (old new : Heard) : Type 0 where
  pub ends : result ≡ status
  pub whole : new.text ≡ followed_by old.text text
  pub quiet : new.faults ≡ old.faults

-- the run says this text and ends with this status, but for a fault of the sink
abbrev pub Speaks : ℕ → List ℕ → ℕ → Heard → Heard → Type 0
Speaks status text result old new = IsSaid status text result old new ⊎ IsCutShort text result old new

-- and but for want of memory
abbrev pub Says : ℕ → List ℕ → ℕ → Heard → Heard → Type 0
Says status text result old new = Speaks status text result old new ⊎ IsUnsaid result old new

-- the status is this one, or that of a sink's fault or of want of memory
abbrev pub EndsWith : ℕ → ℕ → Type 0
EndsWith status result = (result ≡ status) ⊎ ((result ≡ sink_fault_status) ⊎ (result ≡ memory_status))

-- The status of a disk's fault comes exactly where the disk has failed, but for a fault of the sink: with any other its
-- count of faults is as it was.
pub record TellsFaults (result : ℕ) (before after : View) : Type 0 where
  pub failed : result ≡ disk_fault_status → Rose before.faults after.faults
  pub quiet : result ≢ disk_fault_status → result ≢ sink_fault_status → SameFaults before after

-- So does that of a sink's fault: it comes exactly where the sink has failed.
pub record TellsSinkFaults (result : ℕ) (old new : Heard) : Type 0 where
  pub failed : result ≡ sink_fault_status → Rose old.faults new.faults
  pub quiet : result ≢ sink_fault_status → new.faults ≡ old.faults
