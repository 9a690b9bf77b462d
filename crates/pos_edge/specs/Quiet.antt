-- A disk that tells nothing: its counts, and the FileIds given so far by their numbers.
use Rattle.std.specs.Prelude.{ℕ, ◌≤◌, ◌≡◌, max, Bool, true, false, List, [], ◌∷◌, ◌++◌, length, slice_get, slice_set, Option, Some, None, Result, Ok, Err, refl}
use Rattle.pos_edge.specs.declared.disk.FileId.{FileId}
use Rattle.pos_edge.specs.declared.disk.CreateFault.{CreateFault}
use Rattle.pos_edge.specs.declared.disk.CreateFault.TheVariants.{Exists, Failed as CreateFailed, Memory as CreateMemory}
use Rattle.pos_edge.specs.declared.disk.OpenFault.{OpenFault}
use Rattle.pos_edge.specs.declared.disk.OpenFault.TheVariants.{Absent, Failed as OpenFailed, Memory as OpenMemory}
use Rattle.pos_edge.specs.declared.disk.WriteFault.{WriteFault}
use Rattle.pos_edge.specs.declared.disk.WriteFault.TheVariants.{Failed as WriteFailed, Memory as WriteMemory}
use Rattle.pos_edge.specs.declared.disk.DiskFailed.{DiskFailed}
use Rattle.std.proofs.lemmas.Option.{none-some}
use Rattle.std.proofs.lemmas.Bool.{false≢true}
use Rattle.pos_edge.specs.Faults.{Rose, counted}
use Rattle.pos_edge.specs.View.{View, IsDisk}

-- a FileId has the number of bytes that it knows of, or has ended
pub record QuietState : Type 0 where
  pub faults : ℕ
  pub reads : ℕ
  pub sizes : List (Option ℕ)

abbrev pub live_in : Option (Option ℕ) → Bool
live_in None = false
live_in (Some None) = false
live_in (Some (Some size)) = true

abbrev pub known_size : Option (Option ℕ) → ℕ
known_size None = 0
known_size (Some None) = 0
known_size (Some (Some size)) = size

abbrev pub quiet_view : QuietState → View
quiet_view disk = record {
  faults = disk.faults;
  reads = disk.reads;
  is_live = λ file. live_in (slice_get disk.sizes file);
  size_of = λ file. known_size (slice_get disk.sizes file);
  tells = false;
  contents = λ name. None;
  name_of = λ file. None;
  tells_images = false;
  clock = 0;
  image = λ name t image. ⊥;
}

pub quiet_is_disk : (disk : QuietState) → IsDisk (quiet_view disk)
quiet_is_disk disk = record {
  images_told = λ told. told;
  named = λ file name is. absurd (none-some name is);
  contents_image = λ name told. absurd (false≢true told);
  absent_image = λ name image none is. absurd is;
  no_contents = λ name silent. refl;
  no_images = λ name t image silent is. is;
}

-- The counts of a call that is no read: one that went well, and one that failed.
pub record QuietCall (old new : QuietState) : Type 0 where
  pub faults : new.faults ≡ old.faults
  pub reads : new.reads ≡ old.reads

pub record QuietFailed (old new : QuietState) : Type 0 where
  pub faults : old.faults ≤ new.faults
  pub reads : new.reads ≡ old.reads
  pub rose : Rose old.faults new.faults

abbrev pub QuietCreates : QuietState → Result FileId CreateFault → QuietState → Type 0
QuietCreates old (Ok file) new = QuietCall old new × (file.0 ≡ length old.sizes) × (new.sizes ≡ old.sizes ++ Some 0 ∷ [])
QuietCreates old (Err Exists) new = new ≡ old
QuietCreates old (Err CreateFailed) new = QuietFailed old new × (new.sizes ≡ old.sizes)
QuietCreates old (Err CreateMemory) new = new ≡ old

abbrev pub QuietOpens : QuietState → Result FileId OpenFault → QuietState → Type 0
QuietOpens old (Ok file) new = QuietCall old new × (file.0 ≡ length old.sizes) × ((size : ℕ) × (new.sizes ≡ old.sizes ++ Some size ∷ []))
QuietOpens old (Err Absent) new = new ≡ old
QuietOpens old (Err OpenFailed) new = QuietFailed old new × (new.sizes ≡ old.sizes)
QuietOpens old (Err OpenMemory) new = new ≡ old

-- a read, by whether it went well
abbrev pub QuietReads : QuietState → Result (Unit {0}) DiskFailed → QuietState → Type 0
QuietReads old (Ok done) new = (new.faults ≡ old.faults) × (new.reads ≡ counted old.reads) × (new.sizes ≡ old.sizes)
QuietReads old (Err fault) new = Rose old.faults new.faults × (old.faults ≤ new.faults) × (new.reads ≡ counted old.reads) × (new.sizes ≡ old.sizes)

-- a write up to this end, through a FileId of this number and size
abbrev pub QuietWrites : QuietState → ℕ → ℕ → ℕ → Result (Unit {0}) WriteFault → QuietState → Type 0
QuietWrites old file size end (Ok done) new = QuietCall old new × (new.sizes ≡ slice_set old.sizes file (Some (max size end)))
QuietWrites old file size end (Err WriteFailed) new = QuietFailed old new × (new.sizes ≡ old.sizes)
QuietWrites old file size end (Err WriteMemory) new = new ≡ old

abbrev pub QuietSyncs : QuietState → Result (Unit {0}) DiskFailed → QuietState → Type 0
QuietSyncs old (Ok done) new = QuietCall old new × (new.sizes ≡ old.sizes)
QuietSyncs old (Err fault) new = QuietFailed old new × (new.sizes ≡ old.sizes)

abbrev pub QuietRemoves : QuietState → ℕ → Result (Unit {0}) DiskFailed → QuietState → Type 0
QuietRemoves old file (Ok done) new = QuietCall old new × (new.sizes ≡ slice_set old.sizes file None)
QuietRemoves old file (Err fault) new = QuietFailed old new × (new.sizes ≡ slice_set old.sizes file None)
