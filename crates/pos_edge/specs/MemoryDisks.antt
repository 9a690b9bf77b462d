-- A disk in memory: its history, its open files and its counts, and what each call makes of them.
use Rattle.std.specs.Prelude.{ℕ, ◌+◌, ◌^◌, ◌≤◌, ◌<◌, ◌≡◌, ◌⊎◌, ◌==◌, nat_le, max, Bool, true, false, ◌&&◌, not, List, [], ◌∷◌, ◌++◌, length, take, slice_get, slice_set, slice_range, Contains, All, Option, Some, None, IsSome, IsSomeAnd, Result, Ok, Err, if◌then◌else◌}
use Rattle.std.specs.Option.{option_map_or}
use Rattle.pos_edge.specs.declared.disk.FileId.{FileId}
use Rattle.pos_edge.specs.declared.disk.CreateFault.{CreateFault}
use Rattle.pos_edge.specs.declared.disk.CreateFault.TheVariants.{Exists, Failed as CreateFailed, Memory as CreateMemory}
use Rattle.pos_edge.specs.declared.disk.OpenFault.{OpenFault}
use Rattle.pos_edge.specs.declared.disk.OpenFault.TheVariants.{Absent, Failed as OpenFailed, Memory as OpenMemory}
use Rattle.pos_edge.specs.declared.disk.WriteFault.{WriteFault}
use Rattle.pos_edge.specs.declared.disk.WriteFault.TheVariants.{Failed as WriteFailed, Memory as WriteMemory}
use Rattle.pos_edge.specs.declared.disk.DiskFailed.{DiskFailed}
use Rattle.std.specs.declared.alloc.AllocError.{AllocError}
use Rattle.pos_edge.specs.Faults.{counted}
use Rattle.pos_edge.specs.View.{View}
use Rattle.pos_edge.specs.Log.{Act, Making, Writing, Syncing, Removing, Event, File, state_of, contents_of, written_all, is_clean, IsImage}

-- A FileId: whether it is live, the name of its file, how often that name had been removed when the FileId was given,
-- and how many bytes it is known to have.
pub record OpenFile : Type 0 where
  pub live : Bool
  pub name : List ℕ
  pub removals : ℕ
  pub size : ℕ

-- the history, and the FileIds given so far by their numbers
pub record HistoryState : Type 0 where
  pub log : List Event
  pub open_files : List OpenFile

-- The same, the counts of calls, faults and reads, the numbers of the calls
-- that are to fail, and the number of calls after which each one fails.
pub record DiskState : Type 0 where
  pub log : List Event
  pub open_files : List OpenFile
  pub calls : ℕ
  pub faults : ℕ
  pub reads : ℕ
  pub failing : List ℕ
  pub limit : Option ℕ

-- no file was made yet
abbrev pub fresh_disk : List ℕ → Option ℕ → DiskState
fresh_disk failing limit = record { log = []; open_files = []; calls = 0; faults = 0; reads = 0; failing = failing; limit = limit }

-- the next call is to fail
abbrev pub FailsAtCall : DiskState → Type 0
FailsAtCall disk = Contains disk.failing disk.calls ⊎ IsSomeAnd disk.limit (λ limit. limit ≤ disk.calls)

abbrev pub live_of : Option OpenFile → Bool
live_of None = false
live_of (Some file) = file.live

abbrev pub size_in : Option OpenFile → ℕ
size_in None = 0
size_in (Some file) = file.size

-- there are at least so many bytes
abbrev pub holds : ℕ → Option (List ℕ) → Bool
holds size None = false
holds size (Some bytes) = nat_le size (length bytes)

-- the FileId is live, and its file was not removed since the FileId was given
abbrev pub is_there : OpenFile → List Event → Bool
is_there file log = file.live && ((state_of file.name log).removals == file.removals) && holds file.size (contents_of file.name log)

abbrev pub live_name : List Event → Option OpenFile → Option (List ℕ)
live_name log None = None
live_name log (Some file) = if is_there file log then Some file.name else None

-- Such a disk tells everything. Its clock is the length of its history.
abbrev pub memory_view : DiskState → View
memory_view disk = record {
  faults = disk.faults;
  reads = disk.reads;
  is_live = λ file. live_of (slice_get disk.open_files file);
  size_of = λ file. size_in (slice_get disk.open_files file);
  tells = true;
  contents = λ name. contents_of name disk.log;
  name_of = λ file. live_name disk.log (slice_get disk.open_files file);
  tells_images = true;
  clock = length disk.log;
  image = λ name t. IsImage (state_of name (take t disk.log)).file;
}

-- Every FileId is for the file of its name that is there, which has the bytes that it knows of, or for one that was removed.
abbrev pub IsSoundHandle : List Event → OpenFile → Type 0
IsSoundHandle log file = (file.removals ≤ (state_of file.name log).removals) × (file.removals ≡ (state_of file.name log).removals → holds file.size (contents_of file.name log) ≡ true)

-- The counts fit their type, too.
pub record IsSoundDisk (disk : DiskState) : Type 0 where
  pub files : All (IsSoundHandle disk.log) disk.open_files
  pub faults : disk.faults < 2 ^ 64
  pub reads : disk.reads < 2 ^ 64

-- a call that went well, but for what it did; one that failed; and a read
abbrev pub passed : DiskState → DiskState
passed disk = record disk { calls = counted disk.calls }

abbrev pub failed : DiskState → DiskState
failed disk = record disk { calls = counted disk.calls; faults = counted disk.faults }

abbrev pub has_read : DiskState → DiskState
has_read disk = record disk { reads = counted disk.reads }

-- with one more event; with one more FileId; with another in the place of one
abbrev pub noted : List ℕ → Act → DiskState → DiskState
noted name act disk = record disk { log = disk.log ++ record { name = name; act = act } ∷ [] }

abbrev pub given : OpenFile → DiskState → DiskState
given file disk = record disk { open_files = disk.open_files ++ file ∷ [] }

abbrev pub replaced : ℕ → OpenFile → DiskState → DiskState
replaced place file disk = record disk { open_files = slice_set disk.open_files place file }

-- a FileId for the file that is there, or is made, under a name
abbrev pub opened_file : List ℕ → ℕ → List Event → OpenFile
opened_file name size log = record { live = true; name = name; removals = (state_of name log).removals; size = size }

abbrev pub ended : OpenFile → OpenFile
ended file = record file { live = false }

abbrev pub grown : ℕ → OpenFile → OpenFile
grown end file = record file { size = max file.size end }

-- What each call answers and leaves.
abbrev pub CreateGives : DiskState → List ℕ → Result FileId CreateFault → DiskState → Type 0
CreateGives disk name (Ok file) new = (FailsAtCall disk → ⊥) × (contents_of name disk.log ≡ None) × (file.0 ≡ length disk.open_files) × (new ≡ given (opened_file name 0 disk.log) (noted name Making (passed disk)))
CreateGives disk name (Err Exists) new = (FailsAtCall disk → ⊥) × IsSome (contents_of name disk.log) × (new ≡ passed disk)
CreateGives disk name (Err CreateFailed) new = FailsAtCall disk × (new ≡ failed disk)
CreateGives disk name (Err CreateMemory) new = (FailsAtCall disk → ⊥) × (contents_of name disk.log ≡ None) × (new ≡ passed disk)

abbrev pub OpenGives : DiskState → List ℕ → Result FileId OpenFault → DiskState → Type 0
OpenGives disk name (Ok file) new = (FailsAtCall disk → ⊥) × (file.0 ≡ length disk.open_files) × ((bytes : List ℕ) × (contents_of name disk.log ≡ Some bytes) × (new ≡ given (opened_file name (length bytes) disk.log) (passed disk)))
OpenGives disk name (Err Absent) new = (FailsAtCall disk → ⊥) × (contents_of name disk.log ≡ None) × (new ≡ passed disk)
OpenGives disk name (Err OpenFailed) new = FailsAtCall disk × (new ≡ failed disk)
OpenGives disk name (Err OpenMemory) new = (FailsAtCall disk → ⊥) × IsSome (contents_of name disk.log) × (new ≡ passed disk)

-- the calls on a FileId, which is this one
abbrev pub ReadGives : DiskState → OpenFile → ℕ → List ℕ → Result (Unit {0}) DiskFailed → DiskState → Type 0
ReadGives disk file at got (Ok done) new = (FailsAtCall disk → ⊥) × ((bytes : List ℕ) × (contents_of file.name disk.log ≡ Some bytes) × (got ≡ slice_range bytes at (at + length got))) × (new ≡ has_read (passed disk))
ReadGives disk file at got (Err fault) new = FailsAtCall disk × (new ≡ has_read (failed disk))

abbrev pub WriteGives : DiskState → ℕ → OpenFile → ℕ → List ℕ → Result (Unit {0}) WriteFault → DiskState → Type 0
WriteGives disk place file at piece (Ok done) new = (FailsAtCall disk → ⊥) × (new ≡ replaced place (grown (at + length piece) file) (noted file.name (Writing at piece) (passed disk)))
WriteGives disk place file at piece (Err WriteFailed) new = FailsAtCall disk × (new ≡ failed disk)
WriteGives disk place file at piece (Err WriteMemory) new = (FailsAtCall disk → ⊥) × (new ≡ passed disk)

-- a file that a crash leaves as it is needs no sync
abbrev pub is_clean_name : List ℕ → List Event → Bool
is_clean_name name log = option_map_or is_clean (state_of name log).file true

abbrev pub SyncGives : DiskState → OpenFile → Result (Unit {0}) DiskFailed → DiskState → Type 0
SyncGives disk file (Ok done) new = (FailsAtCall disk → ⊥) × (new ≡ (if is_clean_name file.name disk.log then passed disk else noted file.name Syncing (passed disk)))
SyncGives disk file (Err fault) new = FailsAtCall disk × (new ≡ failed disk)

abbrev pub RemoveGives : DiskState → ℕ → OpenFile → Result (Unit {0}) DiskFailed → DiskState → Type 0
RemoveGives disk place file (Ok done) new = (FailsAtCall disk → ⊥) × (new ≡ replaced place (ended file) (noted file.name Removing (passed disk)))
RemoveGives disk place file (Err fault) new = FailsAtCall disk × (new ≡ replaced place (ended file) (failed disk))

-- a synced file with these bytes was put there
abbrev pub placed : List ℕ → List ℕ → DiskState → DiskState
placed name bytes disk = noted name Syncing (noted name (Writing 0 bytes) (noted name Making disk))

-- The file at its last sync, with so many of the later writes. None where there is no file, or no sync and no write.
abbrev pub image_after : ℕ → Option File → Option (List ℕ)
image_after writes None = None
image_after writes (Some file) = if (writes == 0) && not file.synced then None else Some (written_all (take writes file.writes) file.base)

-- The same of the history alone.
abbrev pub noted_in : List ℕ → Act → HistoryState → HistoryState
noted_in name act history = record history { log = history.log ++ record { name = name; act = act } ∷ [] }

abbrev pub given_in : OpenFile → HistoryState → HistoryState
given_in file history = record history { open_files = history.open_files ++ file ∷ [] }

abbrev pub replaced_in : ℕ → OpenFile → HistoryState → HistoryState
replaced_in place file history = record history { open_files = slice_set history.open_files place file }

abbrev pub MakeGives : HistoryState → List ℕ → Result (Option ℕ) AllocError → HistoryState → Type 0
MakeGives history name (Ok (Some file)) new = (contents_of name history.log ≡ None) × (file ≡ length history.open_files) × (new ≡ given_in (opened_file name 0 history.log) (noted_in name Making history))
MakeGives history name (Ok None) new = IsSome (contents_of name history.log) × (new ≡ history)
MakeGives history name (Err fault) new = (contents_of name history.log ≡ None) × (new ≡ history)

abbrev pub FindGives : HistoryState → List ℕ → Result (Option ℕ) AllocError → HistoryState → Type 0
FindGives history name (Ok (Some file)) new = (file ≡ length history.open_files) × ((bytes : List ℕ) × (contents_of name history.log ≡ Some bytes) × (new ≡ given_in (opened_file name (length bytes) history.log) history))
FindGives history name (Ok None) new = (contents_of name history.log ≡ None) × (new ≡ history)
FindGives history name (Err fault) new = IsSome (contents_of name history.log) × (new ≡ history)

-- the FileId of this number can be used: it is live, and its file is there
pub record CanUse (history : HistoryState) (place : ℕ) (file : OpenFile) : Type 0 where
  pub at : slice_get history.open_files place ≡ Some file
  pub live : file.live ≡ true
  pub there : is_there file history.log ≡ true

abbrev pub placed_in : List ℕ → List ℕ → HistoryState → HistoryState
placed_in name bytes history = noted_in name Syncing (noted_in name (Writing 0 bytes) (noted_in name Making history))

abbrev pub synced_in : OpenFile → HistoryState → HistoryState
synced_in file history = if is_clean_name file.name history.log then history else noted_in file.name Syncing history

-- the disk's history alone
abbrev pub history_in : DiskState → HistoryState
history_in disk = record { log = disk.log; open_files = disk.open_files }
