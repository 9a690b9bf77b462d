-- What the calls of a list on pages did.
use Rattle.std.specs.Prelude.{ℕ, ◌+◌, ◌/◌, ◌==◌, ◌≡◌, ◌<◌, ◌⊎◌, Bool, true, false, List, if◌then◌else◌}
use Rattle.pos_edge.specs.Faults.{counted}
use Rattle.pos_edge.specs.View.{View}
use Rattle.pos_edge.specs.Frame.{ChangesFile, KeepsIds, NameOf, ReadsOnly, Nothing}
use Rattle.pos_edge.specs.Calls.{IsCreated}
use Rattle.pos_edge.specs.ScratchNames.{ScratchState, next_name, scratch_name}
use Rattle.pos_edge.specs.declared.scratch.WorkFault.{WorkFault}
use Rattle.pos_edge.specs.declared.scratch.WorkFault.TheVariants.{DiskFailed, Memory}
use Rattle.pos_runs.specs.Pages.{ListPages, ListStands, ListHolds, per_page}

-- the file and its number are the same
pub record SameListFile (s t : ListPages) : Type 0 where
  pub file : t.file ≡ s.file
  pub number : t.number ≡ s.number

-- A call that writes, whatever it answered: it changed the list's own file alone, and read nothing.
pub record IsListWrite (s t : ListPages) (old new : View) : Type 0 where
  pub frame : ChangesFile s.file old new
  pub ids : KeepsIds Nothing old new
  pub reads : new.reads ≡ old.reads
  pub same : SameListFile s t

-- A call that reads, whatever it answered: no file was changed, and the list is the same but for the page in memory.
pub record IsListRead (s t : ListPages) (old new : View) : Type 0 where
  pub only : ReadsOnly old new
  pub same : SameListFile s t
  pub count : t.count ≡ s.count
  pub is_sealed : t.is_sealed ≡ s.is_sealed
  pub written : t.written ≡ s.written

-- how often the disk was read after a page was asked for: once more where it was not in memory
abbrev pub reads_for : ℕ → ListPages → View → ℕ
reads_for page s old = if s.page == page then old.reads else counted old.reads

-- the same of record i
abbrev pub reads_after : ℕ → ℕ → ListPages → View → ℕ
reads_after w i s old = reads_for (i / per_page w) s old

-- with the page in memory written, and none in memory
abbrev pub flushed : ListPages → ListPages
flushed s = record s { written = s.written + 1; page = s.written + 1; used = 0 }

-- with another page in memory
abbrev pub with_page : ListPages → ℕ → List ℕ → ListPages
with_page s page bytes = record s { page = page; bytes = bytes }

-- the same records, and room for one more in memory
pub record HasRoom (w : ℕ) (s t : ListPages) : Type 0 where
  pub count : t.count ≡ s.count
  pub is_sealed : t.is_sealed ≡ false
  pub used : t.used < per_page w

-- one more record was pushed
pub record HasOneMore (s t : ListPages) : Type 0 where
  pub count : t.count ≡ s.count + 1
  pub is_sealed : t.is_sealed ≡ false

-- The list was sealed: it has its records, and no page of them is in memory.
pub record IsSealedFrom (s t : ListPages) : Type 0 where
  pub count : t.count ≡ s.count
  pub is_sealed : t.is_sealed ≡ true
  pub page : t.page ≡ t.written

-- a new list: it has no records, and a file of the next scratch name
pub record IsNewList (scratch : ScratchState) (s : ListPages) (old new : View) : Type 0 where
  pub created : IsCreated (next_name scratch) s.file old new
  pub number : s.number ≡ scratch.made
  pub count : s.count ≡ 0
  pub is_sealed : s.is_sealed ≡ false

-- a page could not be written, or there was no memory
abbrev pub IsPageFault : WorkFault → Type 0
IsPageFault fault = (fault ≡ DiskFailed) ⊎ (fault ≡ Memory)

-- A list of this base of scratch names, that stands and holds these records.
pub record ListKept {R : Type 0} (base : List ℕ) (read : List Bool → R) (w : ℕ) (s : ListPages) (xs : List R) (view : View) : Type 0 where
  pub few : s.number < 10000
  pub named : view.tells ≡ true → NameOf s.file view (scratch_name base s.number)
  pub stands : ListStands w s view
  pub holds : ListHolds read w s xs view
