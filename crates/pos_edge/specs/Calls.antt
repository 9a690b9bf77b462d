-- What a call on a disk did, by its answer.
use Rattle.std.specs.Prelude.{ℕ, ◌+◌, ◌≤◌, ◌≡◌, ◌⊎◌, max, true, false, List, [], length, slice_range, Some, None, IsSome}
use Rattle.pos_edge.specs.Faults.{Rose}
use Rattle.pos_edge.specs.View.{View}
use Rattle.pos_edge.specs.Frame.{ChangesOnly, KeepsIds, Nothing, Just, NameOf}
use Rattle.pos_edge.specs.Images.{written, Torn, IsAbsentOrEmpty, EachImage, IsOnlyImage}

-- The file was not removed through another FileId. A disk that doesn't tell can't show it.
abbrev pub IsThere : ℕ → View → Type 0
IsThere file view = view.tells ≡ true → IsSome (view.name_of file)

-- a disk that tells has a file of this name; has none
abbrev pub WasThere : List ℕ → View → Type 0
WasThere name view = view.tells ≡ true → IsSome (view.contents name)

abbrev pub WasAbsent : List ℕ → View → Type 0
WasAbsent name view = view.contents name ≡ None

-- An empty file was made, and a FileId for it that was not live before.
pub record IsCreated (name : List ℕ) (file : ℕ) (old new : View) : Type 0 where
  pub was_absent : WasAbsent name old
  pub fresh : old.is_live file ≡ false
  pub live : new.is_live file ≡ true
  pub size : new.size_of file ≡ 0
  pub others : KeepsIds (Just file) old new
  pub named : new.tells ≡ true → NameOf file new name
  pub contents : new.tells ≡ true → new.contents name ≡ Some []
  pub images : EachImage name IsAbsentOrEmpty old new

-- A file that was to be made was not. One that was there is as it was; a name that was not there is absent or an empty file.
pub record IsHalfCreated (name : List ℕ) (old new : View) : Type 0 where
  pub rose : Rose old.faults new.faults
  pub ids : KeepsIds Nothing old new
  pub there : IsSome (old.contents name) → ChangesOnly Nothing Nothing old new
  pub contents : WasAbsent name old → IsAbsentOrEmpty (new.contents name)
  pub images : WasAbsent name old → EachImage name IsAbsentOrEmpty old new

-- A FileId was given for a file that is there, with all its bytes.
pub record IsOpened (name : List ℕ) (file : ℕ) (old new : View) : Type 0 where
  pub fresh : old.is_live file ≡ false
  pub live : new.is_live file ≡ true
  pub others : KeepsIds (Just file) old new
  pub named : new.tells ≡ true → NameOf file new name
  pub size : new.tells ≡ true → (bytes : List ℕ) × (old.contents name ≡ Some bytes) × (new.size_of file ≡ length bytes)

-- these are the bytes that the file holds from a place on
abbrev pub AreBytesAt : ℕ → ℕ → List ℕ → View → Type 0
AreBytesAt file at got view = (name bytes : List ℕ) → NameOf file view name → view.contents name ≡ Some bytes → got ≡ slice_range bytes at (at + length got)

-- the piece stands in the file from a place on, and the file is as long as it has to be
pub record IsWritten (file at : ℕ) (piece : List ℕ) (old new : View) : Type 0 where
  pub size : new.size_of file ≡ max (old.size_of file) (at + length piece)
  pub contents : (name bytes : List ℕ) → NameOf file old name → old.contents name ≡ Some bytes → new.contents name ≡ Some (written at piece bytes)

-- a piece of n bytes was to be written and was not, or not whole
pub record IsHalfWritten (file at n : ℕ) (old new : View) : Type 0 where
  pub rose : Rose old.faults new.faults
  pub size : new.size_of file ≤ max (old.size_of file) (at + n)
  pub contents : (name bytes : List ℕ) → NameOf file old name → old.contents name ≡ Some bytes → (torn : List ℕ) × (new.contents name ≡ Some torn) × Torn at n bytes torn

-- no file's contents have changed
abbrev pub SameContents : View → View → Type 0
SameContents old new = (name : List ℕ) → new.contents name ≡ old.contents name

-- a crash now leaves what the file holds
abbrev pub IsSynced : ℕ → View → Type 0
IsSynced file view = (name : List ℕ) → NameOf file view name → IsOnlyImage name (view.contents name) view

-- the FileId has ended; each other one stays, and keeps its file unless it is this one
pub record Ends (file : ℕ) (old new : View) : Type 0 where
  pub ended : new.is_live file ≡ false
  pub others : (other : ℕ) → (other ≡ file → ⊥) → new.is_live other ≡ old.is_live other
  pub names : (other : ℕ) → (other ≡ file → ⊥) → ((name : List ℕ) → NameOf other old name → NameOf file old name → ⊥) → new.name_of other ≡ old.name_of other
  -- one of the same file keeps its name, or has none
  pub kept_or_none : (other : ℕ) → (other ≡ file → ⊥) → (new.name_of other ≡ old.name_of other) ⊎ (new.name_of other ≡ None)

-- the file is gone
abbrev pub IsGone : ℕ → View → View → Type 0
IsGone file old new = (name : List ℕ) → NameOf file old name → (new.contents name ≡ None) × IsOnlyImage name None new

-- A file that was to be removed is as it was, and its other FileIds keep it, or it is gone.
abbrev pub IsAsItWasOrGone : ℕ → View → View → Type 0
IsAsItWasOrGone file old new = (name : List ℕ) → NameOf file old name → ((new.contents name ≡ old.contents name) × ((other : ℕ) → (other ≡ file → ⊥) → new.name_of other ≡ old.name_of other)) ⊎ ((new.contents name ≡ None) × IsOnlyImage name None new)
