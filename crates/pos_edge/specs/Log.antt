-- The history of a disk's files, and what a crash may leave by it.
use Rattle.std.specs.Prelude.{ℕ, ◌+◌, ◌≤◌, ◌<◌, ◌≡◌, Bool, true, false, ◌&&◌, List, [], ◌∷◌, ◌++◌, length, slice_index, fold, All, Option, Some, None, option_map, if◌then◌else◌}
use Rattle.std.specs.Str.{bytes_eq}
use Rattle.pos_edge.specs.Images.{written, IsOutsideRange}

-- what a call did to a file that it changed; a write has its place and its piece
pub data Act : Type 0 where
  Making : Act
  Writing : ℕ → List ℕ → Act
  Syncing : Act
  Removing : Act

pub record Event : Type 0 where
  pub name : List ℕ
  pub act : Act

-- A file that is there: whether it was synced since it was made, its bytes at the last sync since then, or none,
-- and the places and pieces that were written since, the first one first.
pub record File : Type 0 where
  pub synced : Bool
  pub base : List ℕ
  pub writes : List (ℕ × List ℕ)

-- what a name stands for: how often a file of this name was removed, and the file that is there
pub record NameState : Type 0 where
  pub removals : ℕ
  pub file : Option File

-- these bytes with the pieces written over them, one after another
abbrev pub written_all : List (ℕ × List ℕ) → List ℕ → List ℕ
written_all writes bytes = fold (λ now write. written write.0 write.1 now) bytes writes

abbrev pub bytes_of : File → List ℕ
bytes_of file = written_all file.writes file.base

abbrev pub is_none_left : List (ℕ × List ℕ) → Bool
is_none_left [] = true
is_none_left (write ∷ writes) = false

-- a crash leaves what is there
abbrev pub is_clean : File → Bool
is_clean file = file.synced && is_none_left file.writes

abbrev pub never : NameState
never = record { removals = 0; file = None }

abbrev pub with_write : ℕ → List ℕ → File → File
with_write at piece file = record { synced = file.synced; base = file.base; writes = file.writes ++ (at, piece) ∷ [] }

abbrev pub as_synced : File → File
as_synced file = record { synced = true; base = bytes_of file; writes = [] }

abbrev pub acted : Act → NameState → NameState
acted Making state = record { removals = state.removals; file = Some (record { synced = false; base = []; writes = [] }) }
acted (Writing at piece) state = record { removals = state.removals; file = option_map (with_write at piece) state.file }
acted Syncing state = record { removals = state.removals; file = option_map as_synced state.file }
acted Removing state = record { removals = state.removals + 1; file = None }

-- an event is seen under its own name alone
abbrev pub happened : List ℕ → NameState → Event → NameState
happened name state event = if bytes_eq event.name name then acted event.act state else state

-- what a name stands for after this history
abbrev pub state_of : List ℕ → List Event → NameState
state_of name log = fold (happened name) never log

abbrev pub contents_of : List ℕ → List Event → Option (List ℕ)
contents_of name log = option_map bytes_of (state_of name log).file

-- A crash may leave these bytes of the file: a length from that at the sync to the present one, and outside of what
-- was written since, up to the old end, the bytes that were synced.
pub record MayLeave (file : File) (image : List ℕ) : Type 0 where
  pub no_shorter : length file.base ≤ length image
  pub no_longer : length image ≤ length (bytes_of file)
  pub others : (k : ℕ) → k < length file.base → All (λ write. IsOutsideRange write.0 (length write.1) k) file.writes → slice_index image k ≡ slice_index file.base k

-- a crash may leave this; a file that was never synced may be absent
abbrev pub IsImage : Option File → Option (List ℕ) → Type 0
IsImage None image = image ≡ None
IsImage (Some file) None = file.synced ≡ false
IsImage (Some file) (Some bytes) = MayLeave file bytes
