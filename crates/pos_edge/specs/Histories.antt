-- What files in memory stand for: a history, and the FileIds given so far.
use Rattle.std.specs.Prelude.{ℕ, ◌+◌, ◌-◌, ◌^◌, ◌==◌, min, take, if◌then◌else◌, ◌≤◌, ◌<◌, ◌≡◌, ◌≢◌, ◌⊎◌, Bool, true, false, ◌&&◌, not, List, [], ◌∷◌, ◌++◌, length, map, get_or, All, count_by, Option, Some, None, string_bytes}
use Rattle.pos_edge.specs.declared.doubles.history.Deed.{Deed}
use Rattle.pos_edge.specs.declared.doubles.history.Deed.TheVariants.{Made, Wrote, Synced, Gone}
use Rattle.pos_edge.specs.declared.doubles.history.Entry.{Entry}
use Rattle.pos_edge.specs.declared.doubles.history.Handle.{Handle}
use Rattle.pos_edge.specs.declared.doubles.history.MemoryFile.{MemoryFile}
use Rattle.pos_edge.specs.declared.doubles.history.Replay.{Replay}
use Rattle.pos_edge.specs.declared.doubles.history.History.TheInside.{Inside}
use Rattle.std.specs.declared.string.String.{String}
use Rattle.std.specs.declared.alloc.Global.{Global}
use Rattle.pos_edge.specs.Images.{written}
use Rattle.pos_edge.specs.Log.{Act, Making, Writing, Syncing, Removing, Event, File, NameState, state_of, bytes_of, written_all, acted, is_clean}
use Rattle.pos_edge.specs.MemoryDisks.{OpenFile, IsSoundHandle, HistoryState}

-- a file as it is kept: whether it is there, whether it needs no sync, its bytes, and how often its name was removed
pub record Cache : Type 0 where
  pub there : Bool
  pub clean : Bool
  pub bytes : List ℕ
  pub removals : ℕ

abbrev pub cache_of : MemoryFile → Cache
cache_of file = record { there = file.there; clean = file.clean; bytes = file.bytes.items; removals = file.removals }

abbrev pub no_file : Cache
no_file = record { there = false; clean = true; bytes = []; removals = 0 }

abbrev pub act_of : Deed → Act
act_of Made = Making
act_of (Wrote at piece) = Writing at piece.items
act_of Synced = Syncing
act_of Gone = Removing

abbrev pub event_of : List (List ℕ) → Entry → Event
event_of names entry = record { name = get_or names entry.slot []; act = act_of entry.deed }

abbrev pub open_of : List (List ℕ) → Handle → OpenFile
open_of names handle = record { live = handle.live; name = get_or names handle.slot []; removals = handle.removals; size = handle.size }

abbrev pub inside_names : Inside → List (List ℕ)
inside_names inside = map string_bytes inside.names.items

abbrev pub history_of : Inside → HistoryState
history_of inside = record { log = map (event_of (inside_names inside)) inside.log.items; open_files = map (open_of (inside_names inside)) inside.handles.items }

-- a name's state in the history is what is kept of it
abbrev pub IsCachedFile : Option File → Cache → Type 0
IsCachedFile None cache = cache.there ≡ false
IsCachedFile (Some file) cache = (cache.there ≡ true) × (bytes_of file ≡ cache.bytes) × (is_clean file ≡ cache.clean)

pub record IsCached (state : NameState) (cache : Cache) : Type 0 where
  pub removals : state.removals ≡ cache.removals
  pub file : IsCachedFile state.file cache

-- Names are told apart by their places, and each has its file beside it.
pub record Backs (names : List (List ℕ)) (files : List Cache) (log : List Event) : Type 0 where
  pub beside : length files ≡ length names
  pub distinct : (i j : ℕ) → i < length names → j < length names → get_or names i [] ≡ get_or names j [] → i ≡ j
  pub known : All (λ event. (i : ℕ) × (i < length names) × (get_or names i [] ≡ event.name)) log
  pub kept : (i : ℕ) → i < length names → IsCached (state_of (get_or names i []) log) (get_or files i no_file)

abbrev pub is_live : Handle → Bool
is_live handle = handle.live

abbrev pub is_dirty : Cache → Bool
is_dirty cache = cache.there && not cache.clean

-- What holds of the parts. The room of the history is enough for one removal by each live FileId and one sync of each
-- file that needs one.
pub record HoldsTogether (names : List (List ℕ)) (files : List Cache) (entries : List Entry) (handles : List Handle) (capacity : ℕ) : Type 0 where
  pub backs : Backs names files (map (event_of names) entries)
  pub entries_in : All (λ entry. entry.slot < length names) entries
  pub handles_in : All (λ handle. handle.slot < length names) handles
  pub sound : All (IsSoundHandle (map (event_of names) entries)) (map (open_of names) handles)
  pub room : length entries + (count_by is_live handles + count_by is_dirty files) ≤ capacity

-- the kept files after each act
abbrev pub made_file : Cache → Cache
made_file file = record { there = true; clean = false; bytes = []; removals = file.removals }

abbrev pub written_file : ℕ → List ℕ → Cache → Cache
written_file at piece file = record { there = file.there; clean = false; bytes = written at piece file.bytes; removals = file.removals }

abbrev pub synced_file : Cache → Cache
synced_file file = record { there = file.there; clean = true; bytes = file.bytes; removals = file.removals }

abbrev pub gone_file : Cache → Cache
gone_file file = record { there = false; clean = true; bytes = []; removals = file.removals + 1 }

abbrev pub placed_file : List ℕ → Cache → Cache
placed_file bytes file = record { there = true; clean = true; bytes = bytes; removals = file.removals }

-- the names and files are as they were, or one new name stands behind them, with no file
abbrev pub KeepsOrAdds : List ℕ → List (String Global) → List MemoryFile → List (String Global) → List MemoryFile → Type 0
KeepsOrAdds name names files new_names new_files = ((new_names ≡ names) × (new_files ≡ files)) ⊎ (((i : ℕ) → i < length names → get_or (map string_bytes names) i [] ≢ name) × (map string_bytes new_names ≡ map string_bytes names ++ name ∷ []) × (map cache_of new_files ≡ map cache_of files ++ no_file ∷ []))

abbrev pub HoldsInside : Inside → Type 0
HoldsInside inside = HoldsTogether (inside_names inside) (map cache_of inside.files.items) inside.log.items inside.handles.items inside.log.cap

-- What was replayed of a file, with at most so many writes shown behind its last sync.
abbrev pub IsReplayedFile : ℕ → Option File → Replay → Type 0
IsReplayedFile writes None replay = replay.there ≡ false
IsReplayedFile writes (Some file) replay = (replay.there ≡ true) × (replay.synced ≡ file.synced) × (replay.later ≡ min (length file.writes) (2 ^ 64 - 1)) × (replay.whole.items ≡ bytes_of file) × (replay.shown.items ≡ written_all (take writes file.writes) file.base)

-- what happened to a place's file
abbrev pub seen_at : ℕ → NameState → Entry → NameState
seen_at slot state entry = if entry.slot == slot then acted (act_of entry.deed) state else state
