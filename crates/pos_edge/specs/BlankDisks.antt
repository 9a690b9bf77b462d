-- A disk that keeps the names and lengths of its files and no bytes.
use Rattle.std.specs.Prelude.{ℕ, ◌≡◌, Bool, true, List, [], ◌∷◌, ◌++◌, map, Option, Some, None, Any, if◌then◌else◌}
use Rattle.pos_edge.specs.declared.doubles.blank_disk.BlankHandle.{BlankHandle}
use Rattle.pos_edge.specs.View.{View}
use Rattle.pos_edge.specs.Quiet.{QuietState, quiet_view}

-- a name, whether its file is there, and how many bytes that has
pub record BlankName : Type 0 where
  pub name : List ℕ
  pub there : Bool
  pub length : ℕ

pub record BlankState : Type 0 where
  pub names : List BlankName
  pub handles : List BlankHandle
  pub reads : ℕ

abbrev pub fresh_blank : BlankState
fresh_blank = record { names = []; handles = []; reads = 0 }

-- a file of this name is there; and it has so many bytes
abbrev pub HasName : List ℕ → BlankState → Type 0
HasName name disk = Any (λ kept. (kept.there ≡ true) × (kept.name ≡ name)) disk.names

abbrev pub HasLength : List ℕ → ℕ → BlankState → Type 0
HasLength name size disk = Any (λ kept. (kept.there ≡ true) × (kept.name ≡ name) × (kept.length ≡ size)) disk.names

-- these names, and that of a file that was made
abbrev pub with_name : List ℕ → List BlankName → List BlankName
with_name name names = names ++ record { name = name; there = true; length = 0 } ∷ []

abbrev pub size_if_live : BlankHandle → Option ℕ
size_if_live handle = if handle.live then Some handle.size else None

-- no call of it fails
abbrev pub quiet_of : BlankState → QuietState
quiet_of disk = record { faults = 0; reads = disk.reads; sizes = map size_if_live disk.handles }

abbrev pub blank_view : BlankState → View
blank_view disk = quiet_view (quiet_of disk)
