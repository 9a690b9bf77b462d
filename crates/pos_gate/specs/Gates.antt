-- A file with a gate: what a crash may leave of it while it is written, and what it has on the disk.
-- Byte 0 of the file is its gate, which is 0 until all else is on the disk, and then 1.
use Rattle.std.specs.Prelude.{ℕ, ◌≤◌, ◌≡◌, ◌⊎◌, true, List, [], ◌∷◌, length, take, drop, slice_index, Option, Some, None}
use Rattle.pos_edge.specs.View.{View}
use Rattle.pos_edge.specs.Frame.{NameOf}
use Rattle.pos_edge.specs.Images.{EachImage, IsOnlyImage}
use Rattle.pos_edge.specs.Calls.{IsThere}

-- ---- what a crash may leave

-- absent, or of at most one byte
abbrev pub IsTiny : Option (List ℕ) → Type 0
IsTiny None = Unit {0}
IsTiny (Some b) = length b ≤ 1

-- there, with a closed gate
abbrev pub IsShut : Option (List ℕ) → Type 0
IsShut None = ⊥
IsShut (Some b) = (1 ≤ length b) × (slice_index b 0 ≡ 0)

abbrev pub IsTinyOrShut : Option (List ℕ) → Type 0
IsTinyOrShut image = IsTiny image ⊎ IsShut image

-- these bytes, but for the gate
abbrev pub IsButGate : List ℕ → Option (List ℕ) → Type 0
IsButGate b None = ⊥
IsButGate b (Some c) = (length c ≡ length b) × ((at : ℕ) → 1 ≤ at → slice_index c at ≡ slice_index b at)

-- with a closed gate, or the finished file but for the gate
abbrev pub IsShutOr : List ℕ → Option (List ℕ) → Type 0
IsShutOr b image = IsShut image ⊎ IsButGate b image

-- at each moment from old to new, both ends with it, each image of the FileId's file has P
abbrev pub EachImageOf : (Option (List ℕ) → Type 0) → ℕ → View → View → Type 0
EachImageOf P file old new = (name : List ℕ) → NameOf file old name → EachImage name P old new

-- ---- bytes

-- these bytes with an open gate
unfoldable pub opened : List ℕ → List ℕ
opened b = 1 ∷ drop 1 b

-- What the writing of a file leaves that was not finished: at most one byte, or a closed gate, or whatever stands in the
-- gate's place before the mark of such a file.
abbrev pub IsUnfinished : List ℕ → List ℕ → Type 0
IsUnfinished mark b = (length b ≤ 1) ⊎ (slice_index b 0 ≡ 0) ⊎ (take (length mark) (drop 1 b) ≡ mark)

-- ---- files

-- a live file has these bytes
pub record HasBytes (file : ℕ) (b : List ℕ) (view : View) : Type 0 where
  pub live : view.is_live file ≡ true
  pub there : IsThere file view
  pub size : view.size_of file ≡ length b
  pub contents : (name : List ℕ) → NameOf file view name → view.contents name ≡ Some b

-- A live file has no bytes, and a crash now leaves at most one byte of it. So it is with a file that was just created.
pub record IsFresh (file : ℕ) (view : View) : Type 0 where
  pub bytes : HasBytes file [] view
  pub images : (name : List ℕ) (image : Option (List ℕ)) → NameOf file view name → view.image name view.clock image → IsTiny image

-- A live file has these bytes, its gate is closed, and a crash now leaves it so.
pub record HoldsShut (file : ℕ) (b : List ℕ) (view : View) : Type 0 where
  pub bytes : HasBytes file b view
  pub shut : IsShut (Some b)
  pub images : (name : List ℕ) (image : Option (List ℕ)) → NameOf file view name → view.image name view.clock image → IsShut image

-- A live file has these bytes, and a crash now leaves them.
pub record Holds (file : ℕ) (b : List ℕ) (view : View) : Type 0 where
  pub bytes : HasBytes file b view
  pub images : (name : List ℕ) → NameOf file view name → IsOnlyImage name (Some b) view
