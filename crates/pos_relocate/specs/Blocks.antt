-- Numbered pairs of a table, a block at a time.
-- Source: this project's own; the points are of the Construction document, "sort on line points".
-- A run's tables count from 1 to 7, levels from 0 to 6: table t has level t - 1. Places count from 0.
use Rattle.std.specs.Prelude.{◌≡◌, ◌≢◌, ℕ, ◌+◌, ◌-◌, ◌^◌, ◌<◌, ◌≤◌, ◌⊎◌, Bool, true, List, All, Contains, Some, length, map, slice_get, slice_index}
use Rattle.pos_edge.specs.View.{View}
use Rattle.pos_edge.specs.declared.scratch.WorkFault.{WorkFault}
use Rattle.pos_edge.specs.declared.scratch.WorkFault.TheVariants.{Memory, Scratch}
use Rattle.pos_lists.specs.TableLists.{TableLists, entries, pairs_of}
use Rattle.pos_points.specs.Points.{point_of}
use Rattle.pos_record.specs.Fields.{IsRecordSize}
use Rattle.pos_runs.specs.Runs.{TablesState, TablesStand}
use Rattle.pos_relocate.specs.declared.blocks.Unpacked.{Unpacked}

-- Pairs of table t can be unpacked and get points: the tables stand, and the numbers of the table below have k + 1 bits.
pub record CanUnpack (k t : ℕ) (below : List ℕ) (tables : TablesState) (view : View) : Type 0 where
  pub size : IsRecordSize k
  pub first : 2 ≤ t
  pub last : t ≤ 7
  pub stands : (ts : TableLists) × TablesStand k tables ts view
  pub small : (i : ℕ) → i < length below → slice_index below i < 2 ^ (k + 1)

-- a pair's place behind its point over these numbers of the table below
abbrev pub pointed_over : List ℕ → Unpacked → ℕ × ℕ
pointed_over below pair = (point_of (slice_index below pair.left) (slice_index below pair.right), pair.old)

-- so of each pair
abbrev pub pointed_of : List ℕ → List Unpacked → List (ℕ × ℕ)
pointed_of below pairs = map (pointed_over below) pairs

-- both places of each pair are below a count
abbrev pub AreInside : ℕ → List Unpacked → Type 0
AreInside count pairs = All (λ pair. (pair.left < count) × (pair.right < count)) pairs

-- each is a numbered pair of table t, as it stands there
abbrev pub AreOf : TableLists → ℕ → (ℕ → Bool) → List Unpacked → Type 0
AreOf ts t p pairs = All (λ pair. (p pair.old ≡ true) × (pair.old < entries ts (t - 1)) × (slice_get (pairs_of ts (t - 1)) pair.old ≡ Some (pair.left, pair.right))) pairs

-- the two numbers of each pair differ
abbrev pub AreApartOver : List ℕ → List Unpacked → Type 0
AreApartOver below pairs = All (λ pair. slice_index below pair.left ≢ slice_index below pair.right) pairs

-- The memory was wanting, or both places of one of the pairs have one number: the damage names the right one, with that number.
abbrev pub IsPointFault : ℕ → ℕ → List ℕ → List Unpacked → WorkFault → Type 0
IsPointFault limit file below pairs fault =
    (fault ≡ Memory)
    ⊎ ((pair : Unpacked) × Contains pairs pair × (slice_index below pair.left ≡ slice_index below pair.right)
    × (fault ≡ Scratch (record { file = file; at = pair.right; found = slice_index below pair.right; least = slice_index below pair.right + 1; limit = limit })))
