-- What is proved of all that the other laws speak of: that it is there. Each id and each size has its tables;
-- and where not too many tuples of 64 have a node, it has its plot, and each challenge its list of proofs.
use Rattle.std.specs.Prelude.{ℕ, ◌+◌, ◌^◌, ◌≤◌, ◌<◌, List}
use Rattle.pos_laws.specs.Tables.{Describes}
use Rattle.pos_lists.specs.TableLists.{TableLists}
use Rattle.pos_laws.specs.Making.{IsAbove}
use Rattle.pos_lists.specs.PlotLists.{PlotLists, count}
use Rattle.pos_lists.specs.Trees.{IsInRange}
use Rattle.pos_laws.specs.PlotOf.{PlotOf}
use Rattle.pos_laws.specs.Renumbering.{IsRelocated}
use Rattle.pos_laws.specs.Listing.{Lists, AreTurned}

-- each id and each size has tables that describe it
abbrev pub TablesAreThere : Type 0
TablesAreThere = (id : List ℕ) (k : ℕ) → (ts : TableLists) × Describes ts id k

-- these tables can be renumbered, where there are no more than 2 ^ (k + 1) tuples of 64 with a node
abbrev pub RenumberingIsThere : Type 0
RenumberingIsThere = (ts : TableLists) (id : List ℕ) (k : ℕ) → Describes ts id k → (IsAbove id k 6 (2 ^ (k + 1)) → ⊥) →
    (p : PlotLists) × (place : ℕ → ℕ → ℕ) ×
    IsRelocated ts p place × PlotOf p id k × IsInRange p × (count p 6 ≤ 2 ^ (k + 1))

-- so the id has its plot
abbrev pub PlotIsThere : Type 0
PlotIsThere = (id : List ℕ) (k : ℕ) → (IsAbove id k 6 (2 ^ (k + 1)) → ⊥) →
    (p : PlotLists) × PlotOf p id k × IsInRange p × (count p 6 ≤ 2 ^ (k + 1))

-- over a plot each tuple of a listing can be turned, and so each challenge has its list
abbrev pub ListIsThere : Type 0
ListIsThere = (p : PlotLists) (id : List ℕ) (k : ℕ) (c : List ℕ) → PlotOf p id k → count p 6 ≤ 2 ^ (k + 1) →
    (out : List (List ℕ)) × AreTurned p c out × Lists id k c out

-- for a size up to 7 no two values match, so that the premise on proofs holds of every id
abbrev pub SmallSizesAreNeverAbove : Type 0
SmallSizesAreNeverAbove = (id : List ℕ) (k n c : ℕ) → k ≤ 7 → 0 < n → IsAbove id k n c → ⊥
