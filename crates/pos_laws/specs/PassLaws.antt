-- What is proved of the passes over the tables as a whole: level by level they give the plot of the id.
use Rattle.std.specs.Prelude.{◌≡◌, ℕ, suc, ◌+◌, ◌^◌, ◌≤◌, List, [], ◌∷◌, ◌++◌, slice_index}
use Rattle.pos_lists.specs.TableLists.{TableLists}
use Rattle.pos_lists.specs.PlotLists.{PlotLists, count}
use Rattle.pos_lists.specs.Trees.{IsInRange}
use Rattle.pos_laws.specs.Tables.{Describes}
use Rattle.pos_laws.specs.PlotOf.{PlotOf}
use Rattle.pos_laws.specs.Renumbering.{IsRenumbered, IsLastTable, IsRelocated, AreRenumbered, with_places, plot_with}

-- before the first pass the places of level 0 are the values
abbrev pub NothingIsRenumbered : Type 0
NothingIsRenumbered = (ts : TableLists) → AreRenumbered ts 0 (λ n. slice_index ts.values) []

-- a pass adds one level
abbrev pub ALevelIsRenumbered : Type 0
ALevelIsRenumbered = (ts : TableLists) (m : ℕ) (place : ℕ → ℕ → ℕ) (lists : List (List ℕ)) (new : ℕ → ℕ) (points : List ℕ) →
    AreRenumbered ts m place lists → IsRenumbered ts m (place m) new points →
    AreRenumbered ts (suc m) (with_places (suc m) new place) (lists ++ points ∷ [])

-- six of them, and the last table, relocate the tables
abbrev pub SixPassesRelocate : Type 0
SixPassesRelocate = (ts : TableLists) (p : PlotLists) (place : ℕ → ℕ → ℕ) (lists : List (List ℕ)) (last : List ℕ) →
    AreRenumbered ts 6 place lists → IsLastTable ts p.k (place 6) last → p.tables ≡ lists ++ last ∷ [] → IsRelocated ts p place

-- so over the tables of an id their lists are the plot of the id, and in range where table 6 has at most 2 ^ (k + 1) numbers
abbrev pub SixPassesGiveThePlot : Type 0
SixPassesGiveThePlot = (ts : TableLists) (id : List ℕ) (k : ℕ) (place : ℕ → ℕ → ℕ) (lists : List (List ℕ)) (last : List ℕ) →
    Describes ts id k → AreRenumbered ts 6 place lists → IsLastTable ts k (place 6) last →
    PlotOf (plot_with id k (lists ++ last ∷ [])) id k
    × (count (plot_with id k (lists ++ last ∷ [])) 6 ≤ 2 ^ (k + 1) → IsInRange (plot_with id k (lists ++ last ∷ [])))
