-- What is proved of the plot of an id: the pruned and renumbered tables are it, and there is only one.
use Rattle.std.specs.Prelude.{◌≡◌, ℕ, suc, ◌+◌, ◌-◌, ◌^◌, ◌≤◌, ◌<◌, ◌⊎◌, ◌↔◌, List, length, All}
use Rattle.pos_lists.specs.Pairs.{greater, lesser}
use Rattle.pos_order.specs.Order.{Below, plot_order}
use Rattle.pos_laws.specs.Tables.{Describes}
use Rattle.pos_lists.specs.TableLists.{TableLists}
use Rattle.pos_laws.specs.Kept.{IsKept, IsHalved}
use Rattle.pos_lists.specs.PlotLists.{PlotLists, count, number_at, NumbersRise}
use Rattle.pos_lists.specs.Trees.{tree, IsInRange}
use Rattle.pos_laws.specs.PlotOf.{PlotOf}
use Rattle.pos_laws.specs.Renumbering.{IsRelocated}

-- what is kept is exactly what comes by halving tuples of 64 that have a node
abbrev pub KeptIsHalved : Type 0
KeptIsHalved = (id : List ℕ) (k n : ℕ) (xs : List ℕ) → n ≤ 6 → IsKept id k n xs ↔ IsHalved id k (6 - n) n xs

-- the tables of an id, renumbered, are the plot of the id
abbrev pub RelocatedIsThePlot : Type 0
RelocatedIsThePlot = (ts : TableLists) (id : List ℕ) (k : ℕ) (p : PlotLists) (place : ℕ → ℕ → ℕ) → Describes ts id k →
    IsRelocated ts p place → p.id ≡ id → p.k ≡ k → length p.tables ≡ 7 → PlotOf p id k

-- and in range, where table 6 has at most 2 ^ (k + 1) numbers
abbrev pub RelocatedIsInRange : Type 0
RelocatedIsInRange = (ts : TableLists) (id : List ℕ) (k : ℕ) (p : PlotLists) (place : ℕ → ℕ → ℕ) → Describes ts id k →
    IsRelocated ts p place → p.k ≡ k → count p 6 ≤ 2 ^ (k + 1) → IsInRange p

-- every number of tables 1 to 5 is named by a number of the next table
abbrev pub NoneIsDead : Type 0
NoneIsDead = (p : PlotLists) (id : List ℕ) (k n i : ℕ) → PlotOf p id k → IsInRange p → n < 5 → i < count p (suc n) →
    (j : ℕ) × (j < count p (suc (suc n))) ×
    ((i ≡ lesser (number_at p (suc (suc n)) j)) ⊎ (i ≡ greater (number_at p (suc (suc n)) j)))

-- an id and a size have at most one plot
abbrev pub OnePlot : Type 0
OnePlot = (p q : PlotLists) (id : List ℕ) (k : ℕ) →
    PlotOf p id k → IsInRange p → PlotOf q id k → IsInRange q → p ≡ q

-- in any plot in range whose numbers rise, be it of an id or not, the trees of a table rise by place
abbrev pub TreesRiseByPlace : Type 0
TreesRiseByPlace = (p : PlotLists) (n i j : ℕ) → NumbersRise p → IsInRange p → n < 6 → i < j → j < count p (suc n) →
    Below (tree p (suc n) i) (tree p (suc n) j)

-- and they stand in plot order
abbrev pub TreesArePlotOrdered : Type 0
TreesArePlotOrdered = (p : PlotLists) (n i : ℕ) → NumbersRise p → IsInRange p → n < 6 → i < count p (suc n) →
    plot_order (suc n) (tree p (suc n) i) ≡ tree p (suc n) i

-- a tree of table n has 2 ^ n values
abbrev pub TreesHaveTheirLength : Type 0
TreesHaveTheirLength = (p : PlotLists) (n i : ℕ) → length (tree p n i) ≡ 2 ^ n

-- in any plot in range these are below 2 ^ k
abbrev pub TreeValuesAreBelow : Type 0
TreeValuesAreBelow = (p : PlotLists) (n i : ℕ) → IsInRange p → n < 6 → i < count p (suc n) →
    All (λ x. x < 2 ^ p.k) (tree p (suc n) i)

-- the numbers of the plot of an id rise in every table
abbrev pub PlotNumbersRise : Type 0
PlotNumbersRise = (p : PlotLists) (id : List ℕ) (k : ℕ) → PlotOf p id k → IsInRange p → NumbersRise p
