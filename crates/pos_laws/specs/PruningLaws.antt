-- What is proved of pruning: over the tables of an id it keeps exactly the kept tuples.
use Rattle.std.specs.Prelude.{◌≡◌, ℕ, ◌≤◌, ◌↔◌, List}
use Rattle.pos_laws.specs.Tables.{Describes}
use Rattle.pos_lists.specs.TableLists.{TableLists, tuple}
use Rattle.pos_laws.specs.Kept.{IsKept}
use Rattle.pos_lists.specs.Used.{IsUsed}

-- over the tables of an id, the used places stand for exactly the kept tuples
abbrev pub UsedIsKept : Type 0
UsedIsKept = (ts : TableLists) (id : List ℕ) (k n : ℕ) (xs : List ℕ) → n ≤ 6 → Describes ts id k →
    IsKept id k n xs ↔ ((i : ℕ) × IsUsed ts n i × (tuple ts n i ≡ xs))
