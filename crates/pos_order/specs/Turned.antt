-- Which turnings of a tuple have a node in a table. Source: the Construction document, "proving"; chiapos, `Prover`.
-- Level n has 2 ^ n values; its entries are those of table n + 1.
use Rattle.std.specs.Prelude.{◌≡◌, ℕ, List, Some, None}
use Rattle.pos_tuple.specs.declared.entry.Entry.{Entry}
use Rattle.pos_tuple.specs.Node.{node}
use Rattle.pos_order.specs.Order.{Turning}

-- zs is the tuple xs, turned, and has this entry
pub record IsTurnedTo (id : List ℕ) (k n : ℕ) (xs zs : List ℕ) (e : Entry) : Type 0 where
  pub turned : Turning n zs xs
  pub found : node id k n zs ≡ Some e

-- no turning of xs has an entry
abbrev pub HasNoTurning : List ℕ → ℕ → ℕ → List ℕ → Type 0
HasNoTurning id k n xs = (zs : List ℕ) → Turning n zs xs → node id k n zs ≡ None
