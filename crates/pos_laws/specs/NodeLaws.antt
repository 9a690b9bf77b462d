-- What is proved of matching and of nodes: no pair matches both ways, and a node's parts have their sizes.
use Rattle.std.specs.Prelude.{◌≡◌, ℕ, ◌+◌, ◌*◌, ◌^◌, ◌≤◌, ◌<◌, List, length, All, Some}
use Rattle.pos_tuple.specs.declared.entry.Entry.{Entry}
use Rattle.pos_tuple.specs.Match.{Match}
use Rattle.pos_tuple.specs.Node.{metadata_units, node}
use Rattle.pos_laws.specs.Tables.{HasNode}

-- a right value matches no left value back
abbrev pub MatchGoesOneWay : Type 0
MatchGoesOneWay = (y z : ℕ) → Match y z → Match z y → ⊥

-- a tuple with a node at level n has 2 ^ n values
abbrev pub NodesHaveTheirLength : Type 0
NodesHaveTheirLength = (id : List ℕ) (k n : ℕ) (xs : List ℕ) → HasNode id k n xs → length xs ≡ 2 ^ n

-- each value of such a tuple is below 2 ^ k
abbrev pub NodeValuesAreBelow : Type 0
NodeValuesAreBelow = (id : List ℕ) (k n : ℕ) (xs : List ℕ) → HasNode id k n xs → All (λ x. x < 2 ^ k) xs

-- the y of a node has k + 6 bits
abbrev pub NodesHaveTheirBits : Type 0
NodesHaveTheirBits = (id : List ℕ) (k n : ℕ) (xs : List ℕ) (e : Entry) → node id k n xs ≡ Some e → e.y < 2 ^ (k + 6)

-- the metadata of a node has, for sizes up to 50, the bits of its table
abbrev pub NodesHaveTheirMetadata : Type 0
NodesHaveTheirMetadata = (id : List ℕ) (k n : ℕ) (xs : List ℕ) (e : Entry) → k ≤ 50 → n ≤ 6 →
    node id k n xs ≡ Some e → length e.meta ≡ k * metadata_units (n + 1)
