-- Which tuples a plot keeps: those that are a part of a tuple of 64 values with a node.
-- Source: the Construction document, "back propagation".
use Rattle.std.specs.Prelude.{◌≡◌, ℕ, zero, suc, ◌*◌, ◌-◌, ◌^◌, ◌<◌, ◌⊎◌, List, take, drop}
use Rattle.pos_laws.specs.Tables.{HasNode}

-- xs are the 2 ^ n values from place a * 2 ^ n on of zs
abbrev pub IsPart : ℕ → ℕ → List ℕ → List ℕ → Type 0
IsPart n a xs zs = xs ≡ take (2 ^ n) (drop (a * 2 ^ n) zs)

-- at a level n from 0 to 6: xs stands at an aligned place of 64 values that have a node
abbrev pub IsKept : List ℕ → ℕ → ℕ → List ℕ → Type 0
IsKept id k n xs = (zs : List ℕ) × (a : ℕ) × (a < 2 ^ (6 - n)) × HasNode id k 6 zs × IsPart n a xs zs

-- the same level by level, from n + d down to n: xs is a half of a half .. of 2 ^ (n + d) values with a node
unfoldable pub IsHalved : List ℕ → ℕ → ℕ → ℕ → List ℕ → Type 0
IsHalved id k zero n xs = HasNode id k n xs
IsHalved id k (suc d) n xs =
    (ys : List ℕ) × IsHalved id k d (suc n) ys × ((xs ≡ take (2 ^ n) ys) ⊎ (xs ≡ drop (2 ^ n) ys))
