-- What is proved of the pairs in order.
use Rattle.std.specs.Prelude.{ℕ, ◌<◌}
use Rattle.pos_lists.specs.Pairs.{greater, lesser}

-- each has its greater number first
abbrev pub PairsAreInOrder : Type 0
PairsAreInOrder = (s : ℕ) → lesser s < greater s
