-- What a writer of bits keeps. No public clause speaks of it.
use Rattle.std.specs.Prelude.{ℕ, ◌^◌, ◌<◌, ◌≤◌}

-- a number of fewer than 64 bits; where it has any, there is room in bytes for a word of 64
pub record IsTail (rest fill room : ℕ) : Type 0 where
  pub fill_below : fill < 64
  pub rest_below : rest < 2 ^ fill
  pub has_room : 0 < fill → 8 ≤ room
