-- The targets of a left value, by places in their buckets, and the tables whose sums they are.
-- Source: the Construction document, "matching function", with B = 119, C = 127 and BC = 15113.
use Rattle.std.specs.Prelude.{◌≡◌, ℕ, ◌+◌, ◌*◌, ◌/◌, ◌%◌, ◌^◌, ◌<◌, List, length, slice_index}

-- the place in its bucket of the m-th target of a left value at this place, in a bucket of this parity
abbrev pub target_place : ℕ → ℕ → ℕ → ℕ
target_place parity place m = (place / 127 + m) % 119 * 127 + ((2 * m + parity) ^ 2 + place) % 127

-- the first part of a target by quotient and m
pub record AreHighs (highs : List ℕ) : Type 0 where
  pub count : length highs ≡ 182
  pub at : (i : ℕ) → i < 182 → slice_index highs i ≡ i % 119 * 127

-- the second part, a line of 64 for each parity and remainder
pub record AreLows (lows : List ℕ) : Type 0 where
  pub count : length lows ≡ 16256
  pub at : (i : ℕ) → i < 16256 →
      slice_index lows i ≡ ((2 * (i % 64) + i / 64 / 127) * (2 * (i % 64) + i / 64 / 127) + i / 64 % 127) % 127

-- both tables
pub record AreTargets (highs lows : List ℕ) : Type 0 where
  pub high_parts : AreHighs highs
  pub low_parts : AreLows lows
