-- The matching pairs of two lists of values, as pairs of places, and their order.
use Rattle.std.specs.Prelude.{◌≡◌, ℕ, ◌+◌, ◌<◌, ◌⊎◌, List, length, slice_index, All, AllPairs, Contains}
use Rattle.pos_tuple.specs.Match.{bucket, IsTarget, Match}

-- the right values are in the bucket behind that of the left values; where one list is empty, the other is free
abbrev pub AreNeighbours : List ℕ → List ℕ → Type 0
AreNeighbours left right = (i j : ℕ) → i < length left → j < length right →
    bucket (slice_index right j) ≡ bucket (slice_index left i) + 1

-- a left and a right place whose values match
pub record IsPair (left right : List ℕ) (pair : ℕ × ℕ) : Type 0 where
  pub left_in : pair.0 < length left
  pub right_in : pair.1 < length right
  pub matching : Match (slice_index left pair.0) (slice_index right pair.1)

-- the right value is the m-th target of the left one
abbrev pub MatchesBy : List ℕ → List ℕ → ℕ × ℕ → ℕ → Type 0
MatchesBy left right pair m = (m < 64) × IsTarget (slice_index left pair.0) (slice_index right pair.1) m

-- the order of pairs: by left place, then by m, then by right place
abbrev pub ComesBefore : List ℕ → List ℕ → ℕ × ℕ → ℕ × ℕ → Type 0
ComesBefore left right p q =
    (p.0 < q.0)
    ⊎ ((p.0 ≡ q.0)
    × ((m n : ℕ) → MatchesBy left right p m → MatchesBy left right q n → (m < n) ⊎ ((m ≡ n) × (p.1 < q.1))))

-- these are all the matching pairs, in order; so each stands there once
pub record ArePairs (left right : List ℕ) (pairs : List (ℕ × ℕ)) : Type 0 where
  pub each : All (IsPair left right) pairs
  pub all : (p : ℕ × ℕ) → IsPair left right p → Contains pairs p
  pub order : AllPairs (ComesBefore left right) pairs
