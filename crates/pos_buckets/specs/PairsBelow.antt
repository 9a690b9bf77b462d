-- The matching pairs that were listed so far: those below a point, where a pair's point gives its place in the order.
use Rattle.std.specs.Prelude.{◌≡◌, ℕ, ◌+◌, ◌-◌, ◌*◌, ◌/◌, ◌%◌, ◌^◌, ◌<◌, List, length, slice_index, All, AllPairs, Contains}
use Rattle.std.specs.List.Sorted.{IsNonDecreasing}
use Rattle.pos_tuple.specs.Match.{bucket}
use Rattle.pos_buckets.specs.Pairs.{IsPair}
use Rattle.pos_buckets.specs.Places.{AreInside}
use Rattle.pos_buckets.specs.Targets.{target_place}

-- the only m with which a right value can be a target of a left one, by their quotients
abbrev pub only_target : ℕ → ℕ → ℕ
only_target yl yr = (yr % 15113 / 127 + 119 - yl % 15113 / 127) % 119

-- left place, then m, then right place, as one number
abbrev pub point : ℕ → ℕ → ℕ → ℕ
point i m j = (i * 64 + m) * 2 ^ 64 + j

-- the point of a pair
abbrev pub pair_point : List ℕ → List ℕ → ℕ × ℕ → ℕ
pair_point left right p = point p.0 (only_target (slice_index left p.0) (slice_index right p.1)) p.1

-- the left values are in the bucket before base, the right ones rise in the bucket from base on
pub record AreBeside (base : ℕ) (left right : List ℕ) : Type 0 where
  pub lefts : (i : ℕ) → i < length left → (bucket (slice_index left i) + 1) * 15113 ≡ base
  pub rights : AreInside base right
  pub rise : IsNonDecreasing right

-- these are all the matching pairs below a point, in order
pub record ArePairsBelow (left right : List ℕ) (n : ℕ) (pairs : List (ℕ × ℕ)) : Type 0 where
  pub each : All (IsPair left right) pairs
  pub below : All (λ p. pair_point left right p < n) pairs
  pub all : (p : ℕ × ℕ) → IsPair left right p → pair_point left right p < n → Contains pairs p
  pub order : AllPairs (λ p q. pair_point left right p < pair_point left right q) pairs

-- the values of a rising list that are this target, which is the m-th of a left value, begin at first
pub record IsRun (target first m yl : ℕ) (right : List ℕ) : Type 0 where
  pub is_target : target ≡ (bucket yl + 1) * 15113 + target_place (bucket yl % 2) (yl % 15113) m
  pub inside : first < length right
  pub first_is : slice_index right first ≡ target
  pub before : (j : ℕ) → j < first → slice_index right j < target
  pub rise : IsNonDecreasing right
  pub next : (j : ℕ) → j < length right → bucket (slice_index right j) ≡ bucket yl + 1
