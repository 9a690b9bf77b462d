-- Numbering the marked places of one level by rising point: gathered by place, sorted by point, and each place's new
-- number. Here a list of pairs has points first and places second; point gives the point of a place.
-- Source: the Construction document, "sort on line points". Places and new numbers count from 0.
use Rattle.std.specs.Prelude.{◌≡◌, ℕ, ◌-◌, ◌<◌, Bool, true, List, length, slice_index, AllPairs, Contains}
use Rattle.std.specs.List.Sorted.{IsPermutation}
use Rattle.pos_lists.specs.Rank.{first_in, second_in}

-- xs has exactly the marked places below high, by rising place, each behind its point
pub record AreGathered (marked : ℕ → Bool) (point : ℕ → ℕ) (high : ℕ) (xs : List (ℕ × ℕ)) : Type 0 where
  pub rise : AllPairs (λ a b. a.1 < b.1) xs
  pub all : (i : ℕ) → i < high → marked i ≡ true → Contains xs (point i, i)
  pub below : (s : ℕ) → s < length xs → second_in xs s < high
  pub only : (s : ℕ) → s < length xs → marked (second_in xs s) ≡ true
  pub points : (s : ℕ) → s < length xs → first_in xs s ≡ point (second_in xs s)

-- places gives each place of the sorted list its new number, which is where it stands there
abbrev pub AreMoved : List (ℕ × ℕ) → List ℕ → Type 0
AreMoved pointed places = (s : ℕ) → s < length pointed → slice_index places (second_in pointed s) ≡ s

-- what was gathered, sorted by strictly rising point, with the new numbers by old place
pub record AreNumbered (gathered pointed : List (ℕ × ℕ)) (places : List ℕ) : Type 0 where
  pub permuted : IsPermutation gathered pointed
  pub rise : AllPairs (λ a b. a.0 < b.0) pointed
  pub moved : AreMoved pointed places

-- the number at this place is the one before it, and the numbers up to there rise: the first repetition
pub record IsRepeated (ns : List ℕ) (at : ℕ) : Type 0 where
  pub after : 0 < at
  pub inside : at < length ns
  pub same : slice_index ns at ≡ slice_index ns (at - 1)
  pub rise : (i j : ℕ) → i < j → j < at → slice_index ns i < slice_index ns j
