-- What is proved of numbering: how what is gathered grows place by place, and that what never falls rises or has a first
-- repetition.
use Rattle.std.specs.Prelude.{◌≡◌, ℕ, suc, ◌<◌, ◌≤◌, ◌⊎◌, Bool, true, false, List, [], ◌∷◌, ◌++◌, AllPairs}
use Rattle.pos_lists.specs.Numbering.{AreGathered, IsRepeated}

-- of no places nothing is gathered
abbrev pub NothingIsGathered : Type 0
NothingIsGathered = (marked : ℕ → Bool) (point : ℕ → ℕ) → AreGathered marked point 0 []

-- a marked place goes to the end, behind its point
abbrev pub APlaceIsGathered : Type 0
APlaceIsGathered = (marked : ℕ → Bool) (point : ℕ → ℕ) (high : ℕ) (xs : List (ℕ × ℕ)) → marked high ≡ true →
    AreGathered marked point high xs → AreGathered marked point (suc high) (xs ++ (point high, high) ∷ [])

-- and another is passed over
abbrev pub APlaceIsPassedOver : Type 0
APlaceIsPassedOver = (marked : ℕ → Bool) (point : ℕ → ℕ) (high : ℕ) (xs : List (ℕ × ℕ)) → marked high ≡ false →
    AreGathered marked point high xs → AreGathered marked point (suc high) xs

-- a list that never falls rises, or has a first repetition
abbrev pub RisesOrRepeats : Type 0
RisesOrRepeats = (ns : List ℕ) → AllPairs ◌≤◌ ns → AllPairs ◌<◌ ns ⊎ ((at : ℕ) × IsRepeated ns at)
