-- What is proved of ranks: in a rising list of the marked places each stands at its rank.
use Rattle.std.specs.Prelude.{◌≡◌, ℕ, ◌≤◌, ◌<◌, Bool, true, List, length, AllPairs}
use Rattle.pos_lists.specs.Rank.{rank, first_in}

-- a rank is at most its place
abbrev pub RanksAreBelow : Type 0
RanksAreBelow = (p : ℕ → Bool) (i : ℕ) → rank p i ≤ i

-- and the place itself where every place below is marked
abbrev pub RanksOfAll : Type 0
RanksOfAll = (p : ℕ → Bool) (i : ℕ) → ((j : ℕ) → j < i → p j ≡ true) → rank p i ≡ i

-- in a list by rising first number, whose first numbers are exactly the marked places, the one of a marked place
-- stands at its rank
abbrev pub RanksAreIndices : Type 0
RanksAreIndices = (p : ℕ → Bool) (moved : List (ℕ × ℕ)) → AllPairs (λ a b. a.0 < b.0) moved →
    ((r : ℕ) → r < length moved → p (first_in moved r) ≡ true) →
    ((i : ℕ) → p i ≡ true → (r : ℕ) × (r < length moved) × (first_in moved r ≡ i)) →
    (i : ℕ) → p i ≡ true → (rank p i < length moved) × (first_in moved (rank p i) ≡ i)
