-- Ranks: how many places below one are marked; and the place that a list of pairs gives for a rank.
-- Source: this project's own. Places count from 0.
use Rattle.std.specs.Prelude.{ℕ, zero, suc, ◌+◌, Bool, List, slice_index_or, if◌then◌else◌}

-- how many places below i the test gives
unfoldable pub rank : (ℕ → Bool) → ℕ → ℕ
rank p zero = 0
rank p (suc i) = rank p i + (if p i then 1 else 0)

-- the first and the second number of a pair in a list of pairs
abbrev pub first_in : List (ℕ × ℕ) → ℕ → ℕ
first_in xs i = (slice_index_or xs i (0, 0)).0

abbrev pub second_in : List (ℕ × ℕ) → ℕ → ℕ
second_in xs i = (slice_index_or xs i (0, 0)).1

-- the new place of an old one, where moved has the marked places, by rising place, each with its new place: it stands at
-- the rank of the old one
abbrev pub new_place : (ℕ → Bool) → List (ℕ × ℕ) → ℕ → ℕ
new_place p moved i = second_in moved (rank p i)
