-- The pairs of different numbers in order: the greater number decides, and then the lesser one.
-- Source: chiapos, `Encoding::LinePointToSquare`. All are plain counts, with no unit.
use Rattle.std.specs.Prelude.{ℕ, zero, suc, ◌+◌, nat_lt, if◌then◌else◌}

-- the pair that comes after a pair, the greater number first: the mate goes up, as far as below the greater number
unfoldable pub next_pair : ℕ × ℕ → ℕ × ℕ
next_pair p = if nat_lt (p.1 + 1) p.0 then (p.0, p.1 + 1) else (p.0 + 1, 0)

-- the pairs in order, the greater number first: (1, 0) (2, 0) (2, 1) (3, 0) and so on
unfoldable pub pair_at : ℕ → ℕ × ℕ
pair_at zero = (1, 0)
pair_at (suc s) = next_pair (pair_at s)

-- the greater number of the pair at this place
abbrev pub greater : ℕ → ℕ
greater s = (pair_at s).0

-- the lesser number of the pair at this place
abbrev pub lesser : ℕ → ℕ
lesser s = (pair_at s).1
