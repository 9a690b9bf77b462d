-- Line points: a pair of different numbers as one number, which keeps the order of pairs.
-- Source: chiapos, `Encoding::SquareToLinePoint` and `Encoding::LinePointToSquare`. All are plain counts, with no unit.
use Rattle.std.specs.Prelude.{ℕ, ◌+◌, ◌-◌, ◌*◌, ◌/◌, nat_lt, if◌then◌else◌}

-- the line point of a pair, the greater number first: the pairs below it are those of two numbers
-- below the greater one, which are half of a * (a - 1), and those of the greater one with a lesser mate
unfoldable pub line_point : ℕ → ℕ → ℕ
line_point a b = a * (a - 1) / 2 + b

-- the line point of two different numbers, in either order
unfoldable pub point_of : ℕ → ℕ → ℕ
point_of x y = if nat_lt x y then line_point y x else line_point x y
