-- Square roots of whole numbers, rounded down.
use Rattle.std.specs.Prelude.{◌≡◌, ℕ, ◌+◌, ◌*◌, ◌≤◌}

-- the root is the greatest number whose square is at most n, and the rest is what the square leaves of n:
-- the next square is larger by twice the root and one
pub record IsRoot (n root rest : ℕ) : Type 0 where
  pub value : root * root + rest ≡ n
  pub rest_le : rest ≤ 2 * root
