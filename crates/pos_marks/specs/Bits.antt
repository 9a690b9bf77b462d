-- The bits of a byte and of bytes, the lowest bit of each byte first. Places of bits count from 0.
use Rattle.std.specs.Prelude.{ℕ, ◌/◌, ◌%◌, ◌==◌, ◌+◌, ◌*◌, ◌<◌, ◌≡◌, Bool, List, length, slice_index}
use Rattle.std.specs.Int.{bit_at}
use Rattle.pos_lists.specs.Rank.{rank}

-- bit i of this number is set
unfoldable pub is_set : ℕ → ℕ → Bool
is_set n i = bit_at n i == 1

-- bit i of these bytes is set; past their end none is
unfoldable pub has_bit : List ℕ → ℕ → Bool
has_bit bytes i = is_set (slice_index bytes (i / 8)) (i % 8)

-- the counts of the bits that are set before each multiple of 512 bytes
pub record AreRankCounts (bytes counts : List ℕ) : Type 0 where
  pub count : length counts ≡ length bytes / 512 + 1
  pub each : (j : ℕ) → j < length counts → slice_index counts j ≡ rank (has_bit bytes) (4096 * j)
