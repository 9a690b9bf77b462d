-- Places in a list, and numbers of two, four and eight bytes, the first byte on top.
-- Source: this project's plot file format. Places and lengths of a file are in bytes.
use Rattle.std.specs.Prelude.{ℕ, List, take, drop}
use Rattle.std.specs.Int.{w16, w32, w64, to_be_bytes, from_be_bytes}

-- so many elements from a place on
unfoldable pub part : {X : Type 0} → List X → ℕ → ℕ → List X
part xs at n = take n (drop at xs)

-- the two, the four and the eight bytes of a number
unfoldable pub two : ℕ → List ℕ
two n = to_be_bytes w16 n

unfoldable pub four : ℕ → List ℕ
four n = to_be_bytes w32 n

unfoldable pub eight : ℕ → List ℕ
eight n = to_be_bytes w64 n

-- the number that stands in two, in four and in eight bytes from a place on
unfoldable pub two_at : List ℕ → ℕ → ℕ
two_at b at = from_be_bytes w16 (part b at 2)

unfoldable pub four_at : List ℕ → ℕ → ℕ
four_at b at = from_be_bytes w32 (part b at 4)

unfoldable pub eight_at : List ℕ → ℕ → ℕ
eight_at b at = from_be_bytes w64 (part b at 8)
