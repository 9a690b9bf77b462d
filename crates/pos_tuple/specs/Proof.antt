-- What a proof of space is. Source: the Construction document, "proof of space".
-- An id and a challenge are lists of 32 bytes, a size k is a number from 10 to 50.
use Rattle.std.specs.Prelude.{◌≡◌, ℕ, ◌/◌, List, length, take, Option, Some}
use Rattle.std.specs.Option.{option_map}
use Rattle.pos_bits.specs.Bits.{number, bits_of}
use Rattle.pos_tuple.specs.declared.entry.Entry.{Entry}
use Rattle.pos_tuple.specs.Node.{node}

-- the number that the first k bits of the challenge write
unfoldable pub challenge_value : ℕ → List ℕ → ℕ
challenge_value k c = number (take k (bits_of c))

-- the first k bits of the k + 6 bits of a y
abbrev pub f7_of : Entry → ℕ
f7_of e = e.y / 64

-- the f7 of a tuple of 64 values, if it has a node in table 7
unfoldable pub f7 : List ℕ → ℕ → List ℕ → Option ℕ
f7 id k xs = option_map f7_of (node id k 6 xs)

-- these 64 values are a proof of the plot of this id and size for this challenge
pub record Proof (id : List ℕ) (k : ℕ) (c xs : List ℕ) : Type 0 where
  pub values : length xs ≡ 64
  pub answers : f7 id k xs ≡ Some (challenge_value k c)
