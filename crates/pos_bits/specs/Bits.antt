-- Bit strings and their bytes. Source: chiapos, `Bits` and `Bits::ToBytes`.
-- A bit string is a list of bits, the first one the most significant. A byte is a number below 256.
use Rattle.std.specs.Prelude.{ℕ, zero, suc, ◌+◌, ◌*◌, ◌/◌, ◌%◌, ◌^◌, ◌<◌, ◌==◌, All, Bool, false, if◌then◌else◌, List, [], ◌∷◌, ◌++◌, length, take, drop, replicate}

-- the low w binary digits of v, the top one first
unfoldable pub bits : ℕ → ℕ → List Bool
bits v zero = []
bits v (suc w) = (v / 2 ^ w % 2 == 1) ∷ bits v w

-- a bit as a number
abbrev pub digit : Bool → ℕ
digit b = if b then 1 else 0

-- the number that a bit string writes
unfoldable pub number : List Bool → ℕ
number [] = 0
number (b ∷ s) = digit b * 2 ^ length s + number s

-- so many bytes: eight bits of the string for each, and 0 bits past its end
unfoldable pub bytes_for : ℕ → List Bool → List ℕ
bytes_for zero s = []
bytes_for (suc n) s = number (take 8 (s ++ replicate 8 false)) ∷ bytes_for n (drop 8 s)

-- how many bytes hold so many bits
abbrev pub byte_count : ℕ → ℕ
byte_count n = (n + 7) / 8

-- the bytes whose bits, top bit first, are the string followed by fewer than eight 0 bits
abbrev pub bytes : List Bool → List ℕ
bytes s = bytes_for (byte_count (length s)) s

-- the bits of bytes, first byte first, top bit first
unfoldable pub bits_of : List ℕ → List Bool
bits_of [] = []
bits_of (b ∷ bs) = bits b 8 ++ bits_of bs

-- numbers that are bytes
abbrev pub AreBytes : List ℕ → Type 0
AreBytes bs = All (λ b. b < 256) bs
