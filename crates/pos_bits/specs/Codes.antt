-- The code of a number in two parts: the first by its length, the second as it stands. All of it is this project's own.
use Rattle.std.specs.Prelude.{ℕ, ◌/◌, ◌%◌, ◌^◌, Bool, true, false, List, ◌∷◌, ◌++◌, replicate}
use Rattle.pos_bits.specs.Bits.{bits}

-- the code of n with so many low bits: as many 1 bits as n has in its part above them, a 0 bit, and the low bits
unfoldable pub code_bits : ℕ → ℕ → List Bool
code_bits low n = replicate (n / 2 ^ low) true ++ false ∷ bits (n % 2 ^ low) low
