-- Parks: rising numbers as bytes, in one spelling only. All of it is this project's own.
-- k is the size of the plot; numbers are line points or numbers of table 7, with no unit; bit strings have their first bit on top.
use Rattle.std.specs.Prelude.{◌≡◌, ℕ, suc, ◌+◌, ◌-◌, ◌*◌, ◌/◌, ◌^◌, ◌<◌, ◌≤◌, All, Bool, List, [], ◌∷◌, ◌++◌, length, slice_index}
use Rattle.std.specs.List.Sorted.{IsStrictlyIncreasing}
use Rattle.pos_bits.specs.Bits.{bits, bytes}
use Rattle.pos_bits.specs.Codes.{code_bits}
use Rattle.pos_rice.specs.declared.TheConstants.{MOST_NUMBERS}

-- numbers that a park can hold: at least one and not too many, rising, each of 2k + 2 bits
pub record AreNumbers (k : ℕ) (ns : List ℕ) : Type 0 where
  pub some : 1 ≤ length ns
  pub few : length ns ≤ MOST_NUMBERS
  pub rising : IsStrictlyIncreasing ns
  pub below : All (λ n. n < 2 ^ (2 * k + 2)) ns

-- the mean difference of numbers that rise, rounded down
abbrev pub mean_step : List ℕ → ℕ
mean_step ns = (slice_index ns (length ns - 1) - slice_index ns 0) / (length ns - 1)

-- how many low bits of each difference a park writes as they stand: one fewer than the mean difference has binary
-- digits, or 0 where there is one number alone
pub record IsLow (ns : List ℕ) (low : ℕ) : Type 0 where
  pub alone : length ns ≡ 1 → low ≡ 0
  pub digits : 1 < length ns → (2 ^ low ≤ mean_step ns) × (mean_step ns < 2 ^ suc low)

-- the codes of the numbers that come after n, each as how many numbers it leaves out after the one before it
unfoldable pub steps_bits : ℕ → ℕ → List ℕ → List Bool
steps_bits low n [] = []
steps_bits low n (m ∷ ms) = code_bits low (m - n - 1) ++ steps_bits low m ms

-- the bit string of a park: the first number in 2k + 2 bits, the count of low bits in 7 bits, and the code of each further number
unfoldable pub park_bits : ℕ → ℕ → List ℕ → List Bool
park_bits k low [] = []
park_bits k low (n ∷ ns) = bits n (2 * k + 2) ++ bits low 7 ++ steps_bits low n ns

-- these bytes are the park of these numbers at size k
pub record Park (k : ℕ) (ns s : List ℕ) : Type 0 where
  pub numbers : AreNumbers k ns
  pub low : ℕ
  pub low_is : IsLow ns low
  pub bytes_are : s ≡ bytes (park_bits k low ns)
