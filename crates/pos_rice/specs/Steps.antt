-- Rising numbers one after another, as a park is written and read.
use Rattle.std.specs.Prelude.{◌≡◌, ◌≢◌, ℕ, ◌+◌, ◌*◌, ◌^◌, ◌<◌, ◌≤◌, Bool, List, [], ◌∷◌, ◌++◌, length}
use Rattle.pos_bits.specs.Bits.{bits}
use Rattle.pos_rice.specs.Park.{steps_bits}

-- numbers that rise from n, none of them above the limit
abbrev pub RiseFrom : ℕ → ℕ → List ℕ → Type 0
RiseFrom limit n [] = Unit {0}
RiseFrom limit n (m ∷ ms) = (n < m) × (m ≤ limit) × RiseFrom limit m ms

-- the last of n and the numbers after it
abbrev pub last_from : ℕ → List ℕ → ℕ
last_from n [] = n
last_from n (m ∷ ms) = last_from m ms

-- the bits do not begin with a first number of 2k + 2 bits and a count of low bits that a park can have
abbrev pub NoHead : ℕ → List Bool → Type 0
NoHead k b =
    (n low : ℕ) (s : List Bool) → n < 2 ^ (2 * k + 2) → low < 2 * k + 2 → b ≢ bits n (2 * k + 2) ++ (bits low 7 ++ s)

-- the bits do not begin with the codes of so many numbers that rise from n, none of them above the limit
abbrev pub NoSteps : ℕ → ℕ → ℕ → ℕ → List Bool → Type 0
NoSteps low limit n count b =
    (ms : List ℕ) (s : List Bool) → length ms ≡ count → RiseFrom limit n ms → b ≢ steps_bits low n ms ++ s
