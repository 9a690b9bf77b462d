-- The numbers of a park as a function of its bytes, for those who speak of what stands in a file. A law says that it is the
-- one list of so many numbers whose park the bytes are, and nothing where there is no such list, so the relation `Park`
-- says all that is to be believed.
use Rattle.std.specs.Prelude.{ℕ, zero, suc, ◌+◌, ◌*◌, ◌^◌, nat_eq, nat_le, nat_lt, Bool, true, false, ◌&&◌, if◌then◌else◌, List, [], ◌∷◌, length, take, drop, Option, Some, None}
use Rattle.std.specs.Str.{bytes_eq}
use Rattle.pos_bits.specs.Bits.{bits_of, bytes, number}
use Rattle.pos_rice.specs.declared.TheConstants.{MOST_NUMBERS}
use Rattle.pos_rice.specs.Park.{mean_step, park_bits}

-- how many 1 bits a string begins with
unfoldable pub ones : List Bool → ℕ
ones [] = 0
ones (true ∷ s) = suc (ones s)
ones (false ∷ s) = 0

-- the string after its 1 bits and the 0 bit that ends them
abbrev pub after_ones : List Bool → List Bool
after_ones s = drop (suc (ones s)) s

-- so many numbers after n, whose codes stand in the string
unfoldable pub numbers_after : ℕ → ℕ → ℕ → List Bool → List ℕ
numbers_after low n zero s = []
numbers_after low n (suc c) s =
    let m = n + (ones s * 2 ^ low + number (take low (after_ones s))) + 1 in
    m ∷ numbers_after low m c (drop low (after_ones s))

-- the count of low bits in the bits of a park
abbrev pub low_in : ℕ → List Bool → ℕ
low_in k b = number (take 7 (drop (2 * k + 2) b))

-- so many numbers that the bits give, whether or not they are those of a park
unfoldable pub numbers_given : ℕ → ℕ → List Bool → List ℕ
numbers_given k zero b = []
numbers_given k (suc c) b =
    let n = number (take (2 * k + 2) b) in
    n ∷ numbers_after (low_in k b) n c (drop 7 (drop (2 * k + 2) b))

-- whether numbers rise from n and stay below the limit
unfoldable pub rises_below : ℕ → ℕ → List ℕ → Bool
rises_below limit n [] = nat_lt n limit
rises_below limit n (m ∷ ms) = nat_lt n m && rises_below limit m ms

-- whether numbers are such that a park can hold them
unfoldable pub are_numbers : ℕ → List ℕ → Bool
are_numbers k [] = false
are_numbers k (n ∷ ms) = nat_le (length (n ∷ ms)) MOST_NUMBERS && rises_below (2 ^ (2 * k + 2)) n ms

-- whether the count of low bits is that of the numbers
abbrev pub is_low : List ℕ → ℕ → Bool
is_low ns low =
    if nat_eq (length ns) 1 then nat_eq low 0 else nat_le (2 ^ low) (mean_step ns) && nat_lt (mean_step ns) (2 ^ suc low)

-- whether bytes are the park of these numbers with this count of low bits
abbrev pub is_park : ℕ → ℕ → List ℕ → List ℕ → Bool
is_park k low ns s = are_numbers k ns && is_low ns low && bytes_eq s (bytes (park_bits k low ns))

-- the so many numbers of which the bytes are the park, or none
unfoldable pub numbers_in : ℕ → ℕ → List ℕ → Option (List ℕ)
numbers_in k n s =
    let ns = numbers_given k n (bits_of s) in
    if is_park k (low_in k (bits_of s)) ns s then Some ns else None
