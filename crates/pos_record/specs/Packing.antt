-- Records one after another in the bits of bytes. Units: bits.
use Rattle.std.specs.Prelude.{ℕ, zero, suc, ◌*◌, ◌/◌, Bool, List, [], ◌∷◌, length, take, drop}
use Rattle.pos_bits.specs.Bits.{bits_of}

-- so many records of w bits each, from the first bit on
unfoldable pub records_in : {R : Type 0} → (List Bool → R) → ℕ → ℕ → List Bool → List R
records_in read w zero s = []
records_in read w (suc n) s = read (take w s) ∷ records_in read w n (drop w s)

-- how many records of w bits so many bytes have room for
abbrev pub record_count : ℕ → List ℕ → ℕ
record_count w bytes = 8 * length bytes / w

-- the records of bytes: as many as there is room for
abbrev pub records_of : {R : Type 0} → (List Bool → R) → ℕ → List ℕ → List R
records_of read w bytes = records_in read w (record_count w bytes) (bits_of bytes)
