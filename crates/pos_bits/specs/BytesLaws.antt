-- What is proved of the bytes of a bit string, whatever the code: they are the one spelling of its bits.
use Rattle.std.specs.Prelude.{◌≡◌, ℕ, ◌<◌, Bool, false, List, ◌++◌, length, replicate}
use Rattle.pos_bits.specs.Bits.{bytes, bits_of, AreBytes}

-- they are bytes
abbrev pub BytesAreBytes : Type 0
BytesAreBytes = (s : List Bool) → AreBytes (bytes s)

-- their bits are the string followed by fewer than eight 0 bits
abbrev pub FewerThanEightZeroBits : Type 0
FewerThanEightZeroBits = (s : List Bool) → (z : ℕ) × (z < 8) × (bits_of (bytes s) ≡ s ++ replicate z false)

-- and no other bytes have such bits
abbrev pub OneSpelling : Type 0
OneSpelling = (s : List Bool) (bs : List ℕ) (z : ℕ) → AreBytes bs → z < 8 → bits_of bs ≡ s ++ replicate z false → bs ≡ bytes s

-- strings of one length that have the same bytes are one string
abbrev pub OneString : Type 0
OneString = (s t : List Bool) → length s ≡ length t → bytes s ≡ bytes t → s ≡ t
