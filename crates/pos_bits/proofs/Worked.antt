-- Worked values of the definitions.
use Rattle.std.proofs.Common.{◌≡◌, true, false, [], ◌∷◌, take, refl}
use Rattle.pos_bits.specs.Bits.{bits, bits_of, bytes, bytes_for, number}

-- 10110 as bytes is b0
pub five_bits_as_bytes : bytes (true ∷ false ∷ true ∷ true ∷ false ∷ []) ≡ 0xb0 ∷ []
unfolding bytes_for number
five_bits_as_bytes = refl

-- the top six bits of ten-bit numbers
pub top_of_16 : take 6 (bits 16 10) ≡ false ∷ false ∷ false ∷ false ∷ false ∷ true ∷ []
unfolding bits
top_of_16 = refl

pub top_of_1023 : take 6 (bits 1023 10) ≡ true ∷ true ∷ true ∷ true ∷ true ∷ true ∷ []
unfolding bits
top_of_1023 = refl

-- the bits of two bytes
pub bits_of_two_bytes :
    bits_of (0x0f ∷ 0x81 ∷ []) ≡
    false ∷ false ∷ false ∷ false ∷ true ∷ true ∷ true ∷ true ∷ true ∷ false ∷ false ∷ false ∷ false ∷ false ∷ false ∷ true ∷ []
unfolding bits bits_of
bits_of_two_bytes = refl
