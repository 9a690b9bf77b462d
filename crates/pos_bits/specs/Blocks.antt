-- A bit string held in blocks of equally many bits, as bytes of 8 or words of 64. This is how values of this crate are
-- kept inside; no public clause speaks of it.
use Rattle.std.specs.Prelude.{ℕ, zero, suc, ◌*◌, ◌≡◌, ◌≤◌, Bool, false, List, [], ◌∷◌, ◌++◌, length, take, drop, replicate, refl}
use Rattle.std.proofs.Common.{ap, ◌∙◌, arith, length-append, length-take}
use Rattle.pos_bits.specs.Bits.{bits, number}

-- so many blocks of z bits: each writes the next z bits of the string, and 0 bits past its end
unfoldable pub blocks : ℕ → ℕ → List Bool → List ℕ
blocks z zero s = []
blocks z (suc n) s = number (take z (s ++ replicate z false)) ∷ blocks z n (drop z s)

-- the bits of blocks of z bits, first block first, top bit first
unfoldable pub bits_of_blocks : ℕ → List ℕ → List Bool
bits_of_blocks z [] = []
bits_of_blocks z (x ∷ xs) = bits x z ++ bits_of_blocks z xs

-- the string of so many bits that eight words hold
abbrev pub held_bits : List ℕ → ℕ → List Bool
held_bits words len = take len (bits_of_blocks 64 words)

-- eight words hold a string of at most 512 bits, and 0 bits past its end
pub record HoldsBits (words : List ℕ) (len : ℕ) : Type 0 where
  pub at_most : len ≤ 512
  pub words_are : words ≡ blocks 64 8 (held_bits words len)

-- ---- what `Copy` needs: the words and the length come back from the string

pub length-bits : (v w : ℕ) → length (bits v w) ≡ w
unfolding bits
length-bits v zero = refl
length-bits v (suc w) = ap suc (length-bits v w)

pub length-blocks : (z n : ℕ) (s : List Bool) → length (blocks z n s) ≡ n
unfolding blocks
length-blocks z zero s = refl
length-blocks z (suc n) s = ap suc (length-blocks z n (drop z s))

pub length-bits_of_blocks : (z : ℕ) (xs : List ℕ) → length (bits_of_blocks z xs) ≡ z * length xs
unfolding bits_of_blocks
length-bits_of_blocks z [] = omega arith
length-bits_of_blocks z (x ∷ xs) =
    rw (length-append, length-bits, length-bits_of_blocks z xs) (omega arith)

pub length-held_bits : (words : List ℕ) (len : ℕ) → HoldsBits words len → length (held_bits words len) ≡ len
length-held_bits words len h =
    let eight : length words ≡ 8 = ap length h.words_are ∙ length-blocks 64 8 (held_bits words len) in
    rw (length-take, length-bits_of_blocks 64 words) (omega (arith, h.at_most))

pub held_inverse :
    {A : Type 0} (f : List ℕ → ℕ → A) (words : List ℕ) (len : ℕ) → HoldsBits words len →
    f (blocks 64 8 (held_bits words len)) (length (held_bits words len)) ≡ f words len
held_inverse f words len h = rw (length-held_bits words len h, ← h.words_are)
