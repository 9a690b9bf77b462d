-- The eight bytes that begin at a place, with zeros past the end, as one number.
use Rattle.std.proofs.Common.{◌≡◌, ℕ, ◌+◌, ◌-◌, ◌*◌, ◌/◌, ◌^◌, ◌<◌, ◌≤◌, Bool, false, List, [], ◌∷◌, ◌++◌, length, take, drop, replicate, get_or, refl, sym, ap, ap₂, ◌∙◌, subst, arith, w64, length-append, length-drop, length-take, get_or-drop, pow-add, pow_mono, lt_of_lt_of_le, take-add}
use Rattle.std.specs.Int.{from_be_bytes}
use Rattle.std.proofs.lemmas.Nat.{mul-add-lt, shr_below}
use Rattle.std.proofs.lemmas.List.{get_or-append_right, get_or-replicate, get_or_append_left, length-replicate, take-append-le, take-take, take_more}
use Rattle.pos_bits.specs.Bits.{AreBytes, bits, bits_of}
use Rattle.pos_bits.proofs.BitsLemmas.{bits-append, take-bits}
use Rattle.pos_bits.proofs.BytesLemmas.{bits-from_be_bytes, bits_of-append, bits_of-one, bits_of-replicate_zero, length-bits_of, take-bits_of}

-- the bits from a byte on, and 64 bits 0 past the end
abbrev pub bits_from : List ℕ → ℕ → List Bool
bits_from bs at = take 64 (bits_of (drop at bs) ++ replicate 64 false)

-- the bytes from a place on, and eight zeros past the end
abbrev pub bytes_from : List ℕ → ℕ → List ℕ
bytes_from bs at = drop at bs ++ replicate 8 0

bits_from-bytes_from : (bs : List ℕ) (at : ℕ) → bits_of (take 8 (bytes_from bs at)) ≡ bits_from bs at
bits_from-bytes_from bs at =
    sym (take-bits_of 8 (bytes_from bs at))
    ∙ ap (take 64) (bits_of-append (drop at bs) (replicate 8 0) ∙ ap (λ t. bits_of (drop at bs) ++ t) (bits_of-replicate_zero 8))

-- ---- one byte after another

-- the number so far is that of the first i bytes
pub record ReadBytes (bs : List ℕ) (at i window : ℕ) : Type 0 where
  pub below : window < 2 ^ (8 * i)
  pub same_bits : bits window (8 * i) ≡ bits_of (take i (bytes_from bs at))

pub ReadBytes-none : (bs : List ℕ) (at : ℕ) → ReadBytes bs at 0 0
unfolding bits bits_of
ReadBytes-none bs at = record { below = omega arith; same_bits = refl }

byte_inside : (bs : List ℕ) (at i : ℕ) → at + i < length bs → get_or (bytes_from bs at) i 0 ≡ get_or bs (at + i) 0
byte_inside bs at i h =
    get_or_append_left (drop at bs) (replicate 8 0) 0 i (rw (length-drop at bs) (omega arith)) ∙ get_or-drop at bs i 0

byte_past : (bs : List ℕ) (at i : ℕ) → length bs ≤ at + i → i < 8 → get_or (bytes_from bs at) i 0 ≡ 0
byte_past bs at i h b =
    get_or-append_right (drop at bs) (replicate 8 0) (length (drop at bs)) i 0 refl (rw (length-drop at bs) (omega arith))
    ∙ get_or-replicate 8 (i - length (drop at bs)) 0 0 (omega arith)

ReadBytes-step :
    (bs : List ℕ) (at i window byte : ℕ) → ReadBytes bs at i window → i < 8 → byte < 256 → byte ≡ get_or (bytes_from bs at) i 0 →
    ReadBytes bs at (i + 1) (window * 256 + byte)
ReadBytes-step bs at i window byte r h b e =
    let size : 8 * (i + 1) ≡ 8 * i + 8 = omega arith in
    let more : take (i + 1) (bytes_from bs at) ≡ take i (bytes_from bs at) ++ (byte ∷ []) =
    take_more (bytes_from bs at) i 0 (rw length-append (omega (arith, length-replicate {A = ℕ} 8 0)))
    ∙ ap (λ y. take i (bytes_from bs at) ++ (y ∷ [])) (sym e) in
    record {
      below = rw (size, pow-add 2 (8 * i) 8) (omega (arith, mul-add-lt window 256 byte (2 ^ (8 * i)) r.below b));
      same_bits =
          ap (bits (window * 256 + byte)) size
          ∙ bits-append window byte (8 * i) 8 b
          ∙ ap₂ (λ s t. s ++ t) r.same_bits (sym (bits_of-one byte))
          ∙ sym (bits_of-append (take i (bytes_from bs at)) (byte ∷ []))
          ∙ ap bits_of (sym more);
    }

pub ReadBytes-inside :
    (bs : List ℕ) (at i window byte : ℕ) → ReadBytes bs at i window → i < 8 → byte < 256 → at + i < length bs → byte ≡ get_or bs (at + i) 0 →
    ReadBytes bs at (i + 1) (window * 256 + byte)
ReadBytes-inside bs at i window byte r h b n e = ReadBytes-step bs at i window byte r h b (e ∙ sym (byte_inside bs at i n))

pub ReadBytes-past :
    (bs : List ℕ) (at i window byte : ℕ) → ReadBytes bs at i window → i < 8 → length bs ≤ at + i → byte ≡ 0 →
    ReadBytes bs at (i + 1) (window * 256 + byte)
ReadBytes-past bs at i window byte r h n e =
    ReadBytes-step bs at i window byte r h (omega arith) (e ∙ sym (byte_past bs at i n h))

pub ReadBytes-fits : (bs : List ℕ) (at i window : ℕ) → ReadBytes bs at i window → i < 8 → window < 2 ^ 56
ReadBytes-fits bs at i window r h = let le : 8 * i ≤ 56 = omega arith in lt_of_lt_of_le r.below (pow_mono le)

pub ReadBytes-all : (bs : List ℕ) (at i window : ℕ) → ReadBytes bs at i window → 8 ≤ i → i ≤ 8 → bits window 64 ≡ bits_from bs at
ReadBytes-all bs at i window r low high =
    let e : i ≡ 8 = omega arith in
    subst (λ k. bits window (8 * k) ≡ bits_of (take k (bytes_from bs at))) e r.same_bits ∙ bits_from-bytes_from bs at

-- ---- eight bytes at once

eight : (bs : List ℕ) → length bs ≡ 8 →
    bs ≡ get_or bs 0 0 ∷ get_or bs 1 0 ∷ get_or bs 2 0 ∷ get_or bs 3 0 ∷ get_or bs 4 0 ∷ get_or bs 5 0 ∷ get_or bs 6 0 ∷ get_or bs 7 0 ∷ []
eight (a ∷ b ∷ c ∷ d ∷ e ∷ f ∷ g ∷ h ∷ []) l = refl
eight _ l = absurd (omega arith)

pub bits-eight :
    (bs part : List ℕ) (at : ℕ) → at + 8 ≤ length bs → AreBytes part → part ≡ take 8 (drop at bs) →
    bits (from_be_bytes w64 (get_or part 0 0 ∷ get_or part 1 0 ∷ get_or part 2 0 ∷ get_or part 3 0 ∷ get_or part 4 0 ∷ get_or part 5 0 ∷ get_or part 6 0 ∷ get_or part 7 0 ∷ [])) 64
    ≡ bits_from bs at
bits-eight bs part at h all e =
    let l : length part ≡ 8 = ap length e ∙ rw (length-take, length-drop) (omega arith) in
    ap (λ xs. bits (from_be_bytes w64 xs) 64) (sym (eight part l))
    ∙ bits-from_be_bytes part l all
    ∙ ap bits_of e
    ∙ sym (take-bits_of 8 (drop at bs))
    ∙ sym (take-append-le 64 (bits_of (drop at bs)) (replicate 64 false) (rw (length-bits_of, length-drop) (omega arith)))

-- ---- the front of a window

pub window-front :
    (bs : List ℕ) (at n window : ℕ) → n ≤ 8 → at + n ≤ length bs → bits window 64 ≡ bits_from bs at →
    bits (window / 2 ^ (64 - 8 * n)) (8 * n) ≡ bits_of (take n (drop at bs))
window-front bs at n window h there e =
    let low : ℕ = 64 - 8 * n in
    let size : 8 * n + low ≡ 64 = omega arith in
    let s : List Bool = bits_of (drop at bs) in
    sym (subst (λ k. take (8 * n) (bits window k) ≡ bits (window / 2 ^ low) (8 * n)) size (take-bits window (8 * n) low))
    ∙ ap (take (8 * n)) e
    ∙ take-take (8 * n) 64 (s ++ replicate 64 false) (omega arith)
    ∙ take-append-le (8 * n) s (replicate 64 false) (rw (length-bits_of, length-drop) (omega arith))
    ∙ take-bits_of n (drop at bs)

pub window-front_lt : (n window : ℕ) → n ≤ 8 → window < 2 ^ 64 → window / 2 ^ (64 - 8 * n) < 2 ^ (8 * n)
window-front_lt n window h w =
    let size : 64 ≡ 8 * n + (64 - 8 * n) = omega arith in
    shr_below window (8 * n) (64 - 8 * n) (subst (λ k. window < 2 ^ k) size w)

-- one more window's front behind the bits of the bytes before it
pub front-more :
    (bs : List ℕ) (now new : List Bool) (at n window : ℕ) → n ≤ 8 → at + n ≤ length bs → bits window 64 ≡ bits_from bs at →
    now ≡ bits_of (take at bs) → new ≡ now ++ bits (window / 2 ^ (64 - 8 * n)) (8 * n) →
    new ≡ bits_of (take (at + n) bs)
front-more bs now new at n window h there e before after =
    after
    ∙ ap₂ (λ s t. s ++ t) before (window-front bs at n window h there e)
    ∙ sym (bits_of-append (take at bs) (take n (drop at bs)))
    ∙ ap bits_of (sym (take-add at n bs))
