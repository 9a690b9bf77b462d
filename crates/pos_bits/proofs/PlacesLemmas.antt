-- Bits read and written at any place of bytes.
use Rattle.std.proofs.Common.{◌≡◌, ℕ, ◌+◌, ◌-◌, ◌*◌, ◌/◌, ◌%◌, ◌^◌, ◌<◌, ◌≤◌, Bool, false, List, [], ◌∷◌, ◌++◌, length, take, drop, replicate, get_or, refl, sym, ap, ap₂, ◌∙◌, subst, inl, inr, arith, w64, append_assoc, append-nil, length-append, length-drop, length-take, take-append-drop, drop-drop, drop-cons, take-take, take-add, take_at, drop_at, take_all, pow_pos, pow_mono, lt_of_lt_of_le, add-one, add-zero}
use Rattle.std.specs.Int.{to_be_bytes}
use Rattle.std.proofs.lemmas.Nat.{shr-shr, shr_below}
use Rattle.std.proofs.lemmas.Bool.{cases_lt}
use Rattle.std.proofs.lemmas.List.{drop-append-le, drop_all, length-replicate, replicate-append-replicate, take-append-le}
use Rattle.pos_bits.specs.Bits.{bits, bits_of, number}
use Rattle.pos_bits.specs.Blocks.{length-bits}
use Rattle.pos_bits.proofs.BitsLemmas.{bits-append, bits-mod, bits-split, bits-zero, number-append, number-bits, number-lt, bits-number, number-replicate_false, take-bits}
use Rattle.pos_bits.proofs.BytesLemmas.{bits_of-append, bits_of-to_be_bytes, drop-bits_of, length-bits_of, take-bits_of}
use Rattle.pos_bits.proofs.PiecesLemmas.{bits-part, joined-lt, shifted}
use Rattle.pos_bits.proofs.ReaderLemmas.{next-bits, window-shifted}
use Rattle.pos_bits.proofs.WindowLemmas.{bits_from}

-- ---- reading

-- the front of a shifted window, without its last bits
pub window-number :
    (bs : List ℕ) (at window width : ℕ) → width ≤ 56 → at + width ≤ 8 * length bs → bits window 64 ≡ bits_from bs (at / 8) →
    window * 2 ^ (at % 8) % 2 ^ 64 / 2 ^ 8 / 2 ^ (56 - width) ≡ number (take width (drop at (bits_of bs)))
window-number bs at window width w there e =
    let x : ℕ = window * 2 ^ (at % 8) % 2 ^ 64 in
    let low : ℕ = 64 - width in
    let y : ℕ = x / 2 ^ low in
    let size : 8 + (56 - width) ≡ low = omega arith in
    let same : x / 2 ^ 8 / 2 ^ (56 - width) ≡ y = shr-shr x 8 (56 - width) ∙ ap (λ k. x / 2 ^ k) size in
    let whole : 64 ≡ width + low = omega arith in
    let x_fits : x < 2 ^ 64 = omega arith in
    let y_fits : y < 2 ^ width = shr_below x width low (subst (λ k. x < 2 ^ k) whole x_fits) in
    let next = next-bits bs at x width w there (window-shifted bs at window (omega arith) e) in
    same
    ∙ sym (number-bits y width y_fits)
    ∙ ap number (sym (ap (take width) next ∙ take_at (bits y width) (drop (at + width) (bits_of bs)) width (length-bits y width)))

pub window-number_lt : (x width : ℕ) → width ≤ 56 → x < 2 ^ 64 → x / 2 ^ 8 / 2 ^ (56 - width) < 2 ^ width
window-number_lt x width w h =
    let size : 8 + (56 - width) ≡ 64 - width = omega arith in
    let whole : 64 ≡ width + (64 - width) = omega arith in
    subst (λ (y : ℕ). y < 2 ^ width) (sym (shr-shr x 8 (56 - width) ∙ ap (λ k. x / 2 ^ k) size))
    (shr_below x width (64 - width) (subst (λ k. x < 2 ^ k) whole h))

-- ---- a value in pieces

-- one more piece of a value, from its top
pub value-more :
    (value width left count : ℕ) → count ≤ left → left ≤ width →
    bits (value / 2 ^ left) (width - left) ++ bits (value / 2 ^ (left - count) % 2 ^ count) count ≡ bits (value / 2 ^ (left - count)) (width - (left - count))
value-more value width left count h w =
    let rest : ℕ = left - count in
    let size : rest + count ≡ left = omega arith in
    let sizes : (width - left) + count ≡ width - rest = omega arith in
    ap₂ (λ s t. s ++ t) (ap (λ x. bits x (width - left)) (ap (λ k. value / 2 ^ k) (sym size) ∙ sym (shr-shr value rest count))) (bits-mod (value / 2 ^ rest) count)
    ∙ sym (bits-split (value / 2 ^ rest) (width - left) count)
    ∙ ap (bits (value / 2 ^ rest)) sizes

-- ---- a word that is put behind the first bits of a byte

module _ (first skip value width : ℕ) (byte : first < 256) (s : skip < 8) (w : width ≤ 56) (v : value < 2 ^ width) where
  kept : ℕ
  kept = first / 2 ^ (8 - skip)

  pub kept-lt : first / 2 ^ (8 - skip) < 2 ^ skip
  kept-lt =
      let size : 8 ≡ skip + (8 - skip) = omega arith in
      let fits : first < 2 ^ 8 = omega arith in
      shr_below first skip (8 - skip) (subst (λ k. first < 2 ^ k) size fits)

  pub raised-lt : value * 2 ^ (56 - width) < 2 ^ 56
  raised-lt =
      let size : width + (56 - width) ≡ 56 = omega arith in
      let below = joined-lt value width (56 - width) 0 v (pow_pos (56 - width)) in
      subst (λ k. value * 2 ^ (56 - width) < 2 ^ k) size (subst (λ (x : ℕ). x < 2 ^ (width + (56 - width))) (add-zero (value * 2 ^ (56 - width))) below)

  pub word-sum :
      first / 2 ^ (8 - skip) * 2 ^ 56 % 2 ^ 64 + value * 2 ^ (56 - width) % 2 ^ 64 ≡ first / 2 ^ (8 - skip) * 2 ^ 56 + value * 2 ^ (56 - width)
  word-sum = ap₂ (λ a b. a + b) (shifted 64 (first / 2 ^ (8 - skip)) skip 56 kept-lt (omega arith)) (shifted 64 value width (56 - width) v (omega arith))

  pub word-sum_lt : first / 2 ^ (8 - skip) * 2 ^ 56 + value * 2 ^ (56 - width) < 2 ^ (skip + 56)
  word-sum_lt = joined-lt (first / 2 ^ (8 - skip)) skip 56 (value * 2 ^ (56 - width)) kept-lt raised-lt

  pub word-fits : first / 2 ^ (8 - skip) * 2 ^ 56 % 2 ^ 64 + value * 2 ^ (56 - width) % 2 ^ 64 < 2 ^ 64
  word-fits =
      let le : skip + 56 ≤ 64 = omega arith in
      rw word-sum (lt_of_lt_of_le word-sum_lt (pow_mono le))

  pub word-bits :
      bits ((first / 2 ^ (8 - skip) * 2 ^ 56 % 2 ^ 64 + value * 2 ^ (56 - width) % 2 ^ 64) * 2 ^ (8 - skip) % 2 ^ 64) 64
      ≡ take skip (bits first 8) ++ bits value width ++ replicate (64 - skip - width) false
  word-bits =
      let k : ℕ = first / 2 ^ (8 - skip) in
      let u : ℕ = value * 2 ^ (56 - width) in
      let sum : ℕ = k * 2 ^ 56 + u in
      let size : (skip + 56) + (8 - skip) ≡ 64 = omega arith in
      let inner : width + (56 - width) ≡ 56 = omega arith in
      let eight : skip + (8 - skip) ≡ 8 = omega arith in
      let zeros : (56 - width) + (8 - skip) ≡ 64 - skip - width = omega arith in
      let head : bits k skip ≡ take skip (bits first 8) =
      sym (take-bits first skip (8 - skip)) ∙ ap (λ n. take skip (bits first n)) eight in
      let tail : bits u 56 ≡ bits value width ++ replicate (56 - width) false =
      ap₂ bits (sym (add-zero u)) (sym inner) ∙ bits-append value 0 width (56 - width) (pow_pos (56 - width)) ∙ ap (λ t. bits value width ++ t) (bits-zero (56 - width)) in
      let whole : bits sum (skip + 56) ≡ take skip (bits first 8) ++ (bits value width ++ replicate (56 - width) false) =
      bits-append k u skip 56 raised-lt ∙ ap₂ (λ a b. a ++ b) head tail in
      ap (λ x. bits (x * 2 ^ (8 - skip) % 2 ^ 64) 64) word-sum
      ∙ bits-mod (sum * 2 ^ (8 - skip)) 64
      ∙ ap₂ bits (sym (add-zero (sum * 2 ^ (8 - skip)))) (sym size)
      ∙ bits-append sum 0 (skip + 56) (8 - skip) (pow_pos (8 - skip))
      ∙ ap₂ (λ a b. a ++ b) whole (bits-zero (8 - skip))
      ∙ append_assoc (take skip (bits first 8)) (bits value width ++ replicate (56 - width) false) (replicate (8 - skip) false)
      ∙ ap (λ t. take skip (bits first 8) ++ t)
      (append_assoc (bits value width) (replicate (56 - width) false) (replicate (8 - skip) false)
      ∙ ap (λ t. bits value width ++ t) (replicate-append-replicate (56 - width) (8 - skip) false ∙ ap (λ n. replicate n false) zeros))
      ∙ sym (append_assoc (take skip (bits first 8)) (bits value width) (replicate (64 - skip - width) false))

-- ---- a word written over bytes

take-long : (n : ℕ) (s : List Bool) → length s ≤ n → s ≡ take n s
take-long n s h = sym (take_all n s h)

pub word-put :
    (bs ys new : List ℕ) (byte word : ℕ) → byte + 8 ≤ length bs → ys ≡ to_be_bytes w64 word →
    new ≡ take byte bs ++ (ys ++ drop (byte + 8) bs) →
    bits_of new ≡ take (8 * length bs) (take (8 * byte) (bits_of bs) ++ bits word 64 ++ drop (8 * byte + 64) (bits_of bs))
word-put bs ys new byte word h e is =
    let s : List Bool = bits_of bs in
    let size : 8 * (byte + 8) ≡ 8 * byte + 64 = omega arith in
    let long : length s ≡ 8 * length bs = length-bits_of bs in
    let all : bits_of new ≡ take (8 * byte) s ++ bits word 64 ++ drop (8 * byte + 64) s =
    ap bits_of is
    ∙ bits_of-append (take byte bs) (ys ++ drop (byte + 8) bs)
    ∙ ap₂ (λ a b. a ++ b) (sym (take-bits_of byte bs))
    (bits_of-append ys (drop (byte + 8) bs) ∙ ap₂ (λ a b. a ++ b) (ap bits_of e ∙ bits_of-to_be_bytes word) (sym (drop-bits_of (byte + 8) bs) ∙ ap (λ n. drop n s) size))
    ∙ sym (append_assoc (take (8 * byte) s) (bits word 64) (drop (8 * byte + 64) s)) in
    all ∙ take-long (8 * length bs) _ (rw (length-append, length-append, length-take, length-drop, length-bits, long) (omega arith))

pub end-put :
    (bs ys new : List ℕ) (byte word left : ℕ) → byte + left ≡ length bs → left < 8 → ys ≡ take left (to_be_bytes w64 word) →
    new ≡ take byte bs ++ (ys ++ []) →
    bits_of new ≡ take (8 * length bs) (take (8 * byte) (bits_of bs) ++ bits word 64 ++ drop (8 * byte + 64) (bits_of bs))
end-put bs ys new byte word left h few e is =
    let s : List Bool = bits_of bs in
    let long : length s ≡ 8 * length bs = length-bits_of bs in
    let past : drop (8 * byte + 64) s ≡ [] = drop_all (8 * byte + 64) s (omega arith) in
    let front : length (take (8 * byte) s) ≡ 8 * byte = rw (length-take, long) (omega arith) in
    let piece : bits_of ys ≡ take (8 * left) (bits word 64) =
    ap bits_of e ∙ sym (take-bits_of left (to_be_bytes w64 word)) ∙ ap (take (8 * left)) (bits_of-to_be_bytes word) in
    let all : bits_of new ≡ take (8 * byte) s ++ take (8 * left) (bits word 64) =
    ap bits_of is
    ∙ bits_of-append (take byte bs) (ys ++ [])
    ∙ ap₂ (λ a b. a ++ b) (sym (take-bits_of byte bs)) (ap bits_of (append-nil ys) ∙ piece) in
    let size : 8 * byte + 8 * left ≡ 8 * length bs = omega arith in
    let target : take (8 * length bs) (take (8 * byte) s ++ bits word 64 ++ []) ≡ take (8 * byte) s ++ take (8 * left) (bits word 64) =
    ap₂ take (sym size) (append-nil (take (8 * byte) s ++ bits word 64))
    ∙ take-add (8 * byte) (8 * left) (take (8 * byte) s ++ bits word 64)
    ∙ ap₂ (λ a b. a ++ take (8 * left) b) (take_at (take (8 * byte) s) (bits word 64) (8 * byte) front) (drop_at (take (8 * byte) s) (bits word 64) (8 * byte) front) in
    all ∙ sym target ∙ ap (λ t. take (8 * length bs) (take (8 * byte) s ++ bits word 64 ++ t)) (sym past)

-- ---- what stands behind the first bits

bits_of-cons : (x : ℕ) (xs : List ℕ) → bits_of (x ∷ xs) ≡ bits x 8 ++ bits_of xs
unfolding bits_of
bits_of-cons x xs = refl

-- a byte's first bits stand behind those of the bytes before it
first-bits :
    (bs : List ℕ) (at : ℕ) (b : ℕ) → at < 8 * length bs → b ≡ get_or bs (at / 8) 0 →
    take (8 * (at / 8)) (bits_of bs) ++ take (at % 8) (bits b 8) ≡ take at (bits_of bs)
first-bits bs at b h e =
    let q : ℕ = at / 8 in
    let o : ℕ = at % 8 in
    let s : List Bool = bits_of bs in
    let place : 8 * q + o ≡ at = omega arith in
    let within : q < length bs = omega arith in
    let here : drop (8 * q) s ≡ bits b 8 ++ bits_of (drop (q + 1) bs) =
    drop-bits_of q bs
    ∙ ap bits_of (drop-more bs q b within e)
    ∙ bits_of-cons b (drop (q + 1) bs) in
    let part : take o (drop (8 * q) s) ≡ take o (bits b 8) =
    ap (take o) here ∙ take-append-le o (bits b 8) (bits_of (drop (q + 1) bs)) (rw length-bits (omega arith)) in
    ap (λ t. take (8 * q) s ++ t) (sym part) ∙ sym (take-add (8 * q) o s) ∙ ap (λ n. take n s) place
  where
    drop-more : (xs : List ℕ) (i x : ℕ) → i < length xs → x ≡ get_or xs i 0 → drop i xs ≡ x ∷ drop (i + 1) xs
    drop-more xs i x l is = rw (is, add-one, drop-cons xs i 0) refl

whole-bits :
    (bs : List ℕ) (at : ℕ) (b : ℕ) → at ≡ 8 * length bs →
    take (8 * (at / 8)) (bits_of bs) ++ take (at % 8) (bits b 8) ≡ take at (bits_of bs)
whole-bits bs at b e =
    let o : at % 8 ≡ 0 = omega arith in
    let q : 8 * (at / 8) ≡ at = omega arith in
    ap₂ (λ n m. take n (bits_of bs) ++ take m (bits b 8)) q o ∙ append-nil (take at (bits_of bs))

pub behind :
    (bs : List ℕ) (at : ℕ) (b : ℕ) → at ≤ 8 * length bs → (at < 8 * length bs → b ≡ get_or bs (at / 8) 0) →
    take (8 * (at / 8)) (bits_of bs) ++ take (at % 8) (bits b 8) ≡ take at (bits_of bs)
behind bs at b h e = elim (cases_lt at (8 * length bs)) [
  | inl inside ↦ first-bits bs at b inside (e inside)
  | inr past ↦ whole-bits bs at b (omega arith)
]

-- a number is put behind the first bits
pub number-appended :
    (bs new : List ℕ) (at value width b word : ℕ) → at + width ≤ 8 * length bs → width ≤ 56 →
    take (8 * (at / 8)) (bits_of bs) ++ take (at % 8) (bits b 8) ≡ take at (bits_of bs) →
    bits word 64 ≡ take (at % 8) (bits b 8) ++ bits value width ++ replicate (64 - at % 8 - width) false →
    bits_of new ≡ take (8 * length bs) (take (8 * (at / 8)) (bits_of bs) ++ bits word 64 ++ drop (8 * (at / 8) + 64) (bits_of bs)) →
    take (at + width) (bits_of new) ≡ take at (bits_of bs) ++ bits value width
number-appended bs new at value width b word h w front e is =
    let s : List Bool = bits_of bs in
    let q : ℕ = 8 * (at / 8) in
    let o : ℕ = at % 8 in
    let zeros : List Bool = replicate (64 - o - width) false in
    let tail : List Bool = drop (q + 64) s in
    let head : List Bool = take at s ++ bits value width in
    let regroup : take q s ++ bits word 64 ++ tail ≡ head ++ (zeros ++ tail) =
    ap (λ t. take q s ++ t ++ tail) e
    ∙ ap (λ t. t ++ tail) (sym (append_assoc (take q s) (take o (bits b 8) ++ bits value width) zeros) ∙ ap (λ t. t ++ zeros) (sym (append_assoc (take q s) (take o (bits b 8)) (bits value width)) ∙ ap (λ t. t ++ bits value width) front))
    ∙ append_assoc head zeros tail in
    let long : length head ≡ at + width = rw (length-append, length-take, length-bits, length-bits_of) (omega arith) in
    ap (take (at + width)) is
    ∙ take-take (at + width) (8 * length bs) (take q s ++ bits word 64 ++ tail) h
    ∙ ap (take (at + width)) regroup
    ∙ take_at head (zeros ++ tail) (at + width) long

-- ---- bits in the middle

-- a window and what lies behind it are what lies behind its beginning, and 0 bits past the end
window-and-rest : (d : List Bool) → take 64 (d ++ replicate 64 false) ++ drop 64 d ≡ d ++ replicate (64 - length d) false
window-and-rest d = elim (cases_lt (length d) 64) [
  | inl short ↦
      let n : ℕ = 64 - length d in
      let size : n + length d ≡ 64 = omega arith in
      let whole : d ++ replicate 64 false ≡ (d ++ replicate n false) ++ replicate (length d) false =
      ap (λ k. d ++ replicate k false) (sym size)
      ∙ ap (λ t. d ++ t) (sym (replicate-append-replicate n (length d) false))
      ∙ sym (append_assoc d (replicate n false) (replicate (length d) false)) in
      ap₂ (λ a b. take 64 a ++ b) whole (drop_all 64 d (omega arith))
      ∙ append-nil _
      ∙ take_at (d ++ replicate n false) (replicate (length d) false) 64 (rw (length-append, length-replicate) (omega arith))
  | inr long ↦
      let none : 64 - length d ≡ 0 = omega arith in
      ap (λ t. t ++ drop 64 d) (take-append-le 64 d (replicate 64 false) long)
      ∙ take-append-drop 64 d
      ∙ sym (append-nil d)
      ∙ ap (λ n. d ++ replicate n false) (sym none)
]

-- the low bits of a window are put behind a word that ends with 0 bits
pub word-filled :
    (word window low m : ℕ) (head : List Bool) → length head + m ≡ 64 → word < 2 ^ 64 → bits word 64 ≡ head ++ replicate m false → low ≡ window % 2 ^ m →
    bits (word + low) 64 ≡ head ++ bits window m
word-filled word window low m head size w e l =
    let is : word ≡ number head * 2 ^ m =
    sym (number-bits word 64 w) ∙ ap number e ∙ number-append head (replicate m false)
    ∙ rw (length-replicate m false, number-replicate_false m) (omega arith) in
    let below : window % 2 ^ m < 2 ^ m = mod-below window m in
    ap₂ (λ x y. bits (x + y) 64) is l
    ∙ ap (bits (number head * 2 ^ m + window % 2 ^ m)) (sym size)
    ∙ bits-append (number head) (window % 2 ^ m) (length head) m below
    ∙ ap₂ (λ a b. a ++ b) (bits-number head) (bits-mod window m)
  where
    mod-below : (x n : ℕ) → x % 2 ^ n < 2 ^ n
    mod-below x n = let p : 0 < 2 ^ n = pow_pos n in omega arith

pub word-filled_fits :
    (word window low m : ℕ) (head : List Bool) → length head + m ≡ 64 → word < 2 ^ 64 → bits word 64 ≡ head ++ replicate m false → low ≡ window % 2 ^ m →
    word + low < 2 ^ 64
word-filled_fits word window low m head size w e l =
    let is : word ≡ number head * 2 ^ m =
    sym (number-bits word 64 w) ∙ ap number e ∙ number-append head (replicate m false)
    ∙ rw (length-replicate m false, number-replicate_false m) (omega arith) in
    let p : 0 < 2 ^ m = pow_pos m in
    let below : window % 2 ^ m < 2 ^ m = omega arith in
    rw (is, l) (subst (λ k. number head * 2 ^ m + window % 2 ^ m < 2 ^ k) size (joined-lt (number head) (length head) m (window % 2 ^ m) (number-lt head) below))

-- a number is written over the bits from a place on
pub number-written :
    (bs new : List ℕ) (at value width window b word : ℕ) → at + width ≤ 8 * length bs → 0 < width → width ≤ 56 →
    bits window 64 ≡ bits_from bs (at / 8) → b ≡ window / 2 ^ 56 →
    bits word 64 ≡ (take (at % 8) (bits b 8) ++ bits value width) ++ bits window (64 - at % 8 - width) →
    bits_of new ≡ take (8 * length bs) (take (8 * (at / 8)) (bits_of bs) ++ bits word 64 ++ drop (8 * (at / 8) + 64) (bits_of bs)) →
    bits_of new ≡ take at (bits_of bs) ++ bits value width ++ drop (at + width) (bits_of bs)
number-written bs new at value width window b word h some w win top e is =
    let s : List Bool = bits_of bs in
    let q : ℕ = 8 * (at / 8) in
    let o : ℕ = at % 8 in
    let n : ℕ = o + width in
    let m : ℕ = 64 - o - width in
    let place : q + o ≡ at = omega arith in
    let d : List Bool = drop q s in
    let from : bits window 64 ≡ take 64 (d ++ replicate 64 false) = win ∙ ap (λ t. take 64 (t ++ replicate 64 false)) (sym (drop-bits_of (at / 8) bs)) in
    let long : length s ≡ 8 * length bs = length-bits_of bs in
    let room : n ≤ length d = rw (length-drop, long) (omega arith) in
    let eight : take 8 (bits window 64) ≡ bits (window / 2 ^ 56) 8 = take-bits window 8 56 in
    let first : take o (bits b 8) ≡ take o d =
    ap (λ x. take o (bits x 8)) top
    ∙ ap (take o) (sym eight)
    ∙ take-take o 8 (bits window 64) (omega arith)
    ∙ ap (take o) from
    ∙ take-take o 64 (d ++ replicate 64 false) (omega arith)
    ∙ take-append-le o d (replicate 64 false) (omega arith) in
    let front : take q s ++ take o (bits b 8) ≡ take at s = ap (λ t. take q s ++ t) first ∙ sym (take-add q o s) ∙ ap (λ k. take k s) place in
    let sizes : n + m ≡ 64 = omega arith in
    let low : bits window m ≡ drop n (bits window 64) =
    sym (low-bits window n m) ∙ ap (λ k. drop n (bits window k)) sizes in
    let z : List Bool = replicate (64 - length d) false in
    let behind_it : drop (q + 64) s ≡ drop 64 d = sym (drop-drop 64 q s) in
    let rest : bits window m ++ drop (q + 64) s ≡ drop (at + width) s ++ z =
    ap₂ (λ a c. a ++ c) low behind_it
    ∙ sym (drop-append-le n (bits window 64) (drop 64 d) (rw length-bits (omega arith)))
    ∙ ap (λ t. drop n (t ++ drop 64 d)) from
    ∙ ap (drop n) (window-and-rest d)
    ∙ drop-append-le n d z room
    ∙ ap (λ t. t ++ z) (drop-drop n q s ∙ ap (λ k. drop k s) (omega arith)) in
    let head : List Bool = take at s ++ bits value width in
    let regroup : take q s ++ bits word 64 ++ drop (q + 64) s ≡ (head ++ drop (at + width) s) ++ z =
    ap (λ t. take q s ++ t ++ drop (q + 64) s) e
    ∙ ap (λ t. t ++ drop (q + 64) s) (sym (append_assoc (take q s) (take o (bits b 8) ++ bits value width) (bits window m)) ∙ ap (λ t. t ++ bits window m) (sym (append_assoc (take q s) (take o (bits b 8)) (bits value width)) ∙ ap (λ t. t ++ bits value width) front))
    ∙ append_assoc head (bits window m) (drop (q + 64) s)
    ∙ ap (λ t. head ++ t) rest
    ∙ sym (append_assoc head (drop (at + width) s) z) in
    let all : length (head ++ drop (at + width) s) ≡ 8 * length bs = rw (length-append, length-append, length-take, length-bits, length-drop, long) (omega arith) in
    is ∙ ap (take (8 * length bs)) regroup ∙ take_at (head ++ drop (at + width) s) z (8 * length bs) all
  where
    low-bits : (x i j : ℕ) → drop i (bits x (i + j)) ≡ bits x j
    low-bits x i j = rw (bits-split x i j) (drop_at (bits (x / 2 ^ j) i) (bits x j) i (length-bits (x / 2 ^ j) i))

-- ---- strings written piece by piece

-- one more piece of a string is put behind what was put so far
pub string-appended :
    (start now new string : List Bool) (at done count x : ℕ) → done + count ≤ length string →
    take (at + done) now ≡ take at start ++ take done string → x ≡ number (take count (drop done string)) →
    take (at + done + count) new ≡ take (at + done) now ++ bits x count →
    take (at + (done + count)) new ≡ take at start ++ take (done + count) string
string-appended start now new string at done count x h before value after =
    let place : at + done + count ≡ at + (done + count) = omega arith in
    let piece : bits x count ≡ take count (drop done string) = ap (λ y. bits y count) value ∙ bits-part string done count h in
    ap (λ n. take n new) (sym place)
    ∙ after
    ∙ ap₂ (λ a b. a ++ b) before piece
    ∙ append_assoc (take at start) (take done string) (take count (drop done string))
    ∙ ap (λ t. take at start ++ t) (sym (take-add done count string))

-- one more piece of a value is put behind what was put so far
pub value-appended :
    (start now new : List Bool) (at value width left count x : ℕ) → count ≤ left → left ≤ width →
    take (at + (width - left)) now ≡ take at start ++ bits (value / 2 ^ left) (width - left) →
    x ≡ value / 2 ^ (left - count) % 2 ^ count →
    take (at + (width - left) + count) new ≡ take (at + (width - left)) now ++ bits x count →
    take (at + (width - (left - count))) new ≡ take at start ++ bits (value / 2 ^ (left - count)) (width - (left - count))
value-appended start now new at value width left count x h w before is after =
    let place : at + (width - left) + count ≡ at + (width - (left - count)) = omega arith in
    ap (λ n. take n new) (sym place)
    ∙ after
    ∙ ap₂ (λ a b. a ++ bits b count) before is
    ∙ append_assoc (take at start) (bits (value / 2 ^ left) (width - left)) (bits (value / 2 ^ (left - count) % 2 ^ count) count)
    ∙ ap (λ t. take at start ++ t) (value-more value width left count h w)

-- one more piece of a string is written
pub string-written :
    (start now new string : List Bool) (at done count x : ℕ) → at + length string ≤ length start → done + count ≤ length string →
    now ≡ take at start ++ take done string ++ drop (at + done) start → x ≡ number (take count (drop done string)) →
    new ≡ take (at + done) now ++ bits x count ++ drop (at + done + count) now →
    new ≡ take at start ++ take (done + count) string ++ drop (at + (done + count)) start
string-written start now new string at done count x fits h before value after =
    let head : List Bool = take at start ++ take done string in
    let long : length head ≡ at + done = rw (length-append, length-take, length-take) (omega arith) in
    let piece : bits x count ≡ take count (drop done string) = ap (λ y. bits y count) value ∙ bits-part string done count h in
    let front : take (at + done) now ≡ head = ap (take (at + done)) before ∙ take_at head (drop (at + done) start) (at + done) long in
    let back : drop (at + done + count) now ≡ drop (at + (done + count)) start =
    sym (drop-drop count (at + done) now)
    ∙ ap (drop count) (ap (drop (at + done)) before ∙ drop_at head (drop (at + done) start) (at + done) long)
    ∙ drop-drop count (at + done) start
    ∙ ap (λ n. drop n start) (omega arith) in
    after
    ∙ ap₂ (λ a b. a ++ b) (ap₂ (λ a b. a ++ b) front piece ∙ append_assoc (take at start) (take done string) (take count (drop done string)) ∙ ap (λ t. take at start ++ t) (sym (take-add done count string))) back
