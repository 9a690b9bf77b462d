-- What a window of 64 bits at any bit says of the bits that are left.
use Rattle.std.proofs.Common.{◌≡◌, ℕ, zero, suc, ◌+◌, ◌-◌, ◌*◌, ◌/◌, ◌%◌, ◌^◌, ◌<◌, ◌≤◌, min, Bool, true, false, List, [], ◌∷◌, ◌++◌, length, take, drop, replicate, refl, sym, ap, ap₂, ◌∙◌, subst, arith, w64, append_assoc, length-append, length-drop, take-append-drop, drop-drop, take-take, pow-add, pow_pos, add_assoc}
use Rattle.std.specs.Int.{leading_ones}
use Rattle.std.proofs.lemmas.Nat.{leading_length, shr_high}
use Rattle.std.proofs.lemmas.List.{drop-append-le, drop-take, length-replicate, replicate-append-replicate, take-append-le, take-replicate}
use Rattle.pos_bits.specs.Bits.{bits, bits_of}
use Rattle.pos_bits.specs.Blocks.{length-bits}
use Rattle.pos_bits.proofs.BitsLemmas.{bits-append, bits-ones, bits-shl, bits-zero, take-bits}
use Rattle.pos_bits.proofs.BytesLemmas.{drop-bits_of, length-bits_of}
use Rattle.pos_bits.proofs.WindowLemmas.{bits_from}

-- the bits from a place on, and 64 bits 0 past the end
abbrev pub bits_at : List ℕ → ℕ → List Bool
bits_at bs at = drop at (bits_of bs) ++ replicate 64 false

-- a window of whole bytes, shifted up to a bit of its first byte
pub window-shifted :
    (bs : List ℕ) (at window : ℕ) → at ≤ 8 * length bs → bits window 64 ≡ bits_from bs (at / 8) →
    take 57 (bits (window * 2 ^ (at % 8) % 2 ^ 64) 64) ≡ take 57 (bits_at bs at)
window-shifted bs at window h e =
    let q : ℕ = at / 8 in
    let o : ℕ = at % 8 in
    let n : ℕ = 64 - o in
    let size : n + o ≡ 64 = omega arith in
    let turned : o + n ≡ 64 = omega arith in
    let place : 8 * q + o ≡ at = omega arith in
    let rest : List Bool = bits_of (drop q bs) in
    let fits : o ≤ length rest = rw (length-bits_of, length-drop) (omega arith) in
    let shifted : bits (window * 2 ^ o % 2 ^ 64) 64 ≡ drop o (bits window 64) ++ replicate o false =
    subst (λ k. bits (window * 2 ^ o % 2 ^ k) k ≡ drop o (bits window 64) ++ replicate o false) size
    (subst (λ k. bits (window * 2 ^ o % 2 ^ (n + o)) (n + o) ≡ drop o (bits window k) ++ replicate o false) turned (bits-shl window n o)) in
    let long : 57 ≤ length (drop o (bits window 64)) = rw (length-drop, length-bits) (omega arith) in
    let inner : drop o (bits window 64) ≡ take n (drop o rest ++ replicate 64 false) =
    ap (drop o) e
    ∙ ap (λ k. drop o (take k (rest ++ replicate 64 false))) (sym turned)
    ∙ drop-take o n (rest ++ replicate 64 false)
    ∙ ap (take n) (drop-append-le o rest (replicate 64 false) fits) in
    let here : drop o rest ≡ drop at (bits_of bs) =
    ap (drop o) (sym (drop-bits_of q bs)) ∙ drop-drop o (8 * q) (bits_of bs) ∙ ap (λ k. drop k (bits_of bs)) place in
    ap (take 57) shifted
    ∙ take-append-le 57 (drop o (bits window 64)) (replicate o false) long
    ∙ ap (take 57) inner
    ∙ take-take 57 n (drop o rest ++ replicate 64 false) (omega arith)
    ∙ ap (λ t. take 57 (t ++ replicate 64 false)) here

-- ---- the next bits

pub next-bits :
    (bs : List ℕ) (at window width : ℕ) → width ≤ 56 → at + width ≤ 8 * length bs → take 57 (bits window 64) ≡ take 57 (bits_at bs at) →
    drop at (bits_of bs) ≡ bits (window / 2 ^ (64 - width)) width ++ drop (at + width) (bits_of bs)
next-bits bs at window width w there e =
    let low : ℕ = 64 - width in
    let size : width + low ≡ 64 = omega arith in
    let s : List Bool = drop at (bits_of bs) in
    let front : bits (window / 2 ^ low) width ≡ take width s =
    sym (subst (λ k. take width (bits window k) ≡ bits (window / 2 ^ low) width) size (take-bits window width low))
    ∙ sym (take-take width 57 (bits window 64) (omega arith))
    ∙ ap (take width) e
    ∙ take-take width 57 (bits_at bs at) (omega arith)
    ∙ take-append-le width s (replicate 64 false) (rw (length-drop, length-bits_of) (omega arith)) in
    sym (take-append-drop width s) ∙ ap₂ (λ a b. a ++ b) (sym front) (drop-drop width at (bits_of bs))

-- ---- runs of ones

pred-mul : (a b : ℕ) → 0 < a → (a - 1) * b + b ≡ a * b
pred-mul zero b h = absurd (omega arith)
pred-mul (suc k) b h = let e : suc k - 1 ≡ k = omega arith in rw e (omega arith)

-- n has c ones at its top, and below them the digits that a number a leaves, where a is what n lacks to all ones
ones_split : (n a c j : ℕ) → n + a + 1 ≡ 2 ^ 64 → c + j ≡ 64 → a < 2 ^ j → n ≡ (2 ^ c - 1) * 2 ^ j + (2 ^ j - 1 - a)
ones_split n a c j e s h =
    let p : 2 ^ 64 ≡ 2 ^ c * 2 ^ j = ap (λ k. 2 ^ k) (sym s) ∙ pow-add 2 c j in
    omega (arith, pred-mul (2 ^ c) (2 ^ j) (pow_pos c))

ones_front : (n a c j : ℕ) → n + a + 1 ≡ 2 ^ 64 → c + j ≡ 64 → a < 2 ^ j → take c (bits n 64) ≡ replicate c true
ones_front n a c j e s h =
    let low : ℕ = 2 ^ j - 1 - a in
    let below : low < 2 ^ j = omega (arith, pow_pos j) in
    let top : n / 2 ^ j ≡ 2 ^ c - 1 = ap (λ x. x / 2 ^ j) (ones_split n a c j e s h) ∙ shr_high (2 ^ c - 1) j low below in
    subst (λ k. take c (bits n k) ≡ bits (n / 2 ^ j) c) s (take-bits n c j) ∙ ap (λ x. bits x c) top ∙ bits-ones c

zero_next :
    (n a c i : ℕ) → n + a + 1 ≡ 2 ^ 64 → c + (i + 1) ≡ 64 → a < 2 ^ (i + 1) → 2 ^ (i + 1) ≤ 2 * a + 1 →
    take (c + 1) (bits n 64) ≡ replicate c true ++ false ∷ []
zero_next n a c i e s h b =
    let low : ℕ = 2 ^ (i + 1) - 1 - a in
    let double : 2 ^ (i + 1) ≡ 2 ^ i * 2 = pow-add 2 i 1 in
    let below : low < 2 ^ i = omega (arith, pow_pos i) in
    let split : n ≡ ((2 ^ c - 1) * 2 + 0) * 2 ^ i + low = ones_split n a c (i + 1) e s h ∙ rw double (omega arith) in
    let top : n / 2 ^ i ≡ (2 ^ c - 1) * 2 + 0 = ap (λ x. x / 2 ^ i) split ∙ shr_high ((2 ^ c - 1) * 2 + 0) i low below in
    let size : (c + 1) + i ≡ 64 = omega arith in
    subst (λ k. take (c + 1) (bits n k) ≡ bits (n / 2 ^ i) (c + 1)) size (take-bits n (c + 1) i)
    ∙ ap (λ x. bits x (c + 1)) top
    ∙ bits-append (2 ^ c - 1) 0 c 1 (pow_pos 1)
    ∙ ap₂ (λ x y. x ++ y) (bits-ones c) (bits-zero 1)

-- as many leading ones as a number has stand at the front of its bits, and then a zero
pub take-leading_ones : (n : ℕ) → n < 2 ^ 64 → take (leading_ones w64 n) (bits n 64) ≡ replicate (leading_ones w64 n) true
take-leading_ones n h =
    let a : ℕ = 2 ^ 64 - 1 - n in
    let l = leading_length 64 a (omega arith) in
    ones_front n a (leading_ones w64 n) l.0 (omega arith) l.1 l.2

pub take-leading_ones_more :
    (n : ℕ) → n < 2 ^ 64 → leading_ones w64 n < 64 →
    take (leading_ones w64 n + 1) (bits n 64) ≡ replicate (leading_ones w64 n) true ++ false ∷ []
take-leading_ones_more n h m =
    let a : ℕ = 2 ^ 64 - 1 - n in
    let l = leading_length 64 a (omega arith) in
    let i : ℕ = l.0 - 1 in
    let e : l.0 ≡ i + 1 = omega (arith, l.1) in
    zero_next n a (leading_ones w64 n) i (omega arith) (rw (← e) l.1) (rw (← e) l.2) (rw (← e) l.3)

-- a string that begins with ones before the 0 bits past its end begins with these ones itself
pub ones-within : (n : ℕ) (s : List Bool) (k : ℕ) → take n (s ++ replicate k false) ≡ replicate n true → s ≡ replicate n true ++ drop n s
ones-within zero s k h = refl
ones-within (suc n) [] zero h = absurd (cc)
ones-within (suc n) [] (suc k) h = absurd (cc)
ones-within (suc n) (b ∷ s) k h =
    let first : b ≡ true = cc in
    let rest : take n (s ++ replicate k false) ≡ replicate n true = cc in
    ap₂ (λ c t. c ∷ t) first (ones-within n s k rest)

-- and where a zero follows them within the string, it is the string's own
pub zero-within :
    (n : ℕ) (s : List Bool) (k : ℕ) → n < length s → take (n + 1) (s ++ replicate k false) ≡ replicate n true ++ false ∷ [] →
    drop n s ≡ false ∷ drop (n + 1) s
zero-within n [] k l h = absurd (omega arith)
zero-within zero (b ∷ s) k l h = let first : b ≡ false = cc in ap (λ c. c ∷ s) first
zero-within (suc n) (b ∷ s) k l h =
    let e : suc n + 1 ≡ suc (n + 1) = omega arith in
    let h' : take (suc (n + 1)) ((b ∷ s) ++ replicate k false) ≡ replicate (suc n) true ++ false ∷ [] =
    subst (λ m. take m ((b ∷ s) ++ replicate k false) ≡ replicate (suc n) true ++ false ∷ []) e h in
    let rest : take (n + 1) (s ++ replicate k false) ≡ replicate n true ++ false ∷ [] = cc in
    zero-within n s k (omega arith) rest ∙ ap (λ m. false ∷ drop m (b ∷ s)) (sym e)

-- a run of ones in a window at a bit
pub window-ones :
    (bs : List ℕ) (at window c : ℕ) → window < 2 ^ 64 → take 57 (bits window 64) ≡ take 57 (bits_at bs at) → c ≡ min (leading_ones w64 window) 57 →
    drop at (bits_of bs) ≡ replicate c true ++ drop (at + c) (bits_of bs)
window-ones bs at window c h e m =
    let s : List Bool = drop at (bits_of bs) in
    let all : ℕ = leading_ones w64 window in
    let front : take c (s ++ replicate 64 false) ≡ replicate c true =
    sym (take-take c 57 (s ++ replicate 64 false) (omega arith))
    ∙ ap (take c) (sym e)
    ∙ take-take c 57 (bits window 64) (omega arith)
    ∙ sym (take-take c all (bits window 64) (omega arith))
    ∙ ap (take c) (take-leading_ones window h)
    ∙ take-replicate c all true (omega arith) in
    ones-within c s 64 front ∙ ap (λ t. replicate c true ++ t) (drop-drop c at (bits_of bs))

pub window-zero :
    (bs : List ℕ) (at window c : ℕ) → window < 2 ^ 64 → take 57 (bits window 64) ≡ take 57 (bits_at bs at) → c ≡ min (leading_ones w64 window) 57 →
    c < 57 → at + c < 8 * length bs → drop (at + c) (bits_of bs) ≡ false ∷ drop (at + c + 1) (bits_of bs)
window-zero bs at window c h e m few there =
    let s : List Bool = drop at (bits_of bs) in
    let all : c ≡ leading_ones w64 window = omega arith in
    let front : take (c + 1) (s ++ replicate 64 false) ≡ replicate c true ++ false ∷ [] =
    sym (take-take (c + 1) 57 (s ++ replicate 64 false) (omega arith))
    ∙ ap (take (c + 1)) (sym e)
    ∙ take-take (c + 1) 57 (bits window 64) (omega arith)
    ∙ rw all (take-leading_ones_more window h (omega arith)) in
    let next : drop c s ≡ false ∷ drop (c + 1) s = zero-within c s 64 (rw (length-drop, length-bits_of) (omega arith)) front in
    sym (drop-drop c at (bits_of bs)) ∙ next ∙ ap (λ t. false ∷ t) (drop-drop (c + 1) at (bits_of bs) ∙ ap (λ k. drop k (bits_of bs)) (sym (add_assoc at c 1)))

-- ones before the end of a string are no longer than the string
pub ones-fit : (s t : List Bool) (n : ℕ) → s ≡ replicate n true ++ t → n ≤ length s
ones-fit s t n e = omega (arith, ap length e, length-append (replicate n true) t, length-replicate n true)

-- one more window of ones
pub ones-more :
    (s : List Bool) (at ones count : ℕ) → drop at s ≡ replicate ones true ++ drop (at + ones) s →
    drop (at + ones) s ≡ replicate count true ++ drop (at + ones + count) s →
    drop at s ≡ replicate (ones + count) true ++ drop (at + (ones + count)) s
ones-more s at ones count e f =
    let place : at + ones + count ≡ at + (ones + count) = omega arith in
    e
    ∙ ap (λ t. replicate ones true ++ t) (f ∙ ap (λ k. replicate count true ++ drop k s) place)
    ∙ sym (append_assoc (replicate ones true) (replicate count true) (drop (at + (ones + count)) s))
    ∙ ap (λ t. t ++ drop (at + (ones + count)) s) (replicate-append-replicate ones count true)

pub length-left : (bs : List ℕ) (at : ℕ) (left : List Bool) → drop at (bits_of bs) ≡ left → length left ≡ 8 * length bs - at
length-left bs at left e = ap length (sym e) ∙ rw (length-drop, length-bits_of) refl

-- a run of ones and its zero are taken from what is left
pub run-taken :
    (bs : List ℕ) (at ones : ℕ) → drop at (bits_of bs) ≡ replicate ones true ++ drop (at + ones) (bits_of bs) →
    drop (at + ones) (bits_of bs) ≡ false ∷ drop (at + ones + 1) (bits_of bs) →
    drop at (bits_of bs) ≡ replicate ones true ++ false ∷ drop (at + (ones + 1)) (bits_of bs)
run-taken bs at ones e f =
    let place : at + ones + 1 ≡ at + (ones + 1) = omega arith in
    e ∙ ap (λ t. replicate ones true ++ t) (f ∙ ap (λ k. false ∷ drop k (bits_of bs)) place)
