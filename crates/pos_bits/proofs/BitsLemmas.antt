-- Laws of `bits` and `number`: each undoes the other, and both turn a sum of widths into a string joined of two.
use Rattle.std.proofs.Common.{◌≡◌, ℕ, zero, suc, ◌+◌, ◌-◌, ◌*◌, ◌/◌, ◌%◌, ◌^◌, ◌<◌, ◌≤◌, ◌==◌, Bool, true, false, List, [], ◌∷◌, ◌++◌, length, take, drop, replicate, refl, sym, ap, ap₂, ◌∙◌, subst, arith, suc-add, mod-eq_of_lt, length-append, take_at, drop_at, pow_pos, pow-suc, add_comm, mod-lt, one-add, zero-add, add-zero, length-drop}
use Rattle.std.proofs.Math.Nat.{zero-div}
use Rattle.std.proofs.lemmas.Nat.{pow-add, mod-pow-add, field_of, shr-shr, shr_high, mod_low}
use Rattle.std.proofs.lemmas.List.{length-replicate, take-append-le}
use Rattle.pos_bits.specs.Bits.{bits, digit, number}
use Rattle.pos_bits.specs.Blocks.{length-bits}

-- ---- one bit

digit_of_test : (m : ℕ) → m < 2 → digit (m == 1) ≡ m
digit_of_test zero h = refl
digit_of_test (suc zero) h = refl
digit_of_test (suc (suc m)) h = omega arith

test_of_digit : (b : Bool) → (digit b % 2 == 1) ≡ b
test_of_digit true = refl
test_of_digit false = refl

-- ---- numbers of strings

-- a string of n bits writes a number below 2 ^ n
pub number-lt : (s : List Bool) → number s < 2 ^ length s
unfolding number
number-lt [] = omega arith
number-lt (true ∷ s) = rw pow-suc (omega (arith, number-lt s))
number-lt (false ∷ s) = rw pow-suc (omega (arith, number-lt s))

pub number-append : (s t : List Bool) → number (s ++ t) ≡ number s * 2 ^ length t + number t
unfolding number
number-append [] t = omega arith
number-append (true ∷ s) t =
    rw (number-append s t, length-append s t, pow-add 2 (length s) (length t)) (omega arith)
number-append (false ∷ s) t =
    rw (number-append s t, length-append s t, pow-add 2 (length s) (length t)) (omega arith)

pub number-bits_mod : (v w : ℕ) → number (bits v w) ≡ v % 2 ^ w
unfolding number bits
number-bits_mod v zero = omega arith
number-bits_mod v (suc w) =
    rw (length-bits v w, number-bits_mod v w, digit_of_test (v / 2 ^ w % 2) (mod-lt _ (omega arith)), ← one-add w, mod-pow-add v 1 w) refl

-- `number` gives back what `bits` wrote
pub number-bits : (v w : ℕ) → v < 2 ^ w → number (bits v w) ≡ v
number-bits v w h = number-bits_mod v w ∙ mod-eq_of_lt h

-- ---- strings of numbers

odd_of_low : (n j : ℕ) → n % 2 ^ (j + 1) % 2 ≡ n % 2
odd_of_low n j = rw (mod-pow-add n j 1) (omega arith)

low_digit : (v w m : ℕ) → suc w ≤ m → v % 2 ^ m / 2 ^ w % 2 ≡ v / 2 ^ w % 2
low_digit v w m h =
    let j : ℕ = m - suc w in
    let e : m ≡ (j + 1) + w = omega arith in
    rw (e, field_of v (j + 1) w) (odd_of_low (v / 2 ^ w) j)

-- only the low digits count
pub bits_of_low : (v w m : ℕ) → w ≤ m → bits (v % 2 ^ m) w ≡ bits v w
unfolding bits
bits_of_low v zero m h = refl
bits_of_low v (suc w) m h =
    rw (bits_of_low v w m (omega arith)) (ap (λ d. (d == 1) ∷ bits v w) (low_digit v w m h))

pub bits-mod : (v w : ℕ) → bits (v % 2 ^ w) w ≡ bits v w
bits-mod v w = bits_of_low v w w (omega arith)

-- `bits` gives back what `number` read
pub bits-number : (s : List Bool) → bits (number s) (length s) ≡ s
unfolding number bits
bits-number [] = refl
bits-number (b ∷ s) =
    ap₂ (λ c t. c ∷ t)
    (rw (shr_high (digit b) (length s) (number s) (number-lt s)) (test_of_digit b))
    (sym (bits-mod (digit b * 2 ^ length s + number s) (length s)) ∙ (rw (mod_low (digit b) (length s) (number s) (number-lt s)) (bits-number s)))

-- ---- strings joined of two

pub bits-none : (v : ℕ) → bits v 0 ≡ []
unfolding bits
bits-none v = refl

pub bits-split : (v n w : ℕ) → bits v (n + w) ≡ bits (v / 2 ^ w) n ++ bits v w
unfolding bits
bits-split v zero w = rw (zero-add w) refl
bits-split v (suc n) w = rw (suc-add n w, bits-split v n w, shr-shr v w n, add_comm w n) refl

pub bits-append : (a b n w : ℕ) → b < 2 ^ w → bits (a * 2 ^ w + b) (n + w) ≡ bits a n ++ bits b w
bits-append a b n w h =
    bits-split (a * 2 ^ w + b) n w
    ∙ ap₂ (λ s t. s ++ t) (ap (λ v. bits v n) (shr_high a w b h)) (sym (bits-mod (a * 2 ^ w + b) w) ∙ ap (λ v. bits v w) (mod_low a w b h))

pub take-bits : (v n w : ℕ) → take n (bits v (n + w)) ≡ bits (v / 2 ^ w) n
take-bits v n w = rw (bits-split v n w) (take_at (bits (v / 2 ^ w) n) (bits v w) n (length-bits (v / 2 ^ w) n))

pub drop-bits : (v n w : ℕ) → drop n (bits v (n + w)) ≡ bits v w
drop-bits v n w = rw (bits-split v n w) (drop_at (bits (v / 2 ^ w) n) (bits v w) n (length-bits (v / 2 ^ w) n))

-- ---- strings of one bit repeated

pub bits-zero : (w : ℕ) → bits 0 w ≡ replicate w false
unfolding bits
bits-zero zero = refl
bits-zero (suc w) = rw (zero-div (2 ^ w), bits-zero w) refl

pub number-replicate_false : (n : ℕ) → number (replicate n false) ≡ 0
unfolding number
number-replicate_false zero = refl
number-replicate_false (suc n) = omega (arith, number-replicate_false n)

pub number-replicate_true : (n : ℕ) → number (replicate n true) + 1 ≡ 2 ^ n
unfolding number
number-replicate_true zero = refl
number-replicate_true (suc n) = rw (length-replicate n true, pow-suc 2 n) (omega (arith, number-replicate_true n))

pub bits-ones : (n : ℕ) → bits (2 ^ n - 1) n ≡ replicate n true
bits-ones n =
    let e : 2 ^ n - 1 ≡ number (replicate n true) = omega (arith, number-replicate_true n) in
    let l : length (replicate n true) ≡ n = length-replicate n true in
    ap (λ v. bits v n) e ∙ subst (λ k. bits (number (replicate n true)) k ≡ replicate n true) l (bits-number (replicate n true))

-- a number shifted up by o bits within n + o bits
pub bits-shl : (v n o : ℕ) → bits (v * 2 ^ o % 2 ^ (n + o)) (n + o) ≡ drop o (bits v (o + n)) ++ replicate o false
bits-shl v n o =
    bits-mod (v * 2 ^ o) (n + o)
    ∙ ap (λ x. bits x (n + o)) (sym (add-zero (v * 2 ^ o)))
    ∙ bits-append v 0 n o (pow_pos o)
    ∙ ap₂ (λ s t. s ++ t) (sym (drop-bits v o n)) (bits-zero o)

-- the w bits from place r on of a number of z bits, by two shifts
pub bits-inside :
    (x z r w : ℕ) → r + w ≤ z → bits (x * 2 ^ r % 2 ^ z / 2 ^ (z - w)) w ≡ take w (drop r (bits x z))
bits-inside x z r w h =
    let n : ℕ = z - r in
    let low : ℕ = z - w in
    let zn : z ≡ n + r = omega arith in
    let nz : r + n ≡ z = omega arith in
    let zw : w + low ≡ z = omega arith in
    let y : ℕ = x * 2 ^ r % 2 ^ z in
    let shifted : bits y z ≡ drop r (bits x z) ++ replicate r false =
    subst (λ k. bits (x * 2 ^ r % 2 ^ k) k ≡ drop r (bits x z) ++ replicate r false) (sym zn)
    (subst (λ k. bits (x * 2 ^ r % 2 ^ (n + r)) (n + r) ≡ drop r (bits x k) ++ replicate r false) nz (bits-shl x n r)) in
    let long : w ≤ length (drop r (bits x z)) = simp (length-drop, length-bits) (omega arith) in
    sym (subst (λ k. take w (bits y k) ≡ bits (y / 2 ^ low) w) zw (take-bits y w low))
    ∙ ap (take w) shifted
    ∙ take-append-le w (drop r (bits x z)) (replicate r false) long
