-- Laws of strings held in blocks of z bits: the bits come back, and what a write or a read of one block does.
use Rattle.std.proofs.Common.{◌≡◌, ℕ, zero, suc, ◌+◌, ◌-◌, ◌*◌, ◌^◌, ◌<◌, ◌≤◌, Bool, false, List, [], ◌∷◌, ◌++◌, length, take, drop, replicate, set, get_or, All, refl, sym, ap, ap₂, ◌∙◌, subst, arith, length-append, length-drop, length-take, take_at, drop_at, take-append-drop, append_assoc, append-nil, pow-add, suc-add, zero-add, inl, inr}
use Rattle.std.proofs.lemmas.Bool.{cases_lt}
use Rattle.std.proofs.lemmas.List.{length-replicate, take-append-le, drop-append-le, drop_all, replicate-append-replicate}
use Rattle.std.proofs.lemmas.List.Elements.{All-head, All-tail, All-cons, All-nil}
use Rattle.pos_bits.specs.Bits.{bits, number}
use Rattle.pos_bits.specs.Blocks.{bits_of_blocks, blocks, length-bits}
use Rattle.pos_bits.proofs.BitsLemmas.{bits-number, number-append, number-bits, number-lt, number-replicate_false}

-- ---- one block

-- the bits of the first block of a string
abbrev pub first_block : ℕ → List Bool → List Bool
first_block z s = take z (s ++ replicate z false)

pub length-first_block : (z : ℕ) (s : List Bool) → length (first_block z s) ≡ z
length-first_block z s = rw (length-take, length-append, length-replicate) (omega arith)

pub first_block_long : (z : ℕ) (s : List Bool) → z ≤ length s → first_block z s ≡ take z s
first_block_long z s h = take-append-le z s (replicate z false) h

pub first_block_short : (z : ℕ) (s : List Bool) → length s ≤ z → first_block z s ≡ s ++ replicate (z - length s) false
first_block_short z s h =
    let n : ℕ = z - length s in
    let e : n + length s ≡ z = omega arith in
    let whole : s ++ replicate z false ≡ (s ++ replicate n false) ++ replicate (length s) false =
    ap (λ t. s ++ t) (ap (λ k. replicate k false) (sym e) ∙ sym (replicate-append-replicate n (length s) false))
    ∙ sym (append_assoc s (replicate n false) (replicate (length s) false)) in
    ap (take z) whole
    ∙ take_at (s ++ replicate n false) (replicate (length s) false) z (rw (length-append, length-replicate) (omega arith))

pub bits-first_block : (z : ℕ) (s : List Bool) → bits (number (first_block z s)) z ≡ first_block z s
bits-first_block z s =
    subst (λ k. bits (number (first_block z s)) k ≡ first_block z s) (length-first_block z s) (bits-number (first_block z s))

pub number-first_block : (z : ℕ) (s : List Bool) → length s ≤ z → number (first_block z s) ≡ number s * 2 ^ (z - length s)
number-first_block z s h =
    ap number (first_block_short z s h)
    ∙ number-append s (replicate (z - length s) false)
    ∙ rw (length-replicate (z - length s) false, number-replicate_false (z - length s)) (omega arith)

-- ---- the bits come back

rejoined :
    (z n : ℕ) (s : List Bool) → length s ≤ z * suc n →
    first_block z s ++ (drop z s ++ replicate (z * n - length (drop z s)) false) ≡ s ++ replicate (z * suc n - length s) false
rejoined z n s h =
    elim (cases_lt (length s) z) [
      | inl short ↦
          let nil : drop z s ≡ [] = drop_all z s (omega arith) in
          let e : (z - length s) + (z * n - 0) ≡ z * suc n - length s = omega arith in
          rw (nil, first_block_short z s (omega arith), append_assoc s, replicate-append-replicate (z - length s) (z * n - 0) false, e) refl
      | inr long ↦
          let e : z * n - (length s - z) ≡ z * suc n - length s = omega arith in
          rw (first_block_long z s long, length-drop z s, e, ← append_assoc (take z s) (drop z s), take-append-drop z s) refl
    ]

pub bits_of_blocks-blocks :
    (z n : ℕ) (s : List Bool) → length s ≤ z * n →
    bits_of_blocks z (blocks z n s) ≡ s ++ replicate (z * n - length s) false
unfolding blocks bits_of_blocks
bits_of_blocks-blocks z zero [] h = let e : z * 0 - 0 ≡ 0 = omega arith in rw e refl
bits_of_blocks-blocks z zero (b ∷ s) h = absurd (omega arith)
bits_of_blocks-blocks z (suc n) s h =
    let size : z * suc n ≡ z + z * n = omega arith in
    let rest : length (drop z s) ≤ z * n = rw (length-drop z s) (omega arith) in
    let tail : bits_of_blocks z (blocks z n (drop z s)) ≡ drop z s ++ replicate (z * n - length (drop z s)) false =
    bits_of_blocks-blocks z n (drop z s) rest in
    ap₂ (λ a b. a ++ b) (bits-first_block z s) tail ∙ rejoined z n s h

pub take-bits_of_blocks : (z n : ℕ) (s : List Bool) → length s ≤ z * n → take (length s) (bits_of_blocks z (blocks z n s)) ≡ s
take-bits_of_blocks z n s h =
    rw (bits_of_blocks-blocks z n s h) (take_at s (replicate (z * n - length s) false) (length s) refl)

-- blocks of the bits of blocks are those blocks
pub blocks-append :
    (z n : ℕ) (xs : List ℕ) (s : List Bool) → All (λ x. x < 2 ^ z) xs →
    blocks z (length xs + n) (bits_of_blocks z xs ++ s) ≡ xs ++ blocks z n s
unfolding blocks bits_of_blocks
blocks-append z n [] s h = rw (zero-add n) refl
blocks-append z n (x ∷ xs) s h =
    let r : List Bool = bits_of_blocks z xs ++ s in
    let l : length (bits x z) ≡ z = length-bits x z in
    let whole : (bits x z ++ bits_of_blocks z xs) ++ s ≡ bits x z ++ r = append_assoc (bits x z) (bits_of_blocks z xs) s in
    let first : take z ((bits x z ++ r) ++ replicate z false) ≡ bits x z =
    ap (take z) (append_assoc (bits x z) r (replicate z false)) ∙ take_at (bits x z) (r ++ replicate z false) z l in
    let rest : drop z (bits x z ++ r) ≡ r = drop_at (bits x z) r z l in
    rw (suc-add (length xs) n, whole, first, rest, number-bits x z (All-head (λ y. y < 2 ^ z) x xs h), blocks-append z n xs s (All-tail (λ y. y < 2 ^ z) x xs h)) refl

pub blocks-lt : (z n : ℕ) (s : List Bool) → All (λ x. x < 2 ^ z) (blocks z n s)
unfolding blocks
blocks-lt z zero s = All-nil (λ x. x < 2 ^ z)
blocks-lt z (suc n) s =
    All-cons (λ x. x < 2 ^ z) (number (first_block z s)) (blocks z n (drop z s))
    (subst (λ k. number (first_block z s) < 2 ^ k) (length-first_block z s) (number-lt (first_block z s)))
    (blocks-lt z n (drop z s))

-- ---- a write and a read of one block

-- appends bits that do not pass the end of the block that the string ends in
pub set-blocks :
    (z n q r : ℕ) (s : List Bool) (v w : ℕ) → length s ≡ z * q + r → r + w ≤ z → q < n → v < 2 ^ w →
    set (blocks z n s) q (get_or (blocks z n s) q 0 + v * 2 ^ (z - r - w)) ≡ blocks z n (s ++ bits v w)
unfolding blocks
set-blocks z zero q r s v w l h i p = absurd (omega arith)
set-blocks z (suc n) zero r s v w l h i p =
    let t : List Bool = s ++ bits v w in
    let size : length s ≡ r = omega arith in
    let lt : length t ≡ r + w = rw (length-append s (bits v w), length-bits v w) (omega arith) in
    let shift : 2 ^ (z - r) ≡ 2 ^ w * 2 ^ (z - r - w) =
    let e : z - r ≡ w + (z - r - w) = omega arith in ap (λ k. 2 ^ k) e ∙ pow-add 2 w (z - r - w) in
    let before : number (first_block z s) ≡ number s * 2 ^ (z - r) =
    subst (λ k. number (first_block z s) ≡ number s * 2 ^ (z - k)) size (number-first_block z s (omega arith)) in
    let after : number (first_block z t) ≡ number t * 2 ^ (z - r - w) =
    let e : z - length t ≡ z - r - w = omega arith in
    subst (λ k. number (first_block z t) ≡ number t * 2 ^ k) e (number-first_block z t (omega arith)) in
    let value : number t ≡ number s * 2 ^ w + v =
    number-append s (bits v w) ∙ rw (length-bits v w, number-bits v w p) refl in
    let first : number (first_block z s) + v * 2 ^ (z - r - w) ≡ number (first_block z t) =
    rw (before, after, value, shift) (omega arith) in
    let none : drop z s ≡ drop z t = drop_all z s (omega arith) ∙ sym (drop_all z t (omega arith)) in
    ap₂ (λ x xs. x ∷ xs) first (ap (blocks z n) none)
set-blocks z (suc n) (suc q) r s v w l h i p =
    let long : z ≤ length s = omega arith in
    let same : first_block z s ≡ first_block z (s ++ bits v w) =
    first_block_long z s long
    ∙ sym (take-append-le z s (bits v w) long)
    ∙ sym (first_block_long z (s ++ bits v w) (rw (length-append s (bits v w)) (omega arith))) in
    ap₂ (λ x xs. x ∷ xs) (ap number same)
    (set-blocks z n q r (drop z s) v w (rw (length-drop z s) (omega arith)) h (omega arith) p
    ∙ ap (blocks z n) (sym (drop-append-le z s (bits v w) long)))

pub bits_of_blocks-append : (z : ℕ) (xs ys : List ℕ) → bits_of_blocks z (xs ++ ys) ≡ bits_of_blocks z xs ++ bits_of_blocks z ys
unfolding bits_of_blocks
bits_of_blocks-append z [] ys = refl
bits_of_blocks-append z (x ∷ xs) ys =
    rw (bits_of_blocks-append z xs ys, append_assoc (bits x z) (bits_of_blocks z xs) (bits_of_blocks z ys)) refl

pub bits_of_blocks-one : (z x : ℕ) → bits_of_blocks z (x ∷ []) ≡ bits x z
unfolding bits_of_blocks
bits_of_blocks-one z x = append-nil (bits x z)
