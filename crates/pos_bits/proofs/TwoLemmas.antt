-- Bits read from two words that stand one behind the other.
use Rattle.std.proofs.Common.{◌≡◌, ℕ, zero, suc, ◌+◌, ◌-◌, ◌*◌, ◌/◌, ◌%◌, ◌^◌, ◌<◌, ◌≤◌, Bool, List, [], ◌∷◌, ◌++◌, length, take, drop, get_or, refl, sym, ap, ap₂, ◌∙◌, subst, arith, length-append, length-drop, length-take, drop_at, take-append-drop, drop-drop, append-nil, append_assoc, pow-add, pow_pos, mod-lt, inl, inr}
use Rattle.std.proofs.Math.Nat.{div-add-mod}
use Rattle.std.proofs.Math.Seq.{drop-cons, drop-nil}
use Rattle.std.proofs.lemmas.Bool.{cases_lt}
use Rattle.std.proofs.lemmas.Nat.{mod-mul-add, mul-add-lt, shl_below, shr-shr, shr_below}
use Rattle.std.proofs.lemmas.List.{take-append-le, drop-append-le, drop_all, drop-take, take-take}
use Rattle.pos_bits.specs.Bits.{bits}
use Rattle.pos_bits.specs.Blocks.{bits_of_blocks, held_bits, length-bits}
use Rattle.pos_bits.proofs.BitsLemmas.{bits-append, bits-mod, drop-bits, take-bits}

-- the low digits of a word shifted to its top
pub shifted_up : (w r : ℕ) → r ≤ 64 → w * 2 ^ r % 2 ^ 64 ≡ (w % 2 ^ (64 - r)) * 2 ^ r
shifted_up w r h =
    let n : ℕ = 64 - r in
    let size : n + r ≡ 64 = omega arith in
    let whole : 2 ^ n * 2 ^ r ≡ 2 ^ 64 = sym (pow-add 2 n r) ∙ ap (λ k. 2 ^ k) size in
    let below : (w % 2 ^ n) * 2 ^ r < 2 ^ 64 = subst (λ k. (w % 2 ^ n) * 2 ^ r < 2 ^ k) size (shl_below (w % 2 ^ n) n r (mod-lt w (pow_pos n))) in
    let cut : w * 2 ^ r ≡ (w / 2 ^ n) * 2 ^ 64 + (w % 2 ^ n) * 2 ^ r =
    ap (λ x. x * 2 ^ r) (sym (div-add-mod w (2 ^ n))) ∙ rw (← whole) (omega arith) in
    ap (λ x. x % 2 ^ 64) cut ∙ mod-mul-add (w / 2 ^ n) (2 ^ 64) ((w % 2 ^ n) * 2 ^ r) below

-- a word shifted down by one and then by the rest
pub shifted_down : (w r : ℕ) → r < 64 → w / 2 ^ 1 / 2 ^ (63 - r) ≡ w / 2 ^ (64 - r)
shifted_down w r h = let e : 1 + (63 - r) ≡ 64 - r = omega arith in shr-shr w 1 (63 - r) ∙ ap (λ k. w / 2 ^ k) e

pub below_skip : (next r : ℕ) → r < 64 → next < 2 ^ 64 → next / 2 ^ 1 / 2 ^ (63 - r) < 2 ^ r
below_skip next r h fits =
    let e : 64 ≡ r + (64 - r) = omega arith in
    subst (λ x. x < 2 ^ r) (sym (shifted_down next r h)) (shr_below next r (64 - r) (subst (λ k. next < 2 ^ k) e fits))

pub two-fits : (word next r : ℕ) → r < 64 → next < 2 ^ 64 → word * 2 ^ r % 2 ^ 64 + next / 2 ^ 1 / 2 ^ (63 - r) < 2 ^ 64
two-fits word next r h fits =
    let n : ℕ = 64 - r in
    let size : n + r ≡ 64 = omega arith in
    let whole : 2 ^ n * 2 ^ r ≡ 2 ^ 64 = sym (pow-add 2 n r) ∙ ap (λ k. 2 ^ k) size in
    let low : next / 2 ^ 1 / 2 ^ (63 - r) < 2 ^ r = below_skip next r h fits in
    let high : word % 2 ^ n < 2 ^ n = mod-lt word (pow_pos n) in
    rw (shifted_up word r (omega arith), ← whole) (omega (arith, mul-add-lt (word % 2 ^ n) (2 ^ r) (next / 2 ^ 1 / 2 ^ (63 - r)) (2 ^ n) high low))

pub two-bits : (word next r : ℕ) → r < 64 → next < 2 ^ 64
    → bits (word * 2 ^ r % 2 ^ 64 + next / 2 ^ 1 / 2 ^ (63 - r)) 64 ≡ drop r (bits word 64) ++ take r (bits next 64)
two-bits word next r h fits =
    let n : ℕ = 64 - r in
    let size : n + r ≡ 64 = omega arith in
    let turned : r + n ≡ 64 = omega arith in
    let low : ℕ = next / 2 ^ 1 / 2 ^ (63 - r) in
    let first : drop r (bits word 64) ≡ bits (word % 2 ^ n) n =
    subst (λ k. drop r (bits word k) ≡ bits word n) turned (drop-bits word r n) ∙ sym (bits-mod word n) in
    let second : take r (bits next 64) ≡ bits low r =
    subst (λ k. take r (bits next k) ≡ bits (next / 2 ^ n) r) turned (take-bits next r n) ∙ ap (λ x. bits x r) (sym (shifted_down next r h)) in
    ap (λ x. bits (x + low) 64) (shifted_up word r (omega arith))
    ∙ subst (λ k. bits ((word % 2 ^ n) * 2 ^ r + low) k ≡ bits (word % 2 ^ n) n ++ bits low r) size (bits-append (word % 2 ^ n) low n r (below_skip next r h fits))
    ∙ sym (ap₂ (λ a b. a ++ b) first second)

pub drop-bits_of_blocks : (z q : ℕ) (xs : List ℕ) → drop (z * q) (bits_of_blocks z xs) ≡ bits_of_blocks z (drop q xs)
unfolding bits_of_blocks
drop-bits_of_blocks z zero xs = let e : z * 0 ≡ 0 = omega arith in ap (λ k. drop k (bits_of_blocks z xs)) e
drop-bits_of_blocks z (suc q) [] = drop-nil (z * suc q)
drop-bits_of_blocks z (suc q) (x ∷ xs) =
    let e : z * suc q ≡ z + z * q = omega arith in
    ap (λ k. drop k (bits x z ++ bits_of_blocks z xs)) e
    ∙ sym (drop-drop (z * q) z (bits x z ++ bits_of_blocks z xs))
    ∙ ap (drop (z * q)) (drop_at (bits x z) (bits_of_blocks z xs) z (length-bits x z))
    ∙ drop-bits_of_blocks z q xs

-- the first bits of two words joined, from a place in the first one on
pub within_two : (word next r width : ℕ) (rest : List Bool) → r < 64 → width ≤ 64
    → take width (drop r (bits word 64 ++ (bits next 64 ++ rest))) ≡ take width (drop r (bits word 64) ++ take r (bits next 64))
within_two word next r width rest h few =
    let a : List Bool = drop r (bits word 64) in
    let b : List Bool = bits next 64 in
    let from : drop r (bits word 64 ++ (b ++ rest)) ≡ a ++ (b ++ rest) = drop-append-le r (bits word 64) (b ++ rest) (rw (length-bits word 64) (omega arith)) in
    let long : length (a ++ take r b) ≡ 64 = rw (length-append, length-drop, length-take, length-bits word 64, length-bits next 64) (omega arith) in
    let joined : a ++ (b ++ rest) ≡ (a ++ take r b) ++ (drop r b ++ rest) =
    rw (append_assoc a (take r b), ← append_assoc (take r b) (drop r b) rest, take-append-drop r b) refl in
    ap (take width) (from ∙ joined) ∙ take-append-le width (a ++ take r b) (drop r b ++ rest) (rw long few)

-- the number of so many bits of a string that words hold, by two of the words
module _ (words : List ℕ) (len : ℕ) (old : List Bool) (eight : length words ≡ 8) (at_most : len ≤ 512) (is : held_bits words len ≡ old)
    (start width x next : ℕ) (few : width ≤ 64) (there : start + width ≤ len) where
  abbrev pub q : ℕ
  q = start / 64

  abbrev pub r : ℕ
  r = start % 64

  abbrev pub word : ℕ
  word = get_or words q 0

  abbrev all_words : List Bool
  all_words = bits_of_blocks 64 words

  -- the wanted bits are those of all words
  of_all : take width (drop start old) ≡ take width (drop r (drop (64 * q) all_words))
  of_all =
      let e : len ≡ start + (len - start) = omega arith in
      let place : start ≡ 64 * q + r = omega arith in
      ap (λ s. take width (drop start s)) (sym is)
      ∙ ap (λ k. take width (drop start (take k all_words))) e
      ∙ ap (take width) (drop-take start (len - start) all_words)
      ∙ take-take width (len - start) (drop start all_words) (omega arith)
      ∙ ap (λ k. take width (drop k all_words)) place
      ∙ ap (take width) (sym (drop-drop r (64 * q) all_words))

  pub held-two :
      0 < width → bits x 64 ≡ drop r (bits word 64) ++ take r (bits next 64)
      → (q < 7 → next ≡ get_or words (q + 1) 0) → take width (drop start old) ≡ bits (x / 2 ^ (64 - width)) width
  unfolding bits_of_blocks
  held-two some is_x is_next =
      let inside : q < length words = rw eight (omega (arith, some, at_most, there)) in
      let from : drop (64 * q) all_words ≡ bits word 64 ++ bits_of_blocks 64 (drop (suc q) words) =
      drop-bits_of_blocks 64 q words ∙ ap (bits_of_blocks 64) (drop-cons words q 0 inside) in
      let wanted : take width (drop r (bits word 64 ++ bits_of_blocks 64 (drop (suc q) words))) ≡ take width (drop r (bits word 64) ++ take r (bits next 64)) =
      elim (cases_lt q 7) [
        | inl more ↦
            let same : q + 1 ≡ suc q = omega arith in
            let second : drop (suc q) words ≡ next ∷ drop (suc (suc q)) words =
            drop-cons words (suc q) 0 (rw eight (omega arith)) ∙ ap (λ y. y ∷ drop (suc (suc q)) words) (sym (is_next more ∙ ap (λ k. get_or words k 0) same)) in
            ap (λ ws. take width (drop r (bits word 64 ++ bits_of_blocks 64 ws))) second
            ∙ within_two word next r width (bits_of_blocks 64 (drop (suc (suc q)) words)) (omega arith) few
        | inr last ↦
            let none : drop (suc q) words ≡ [] = drop_all (suc q) words (rw eight (omega arith)) in
            ap (λ ws. take width (drop r (bits word 64 ++ bits_of_blocks 64 ws))) none
            ∙ ap (λ s. take width (drop r s)) (append-nil (bits word 64))
            ∙ sym (take-append-le width (drop r (bits word 64)) (take r (bits next 64)) (rw (length-drop, length-bits word 64) (omega (arith, some, at_most, there, last))))
      ] in
      let size : width + (64 - width) ≡ 64 = omega (arith, few) in
      of_all
      ∙ ap (λ s. take width (drop r s)) from
      ∙ wanted
      ∙ ap (take width) (sym is_x)
      ∙ subst (λ k. take width (bits x k) ≡ bits (x / 2 ^ (64 - width)) width) size (take-bits x width (64 - width))
