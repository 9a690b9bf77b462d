-- Fields in a part of a string, and two fields put or read at once.
use Rattle.std.proofs.Common.{◌≡◌, ℕ, ◌+◌, ◌-◌, ◌*◌, ◌/◌, ◌%◌, ◌^◌, ◌<◌, ◌≤◌, Bool, List, ◌++◌, take, drop, sym, ap, ap₂, ◌∙◌, subst, arith, append_assoc, drop-drop, take-take, pow_mono, lt_of_lt_of_le}
use Rattle.std.proofs.lemmas.List.{drop-take}
use Rattle.std.proofs.lemmas.Nat.{shr_below, shr_high}
use Rattle.pos_bits.specs.Bits.{bits, number}
use Rattle.pos_bits.proofs.BitsLemmas.{bits-append}
use Rattle.pos_bits.proofs.PiecesLemmas.{joined-lt, shifted}
use Rattle.pos_record.specs.Fields.{part_at, field_at}

-- a part of a part
pub part-inside :
    (s : List Bool) (at n a w place width : ℕ) → place ≡ at + a → width ≡ w → a + w ≤ n → part_at place width s ≡ part_at a w (part_at at n s)
part-inside s at n a w place width p q h =
    let rest : ℕ = n - a in
    let size : a + rest ≡ n = omega arith in
    let inner : drop a (take n (drop at s)) ≡ take rest (drop (at + a) s) =
    ap (λ k. drop a (take k (drop at s))) (sym size) ∙ drop-take a rest (drop at s) ∙ ap (take rest) (drop-drop a at s) in
    ap₂ (λ i k. part_at i k s) p q ∙ sym (ap (take w) inner ∙ take-take w rest (drop (at + a) s) (omega arith))

pub field-inside :
    (s : List Bool) (at n a w place width : ℕ) → place ≡ at + a → width ≡ w → a + w ≤ n → field_at place width s ≡ field_at a w (part_at at n s)
field-inside s at n a w place width p q h = ap number (part-inside s at n a w place width p q h)

-- ---- two fields at once

pub two-fit : (first a second b : ℕ) → first < 2 ^ a → second < 2 ^ b → a + b ≤ 56 → first * 2 ^ b % 2 ^ 64 + second < 2 ^ (a + b)
two-fit first a second b f s h = rw (shifted 64 first a b f (omega arith)) (joined-lt first a b second f s)

pub two-fit_word : (first a second b : ℕ) → first < 2 ^ a → second < 2 ^ b → a + b ≤ 56 → first * 2 ^ b % 2 ^ 64 + second < 2 ^ 64
two-fit_word first a second b f s h =
    let le : a + b ≤ 64 = omega arith in
    lt_of_lt_of_le (two-fit first a second b f s h) (pow_mono le)

pub two-bits : (first a second b : ℕ) → first < 2 ^ a → second < 2 ^ b → a + b ≤ 56 → bits (first * 2 ^ b % 2 ^ 64 + second) (a + b) ≡ bits first a ++ bits second b
two-bits first a second b f s h =
    ap (λ x. bits (x + second) (a + b)) (shifted 64 first a b f (omega arith)) ∙ bits-append first second a b s

-- ---- a number in two parts

pub high-lt : (high low width : ℕ) → 128 ≤ width → low < 2 ^ 128 → high * 2 ^ 128 + low < 2 ^ width → high < 2 ^ (width - 128)
high-lt high low width w l h =
    let size : width ≡ (width - 128) + 128 = omega arith in
    subst (λ (x : ℕ). x < 2 ^ (width - 128)) (shr_high high 128 low l)
    (shr_below (high * 2 ^ 128 + low) (width - 128) 128 (subst (λ k. high * 2 ^ 128 + low < 2 ^ k) size h))

pub high-none : (high low width : ℕ) → width ≤ 128 → high * 2 ^ 128 + low < 2 ^ width → high * 2 ^ 128 + low ≡ low
high-none high low width w h =
    let below : high * 2 ^ 128 + low < 2 ^ 128 = lt_of_lt_of_le h (pow_mono w) in
    omega arith

pub low-fits : (high low width : ℕ) → width ≤ 128 → high * 2 ^ 128 + low < 2 ^ width → low < 2 ^ width
low-fits high low width w h = subst (λ (x : ℕ). x < 2 ^ width) (high-none high low width w h) h

pub parts-joined : (high low width : ℕ) → 128 ≤ width → low < 2 ^ 128 → bits high (width - 128) ++ bits low 128 ≡ bits (high * 2 ^ 128 + low) width
parts-joined high low width w l =
    let size : (width - 128) + 128 ≡ width = omega arith in
    sym (bits-append high low (width - 128) 128 l) ∙ ap (bits (high * 2 ^ 128 + low)) size

pub short-high : (n width : ℕ) → width ≤ 128 → n < 2 ^ width → 0 ≡ n / 2 ^ 128
short-high n width w h =
    let below : n < 2 ^ 128 = lt_of_lt_of_le h (pow_mono w) in
    omega arith

pub short-low : (n width : ℕ) → width ≤ 128 → n < 2 ^ width → n ≡ n % 2 ^ 128
short-low n width w h =
    let below : n < 2 ^ 128 = lt_of_lt_of_le h (pow_mono w) in
    omega arith

-- both parts read from one string
pub whole-field : (s : List Bool) (at width place : ℕ) → 128 ≤ width → place ≡ (width - 128) + 128 → field_at at place s ≡ field_at at width s
whole-field s at width place w p = ap (λ k. field_at at k s) (let e : place ≡ width = omega arith in e)

-- one more field behind what stands
pub behind-two : (start a b : List Bool) (x y : List Bool) → x ≡ start ++ a → y ≡ x ++ b → y ≡ start ++ (a ++ b)
behind-two start a b x y p q = q ∙ ap (λ t. t ++ b) p ∙ append_assoc start a b
