-- The code of a number is told apart from its front, and is found where a window or a string begins with its parts.
use Rattle.std.proofs.Common.{◌≡◌, ℕ, zero, suc, ◌+◌, ◌-◌, ◌*◌, ◌/◌, ◌%◌, ◌^◌, ◌<◌, ◌≤◌, min, Bool, true, false, List, [], ◌∷◌, ◌++◌, length, take, drop, replicate, refl, sym, ap, ap₂, ◌∙◌, inl, inr, subst, arith, w64, append_assoc, length-append, length-drop, take-append-drop, drop-drop, take-take, append-nil, pow_pos, pow_mono, mod-eq_of_lt, mul-le-mul_right}
use Rattle.std.specs.Int.{leading_ones}
use Rattle.std.proofs.lemmas.Bool.{cases_lt}
use Rattle.std.proofs.lemmas.Nat.{div-add-mod', mod_below, div-mul-add, mod-mul-add, le-div, shr_below}
use Rattle.std.proofs.lemmas.List.{drop_all, drop-take, take-append-le}
use Rattle.std.proofs.Math.Nat.{div-mul-le_self}
use Rattle.pos_bits.specs.Bits.{bits, bits_of, number}
use Rattle.pos_bits.specs.Blocks.{length-bits}
use Rattle.pos_bits.specs.Codes.{code_bits}
use Rattle.pos_bits.proofs.BitsLemmas.{bits-inside, number-bits, number-bits_mod}
use Rattle.pos_bits.proofs.BytesLemmas.{length-bits_of}
use Rattle.pos_bits.proofs.PiecesLemmas.{bits-part, joined-lt, shifted}
use Rattle.pos_bits.proofs.ReaderLemmas.{bits_at, window-ones, window-zero}

-- ---- what begins one string is one

-- a run of 1 bits ends at its 0 bit
pub run_only : (m n : ℕ) (s t : List Bool) → replicate m true ++ false ∷ s ≡ replicate n true ++ false ∷ t → (m ≡ n) × (s ≡ t)
run_only zero zero s t e = (refl, cc)
run_only zero (suc n) s t e = cc
run_only (suc m) zero s t e = cc
run_only (suc m) (suc n) s t e =
    let h : (m ≡ n) × (s ≡ t) = run_only m n s t cc in
    (ap suc h.0, h.1)

-- 1 bits alone have no end
run_ends : (m n : ℕ) (s : List Bool) → replicate m true ≡ replicate n true ++ false ∷ s → ⊥
run_ends zero zero s e = cc
run_ends zero (suc n) s e = cc
run_ends (suc m) zero s e = cc
run_ends (suc m) (suc n) s e = run_ends m n s cc

-- lists of one length that begin one list are the same
pub append_only : (a b s t : List Bool) → length a ≡ length b → a ++ s ≡ b ++ t → (a ≡ b) × (s ≡ t)
append_only [] [] s t l e = (refl, e)
append_only [] (y ∷ b) s t l e = absurd (omega arith)
append_only (x ∷ a) [] s t l e = absurd (omega arith)
append_only (x ∷ a) (y ∷ b) s t l e =
    let h : (a ≡ b) × (s ≡ t) = append_only a b s t (omega arith) cc in
    (cc, h.1)

-- numbers of one width that begin one list are the same
pub bits_only : (a b w : ℕ) (s t : List Bool) → a < 2 ^ w → b < 2 ^ w → bits a w ++ s ≡ bits b w ++ t → (a ≡ b) × (s ≡ t)
bits_only a b w s t p q e =
    let h : (bits a w ≡ bits b w) × (s ≡ t) = append_only (bits a w) (bits b w) s t (length-bits a w ∙ sym (length-bits b w)) e in
    (sym (number-bits a w p) ∙ (ap number h.0 ∙ number-bits b w q), h.1)

-- a code, with what follows it
pub code_split : (low n : ℕ) (s : List Bool) → code_bits low n ++ s ≡ replicate (n / 2 ^ low) true ++ false ∷ (bits (n % 2 ^ low) low ++ s)
unfolding code_bits
code_split low n s = append_assoc (replicate (n / 2 ^ low) true) (false ∷ bits (n % 2 ^ low) low) s

-- codes that begin one list are the same
pub code_only : (low m n : ℕ) (s t : List Bool) → code_bits low m ++ s ≡ code_bits low n ++ t → (m ≡ n) × (s ≡ t)
code_only low m n s t h =
    let run : (m / 2 ^ low ≡ n / 2 ^ low) × (bits (m % 2 ^ low) low ++ s ≡ bits (n % 2 ^ low) low ++ t) =
    run_only (m / 2 ^ low) (n / 2 ^ low) (bits (m % 2 ^ low) low ++ s) (bits (n % 2 ^ low) low ++ t) (sym (code_split low m s) ∙ (h ∙ code_split low n t)) in
    let rest : (m % 2 ^ low ≡ n % 2 ^ low) × (s ≡ t) =
    bits_only (m % 2 ^ low) (n % 2 ^ low) low s t (mod_below m (2 ^ low) (pow_pos low)) (mod_below n (2 ^ low) (pow_pos low)) run.1 in
    (sym (div-add-mod' m (2 ^ low)) ∙ ((cc) ∙ div-add-mod' n (2 ^ low)), rest.1)

-- ---- a code that is there

-- a run and low bits are the code of a number
pub code_is : (low run value : ℕ) (t : List Bool) → value < 2 ^ low → replicate run true ++ false ∷ (bits value low ++ t) ≡ code_bits low (run * 2 ^ low + value) ++ t
code_is low run value t h =
    sym (code_split low (run * 2 ^ low + value) t ∙ rw (div-mul-add run (2 ^ low) value h, mod-mul-add run (2 ^ low) value h) refl)

-- a number of one bit more, the top one of them 0
top_bit_none : (v w : ℕ) (t : List Bool) → v < 2 ^ suc w → bits v (suc w) ≡ false ∷ t → (v < 2 ^ w) × (bits v w ≡ t)
unfolding bits number
top_bit_none v w t h e =
    let low : bits v w ≡ t = cc in
    let none : number (false ∷ t) ≡ number t = omega arith in
    let same : v ≡ v % 2 ^ w = sym (number-bits v (suc w) h) ∙ ap number e ∙ none ∙ ap number (sym low) ∙ number-bits_mod v w in
    let below : v % 2 ^ w < 2 ^ w = mod_below v (2 ^ w) (pow_pos w) in
    (subst (λ x. x < 2 ^ w) (sym same) below, low)

-- the code that a window of 57 bits begins with
module _ (bs : List ℕ) (at window ones low : ℕ) (fits : window < 2 ^ 64) (is : take 57 (bits window 64) ≡ take 57 (bits_at bs at)) (run : ones ≡ leading_ones w64 window) (short : ones + low < 57) (there : at + 57 ≤ 8 * length bs) where
  -- the low bits, by two shifts
  value : ℕ
  value = window * 2 ^ ones % 2 ^ 64 / 2 ^ (63 - low)

  least : ones ≡ min (leading_ones w64 window) 57
  least = omega (arith, run, short)

  first : drop at (bits_of bs) ≡ replicate ones true ++ drop (at + ones) (bits_of bs)
  first = window-ones bs at window ones fits is least

  next : drop (at + ones) (bits_of bs) ≡ false ∷ drop (at + ones + 1) (bits_of bs)
  next = window-zero bs at window ones fits is least (omega (arith, short)) (omega (arith, short, there))

  long : ones + suc low ≤ length (drop at (bits_of bs))
  long = rw (length-drop, length-bits_of) (omega (arith, short, there))

  cut : bits value (suc low) ≡ take (suc low) (drop ones (bits window 64))
  unfolding value
  cut =
      let size : 64 - suc low ≡ 63 - low = omega arith in
      subst (λ k. bits (window * 2 ^ ones % 2 ^ 64 / 2 ^ k) (suc low) ≡ take (suc low) (drop ones (bits window 64))) size
      (bits-inside window 64 ones (suc low) (omega (arith, short)))

  same_bits : take (suc low) (drop ones (bits window 64)) ≡ take (suc low) (drop ones (drop at (bits_of bs)))
  same_bits =
      let n : ℕ = ones + suc low in
      let few : n ≤ 57 = omega (arith, short) in
      sym (drop-take ones (suc low) (bits window 64))
      ∙ ap (drop ones)
      (sym (take-take n 57 (bits window 64) few) ∙ ap (take n) is ∙ take-take n 57 (bits_at bs at) few ∙ take-append-le n (drop at (bits_of bs)) (replicate 64 false) long)
      ∙ drop-take ones (suc low) (drop at (bits_of bs))

  low_bits_are : bits value (suc low) ≡ false ∷ take low (drop (at + ones + 1) (bits_of bs))
  low_bits_are = cut ∙ same_bits ∙ ap (take (suc low)) (drop-drop ones at (bits_of bs) ∙ next)

  value_lt : value < 2 ^ suc low
  unfolding value
  value_lt =
      let size : 64 ≡ suc low + (63 - low) = omega (arith, short) in
      shr_below (window * 2 ^ ones % 2 ^ 64) (suc low) (63 - low)
      (subst (λ k. window * 2 ^ ones % 2 ^ 64 < 2 ^ k) size (mod_below (window * 2 ^ ones) (2 ^ 64) (pow_pos 64)))

  pub window-code : drop at (bits_of bs) ≡ code_bits low (ones * 2 ^ low + window * 2 ^ ones % 2 ^ 64 / 2 ^ (63 - low)) ++ drop (at + (ones + 1 + low)) (bits_of bs)
  unfolding value
  window-code =
      let parts = top_bit_none value low (take low (drop (at + ones + 1) (bits_of bs))) value_lt low_bits_are in
      let after : drop low (drop (at + ones + 1) (bits_of bs)) ≡ drop (at + (ones + 1 + low)) (bits_of bs) =
      drop-drop low (at + ones + 1) (bits_of bs) ∙ ap (λ k. drop k (bits_of bs)) (let e : at + ones + 1 + low ≡ at + (ones + 1 + low) = omega arith in e) in
      let rest : drop (at + ones + 1) (bits_of bs) ≡ bits value low ++ drop (at + (ones + 1 + low)) (bits_of bs) =
      sym (take-append-drop low (drop (at + ones + 1) (bits_of bs))) ∙ ap₂ (λ a b. a ++ b) (sym parts.1) after in
      first ∙ ap (λ t. replicate ones true ++ t) (next ∙ ap (λ t. false ∷ t) rest) ∙ code_is low ones value (drop (at + (ones + 1 + low)) (bits_of bs)) parts.0

-- what the two parts of a short code make fits
pub short-fits : (window ones low : ℕ) → ones + low < 57 → (ones * 2 ^ low % 2 ^ 64 ≡ ones * 2 ^ low) × (ones * 2 ^ low + window * 2 ^ ones % 2 ^ 64 / 2 ^ (63 - low) < 2 ^ 64)
short-fits window ones low short =
    let small : ones < 2 ^ 6 = omega arith in
    let width : 6 + low ≤ 62 = omega arith in
    let size : 64 ≡ suc low + (63 - low) = omega arith in
    let narrow : suc low ≤ 57 = omega arith in
    let run : ones * 2 ^ low + 0 < 2 ^ (6 + low) = joined-lt ones 6 low 0 small (pow_pos low) in
    let most : 2 ^ (6 + low) ≤ 2 ^ 62 = pow_mono width in
    let value : window * 2 ^ ones % 2 ^ 64 / 2 ^ (63 - low) < 2 ^ suc low =
    shr_below (window * 2 ^ ones % 2 ^ 64) (suc low) (63 - low)
    (subst (λ k. window * 2 ^ ones % 2 ^ 64 < 2 ^ k) size (mod_below (window * 2 ^ ones) (2 ^ 64) (pow_pos 64))) in
    let low_most : 2 ^ suc low ≤ 2 ^ 57 = pow_mono narrow in
    (shifted 64 ones 6 low small (omega arith), sum_fits (ones * 2 ^ low) (window * 2 ^ ones % 2 ^ 64 / 2 ^ (63 - low)) (2 ^ (6 + low)) (2 ^ suc low) run most value low_most)
  where
    sum_fits : (a b x y : ℕ) → a + 0 < x → x ≤ 2 ^ 62 → b < y → y ≤ 2 ^ 57 → a + b < 2 ^ 64
    sum_fits a b x y p q r t = omega (arith, p, q, r, t)

-- ---- a code at a bit, by its run and its low bits

module _ (bs : List ℕ) (at ones low : ℕ) (first : drop at (bits_of bs) ≡ replicate ones true ++ drop (at + ones) (bits_of bs)) where
  pub code_found :
      (value : ℕ) → drop (at + ones) (bits_of bs) ≡ false ∷ drop (at + ones + 1) (bits_of bs) → at + ones + 1 + low ≤ 8 * length bs →
      value ≡ number (take low (drop (at + ones + 1) (bits_of bs))) → value < 2 ^ low →
      drop at (bits_of bs) ≡ code_bits low (ones * 2 ^ low + value) ++ drop (at + ones + 1 + low) (bits_of bs)
  code_found value next there is below =
      let low_bits : bits value low ≡ take low (drop (at + ones + 1) (bits_of bs)) =
      ap (λ v. bits v low) is ∙ bits-part (bits_of bs) (at + ones + 1) low (rw length-bits_of there) in
      let rest : drop (at + ones + 1) (bits_of bs) ≡ bits value low ++ drop (at + ones + 1 + low) (bits_of bs) =
      sym (take-append-drop low (drop (at + ones + 1) (bits_of bs))) ∙ ap₂ (λ a b. a ++ b) (sym low_bits) (drop-drop low (at + ones + 1) (bits_of bs)) in
      first ∙ ap (λ t. replicate ones true ++ t) (next ∙ ap (λ t. false ∷ t) rest) ∙ code_is low ones value (drop (at + ones + 1 + low) (bits_of bs)) below

  -- a code that stands there has this run
  same_run : drop (at + ones) (bits_of bs) ≡ false ∷ drop (at + ones + 1) (bits_of bs) → (n : ℕ) (s : List Bool) → drop at (bits_of bs) ≡ code_bits low n ++ s →
      (ones ≡ n / 2 ^ low) × (drop (at + ones + 1) (bits_of bs) ≡ bits (n % 2 ^ low) low ++ s)
  same_run next n s e =
      run_only ones (n / 2 ^ low) (drop (at + ones + 1) (bits_of bs)) (bits (n % 2 ^ low) low ++ s)
      (ap (λ t. replicate ones true ++ t) (sym next) ∙ sym first ∙ e ∙ code_split low n s)

  -- too few bits are left
  pub no_code_end :
      (at + ones < 8 * length bs → drop (at + ones) (bits_of bs) ≡ false ∷ drop (at + ones + 1) (bits_of bs)) → at + ones ≤ 8 * length bs → 8 * length bs < at + ones + 1 + low →
      (n : ℕ) (s : List Bool) → drop at (bits_of bs) ≡ code_bits low n ++ s → ⊥
  no_code_end next within short n s e = elim (cases_lt (at + ones) (8 * length bs)) [
    | inl there ↦ ended there
    | inr past ↦ all_ones past
  ]
    where
      ended : at + ones < 8 * length bs → ⊥
      ended there =
          let same = same_run (next there) n s e in
          let l : length (drop (at + ones + 1) (bits_of bs)) ≡ low + length s = ap length same.1 ∙ length-append (bits (n % 2 ^ low) low) s ∙ ap (λ k. k + length s) (length-bits (n % 2 ^ low) low) in
          let m : length (drop (at + ones + 1) (bits_of bs)) ≡ 8 * length bs - (at + ones + 1) = length-drop (at + ones + 1) (bits_of bs) ∙ ap (λ k. k - (at + ones + 1)) (length-bits_of bs) in
          omega (arith, l, m, short, there)

      all_ones : 8 * length bs ≤ at + ones → ⊥
      all_ones past =
          let none : drop (at + ones) (bits_of bs) ≡ [] = drop_all (at + ones) (bits_of bs) (rw length-bits_of past) in
          run_ends ones (n / 2 ^ low) (bits (n % 2 ^ low) low ++ s) (sym (append-nil (replicate ones true)) ∙ ap (λ t. replicate ones true ++ t) (sym none) ∙ sym first ∙ e ∙ code_split low n s)

  -- the run is longer than that of any number up to the limit
  pub no_code_run :
      drop (at + ones) (bits_of bs) ≡ false ∷ drop (at + ones + 1) (bits_of bs) → (limit : ℕ) → limit / 2 ^ low < ones →
      (n : ℕ) (s : List Bool) → n ≤ limit → drop at (bits_of bs) ≡ code_bits low n ++ s → ⊥
  no_code_run next limit more n s small e =
      let same = same_run next n s e in
      let most : n / 2 ^ low ≤ limit / 2 ^ low = le-div (n / 2 ^ low) limit (2 ^ low) (pow_pos low) (omega (arith, div-mul-le_self n (2 ^ low))) in
      omega (arith, same.0)

-- a run that is not too long makes no number that is lost
pub run_whole : (limit ones low : ℕ) → limit < 2 ^ 112 → ones ≤ limit / 2 ^ low → (ones * 2 ^ low ≤ limit) × (ones * 2 ^ low % 2 ^ 128 ≡ ones * 2 ^ low)
run_whole limit ones low small few =
    let most : ones * 2 ^ low ≤ limit / 2 ^ low * 2 ^ low = mul-le-mul_right (2 ^ low) few in
    let within : ones * 2 ^ low ≤ limit = omega (arith, most, div-mul-le_self limit (2 ^ low)) in
    (within, mod-eq_of_lt (omega (arith, within)))

pub number-below : (limit ones low value : ℕ) → limit < 2 ^ 112 → low ≤ 112 → ones * 2 ^ low ≤ limit → value < 2 ^ low → ones * 2 ^ low + value < 2 ^ 113
number-below limit ones low value small narrow within below =
    let wide : 2 ^ low ≤ 2 ^ 112 = pow_mono narrow in
    omega (arith, within, below, wide)
