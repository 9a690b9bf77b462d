-- Where the bits do not begin as a park does, no park has them.
use Rattle.std.proofs.Common.{◌≡◌, ◌≢◌, ℕ, ◌+◌, ◌*◌, ◌^◌, ◌<◌, ◌≤◌, Bool, List, ◌++◌, length, ap, sym, ◌∙◌, arith, length-append}
use Rattle.pos_bits.specs.Bits.{bits}
use Rattle.pos_bits.specs.Blocks.{length-bits}
use Rattle.pos_bits.proofs.CodeLemmas.{bits_only}

-- a string of which a number is the front is at least as long
bits_front : (n w : ℕ) (s t : List Bool) → s ≡ bits n w ++ t → w ≤ length s
bits_front n w s t e =
    let l : length s ≡ length (bits n w) + length t = ap length e ∙ length-append (bits n w) t in
    omega (arith, l, length-bits n w)

module _ (k : ℕ) where
  pub no_first : (b : List Bool) → length b < 2 * k + 2 → (n low : ℕ) (s : List Bool) → n < 2 ^ (2 * k + 2) → low < 2 * k + 2 → b ≢ bits n (2 * k + 2) ++ (bits low 7 ++ s)
  no_first b short n low s p q e = let h : 2 * k + 2 ≤ length b = bits_front n (2 * k + 2) b (bits low 7 ++ s) e in omega arith

  pub no_low : (first : ℕ) (b t : List Bool) → first < 2 ^ (2 * k + 2) → b ≡ bits first (2 * k + 2) ++ t → length t < 7 →
      (n low : ℕ) (s : List Bool) → n < 2 ^ (2 * k + 2) → low < 2 * k + 2 → b ≢ bits n (2 * k + 2) ++ (bits low 7 ++ s)
  no_low first b t below head short n low s p q e =
      let same : (first ≡ n) × (t ≡ bits low 7 ++ s) = bits_only first n (2 * k + 2) t (bits low 7 ++ s) below p (sym head ∙ e) in
      let h : 7 ≤ length t = bits_front low 7 t s same.1 in
      omega arith

  pub low_too_large : (first value : ℕ) (b t u : List Bool) → first < 2 ^ (2 * k + 2) → b ≡ bits first (2 * k + 2) ++ t → value < 2 ^ 7 → t ≡ bits value 7 ++ u → k ≤ 62 → 2 * k + 2 ≤ value →
      (n low : ℕ) (s : List Bool) → n < 2 ^ (2 * k + 2) → low < 2 * k + 2 → b ≢ bits n (2 * k + 2) ++ (bits low 7 ++ s)
  low_too_large first value b t u below head value_below next small large n low s p q e =
      let same : (first ≡ n) × (t ≡ bits low 7 ++ s) = bits_only first n (2 * k + 2) t (bits low 7 ++ s) below p (sym head ∙ e) in
      let lows : (value ≡ low) × (u ≡ s) = bits_only value low 7 u s value_below (omega arith) (sym next ∙ same.1) in
      omega (arith, lows.0)
