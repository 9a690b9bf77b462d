-- What the two calls need: that a park which is found is one, that where none is found there is none, and that what is
-- written is one.
use Rattle.std.proofs.Common.{◌≡◌, ◌≢◌, ℕ, suc, ◌+◌, ◌-◌, ◌*◌, ◌^◌, ◌%◌, ◌<◌, ◌≤◌, Bool, false, List, [], ◌∷◌, ◌++◌, length, take, drop, set, replicate, get_or, refl, ap, sym, ◌∙◌, arith, pow-add}
use Rattle.std.proofs.lemmas.List.{take_all, drop-set-lt, length-set, length-drop, length-take-le}
use Rattle.std.proofs.lemmas.Nat.{one_shl}
use Rattle.std.proofs.Math.Pow.{pow_mono}
use Rattle.std.proofs.lemmas.Slice.{take-put_mid, drop-put_mid}
use Rattle.std.proofs.Math.Nat.{mul-le-mul_right}
use borrow.Rule.Slice.PartMut.{put_mid}
use Rattle.pos_bits.specs.Bits.{bits, bits_of, bytes}
use Rattle.pos_rice.specs.declared.TheConstants.{MOST_NUMBERS}
use Rattle.pos_rice.specs.Park.{AreNumbers, IsLow, Park, park_bits, steps_bits}
use Rattle.pos_rice.specs.Steps.{RiseFrom, last_from}
use Rattle.pos_bits.proofs.CodeLemmas.{bits_only}
use Rattle.pos_rice.proofs.StepLemmas.{steps_only, RiseFrom-last, RiseFrom-mono}
use Rattle.pos_rice.proofs.ParkLemmas.{Reads, Reads-from, near, rise_of}

-- where no list reads the bits of the bytes, the bytes are no park
pub no_park : (k count : ℕ) (s : List ℕ) → 1 ≤ count → ((n : ℕ) (ms : List ℕ) → length ms ≡ count - 1 → Reads k n ms (bits_of s) → ⊥) → (ns : List ℕ) → length ns ≡ count → Park k ns s → ⊥
no_park k count s some none [] l p = omega arith
no_park k count s some none (n ∷ ms) l p = none n ms (omega arith) (Reads-from k n ms s p)

-- the first number and the count of low bits were read
module _ (k first low : ℕ) (b r : List Bool) (head : b ≡ bits first (2 * k + 2) ++ (bits low 7 ++ r)) (first_below : first < 2 ^ (2 * k + 2)) (low_lt : low < 2 * k + 2) (small : k ≤ 62) where
  -- so each list that reads these bits has them
  same_head : (n : ℕ) (ms : List ℕ) (p : Reads k n ms b) → (first ≡ n) × (low ≡ p.low) × (r ≡ steps_bits low first ms ++ replicate p.fill false)
  same_head n ms p =
      let firsts : (first ≡ n) × (bits low 7 ++ r ≡ bits p.low 7 ++ (steps_bits p.low n ms ++ replicate p.fill false)) =
      bits_only first n (2 * k + 2) _ _ first_below p.first_below (sym head ∙ p.bits_are) in
      let lows : (low ≡ p.low) × (r ≡ steps_bits p.low n ms ++ replicate p.fill false) =
      bits_only low p.low 7 _ _ (omega arith) (omega (arith, p.low_lt)) firsts.1 in
      (firsts.0, lows.0, lows.1 ∙ (ap (λ x. steps_bits x n ms ++ replicate p.fill false) (sym lows.0) ∙ ap (λ x. steps_bits low x ms ++ replicate p.fill false) (sym firsts.0)))

  same_rise : (n : ℕ) (ms : List ℕ) (p : Reads k n ms b) → RiseFrom (2 ^ (2 * k + 2) - 1) first ms
  same_rise n ms p = rw (same_head n ms p).0 p.rise

  pub no_steps : (count limit : ℕ) → limit ≡ 2 ^ (2 * k + 2) - 1 → ((ms : List ℕ) (s : List Bool) → length ms ≡ count → RiseFrom limit first ms → r ≢ steps_bits low first ms ++ s) →
      (n : ℕ) (ms : List ℕ) → length ms ≡ count → Reads k n ms b → ⊥
  no_steps count limit e none n ms l p = none ms (replicate p.fill false) l (rw e (same_rise n ms p)) (same_head n ms p).2

  -- the further numbers were read
  module _ (limit : ℕ) (news : List ℕ) (rest : List Bool) (e : limit ≡ 2 ^ (2 * k + 2) - 1) (steps : r ≡ steps_bits low first news ++ rest) (rise : RiseFrom limit first news) where
    same_tail : (n : ℕ) (ms : List ℕ) → length ms ≡ length news → (p : Reads k n ms b) → (news ≡ ms) × (rest ≡ replicate p.fill false)
    same_tail n ms l p =
        steps_only low limit first news ms rest (replicate p.fill false) rise (rw e (same_rise n ms p)) (sym l) (sym steps ∙ (same_head n ms p).2)

    -- the count of low bits is right, and what is left is filling, in each list that reads these bits
    pub low_right : (n : ℕ) (ms : List ℕ) → length ms ≡ length news → Reads k n ms b → IsLow (first ∷ news) low
    low_right n ms l p = rw ((same_head n ms p).1, (same_head n ms p).0, (same_tail n ms l p).0) p.low_is

    pub fill_right : (n : ℕ) (ms : List ℕ) → length ms ≡ length news → Reads k n ms b → (z : ℕ) × (z < 8) × (rest ≡ replicate z false)
    fill_right n ms l p = (p.fill, p.fill_lt, (same_tail n ms l p).1)

    pub reads : IsLow (first ∷ news) low → ((z : ℕ) × (z < 8) × (rest ≡ replicate z false)) → suc (length news) ≤ MOST_NUMBERS → Reads k first news b
    reads low_is fill few = record {
      first_below = first_below;
      few = few;
      rise = rw e at rise;
      low = low;
      low_is = low_is;
      low_lt = low_lt;
      fill = fill.0;
      fill_lt = fill.1;
      bits_are = head ∙ ap (λ x. bits first (2 * k + 2) ++ (bits low 7 ++ x)) (steps ∙ ap (λ x. steps_bits low first news ++ x) fill.2);
    }

-- the greatest number that a park holds, as the code makes it
pub limit_is : (k : ℕ) → k ≤ 50 → 1 * 2 ^ (2 * k + 2) % 2 ^ 128 - 1 ≡ 2 ^ (2 * k + 2) - 1
limit_is k h = ap (λ x. x - 1) (one_shl (2 * k + 2) 128 (omega arith))

pub limit_lt : (k : ℕ) → k ≤ 50 → 1 * 2 ^ (2 * k + 2) % 2 ^ 128 - 1 < 2 ^ 112
limit_lt k h =
    let width : 2 * k + 2 ≤ 102 = omega arith in
    let most : 2 ^ (2 * k + 2) ≤ 2 ^ 102 = pow_mono width in
    omega (arith, limit_is k h, most)

-- ---- the numbers that are written into a slice

pub part_length : (count first : ℕ) (xs : List ℕ) → 1 ≤ count → count ≤ length xs → length (take (count - 1) (drop 1 (set xs 0 first))) ≡ count - 1
part_length count first xs some room =
    length-take-le (count - 1) (drop 1 (set xs 0 first)) (omega (arith, length-drop 1 (set xs 0 first), length-set xs 0 first))

one_set : (xs : List ℕ) (first : ℕ) → 1 ≤ length xs → take 1 (set xs 0 first) ≡ first ∷ []
one_set [] first h = absurd (omega arith)
one_set (x ∷ xs) first h = refl

pub numbers_are : (count first : ℕ) (xs news : List ℕ) → 1 ≤ count → count ≤ length xs → length news ≡ count - 1 → take count (put_mid 1 (count - 1) (set xs 0 first) news) ≡ first ∷ news
numbers_are count first xs news some room l =
    take-put_mid 1 (count - 1) (set xs 0 first) news count (omega arith) (omega (arith, length-set xs 0 first)) ∙ ap (λ ys. ys ++ news) (one_set xs first (omega arith))

dropped : (count first : ℕ) (xs : List ℕ) → 1 ≤ count → drop count (set xs 0 first) ≡ drop count xs
dropped count first xs h = drop-set-lt count xs 0 first h

pub others_are : (count first : ℕ) (xs news : List ℕ) → 1 ≤ count → count ≤ length xs → length news ≡ count - 1 → drop count (put_mid 1 (count - 1) (set xs 0 first) news) ≡ drop count xs
others_are count first xs news some room l =
    drop-put_mid 1 (count - 1) (set xs 0 first) news count (omega arith) (omega (arith, length-set xs 0 first)) l ∙ dropped count first xs some

-- ---- what is written

-- the further numbers are near the first one
pub near_first : (k low : ℕ) (ns : List ℕ) → AreNumbers k ns → IsLow ns low → RiseFrom (get_or ns 0 0 + 2 ^ (63 + low)) (get_or ns 0 0) (take (length ns - 1) (drop 1 ns))
near_first k low [] h l = absurd (omega (arith, h.some))
near_first k low (n ∷ ms) h l =
    let rise : RiseFrom (2 ^ (2 * k + 2) - 1) n ms = rise_of k n ms h in
    let last : last_from n ms ≤ n + 2 * 2 ^ low * length ms = near low n (2 ^ (2 * k + 2) - 1) ms rise l in
    let few : 2 * length ms ≤ 2 ^ 63 = omega (arith, h.few) in
    let wide : 2 * length ms * 2 ^ low ≤ 2 ^ 63 * 2 ^ low = mul-le-mul_right (2 ^ low) few in
    let all : RiseFrom (n + 2 ^ (63 + low)) n ms = RiseFrom-mono (last_from n ms) (n + 2 ^ (63 + low)) n ms (omega (arith, last, wide, pow-add 2 63 low)) (RiseFrom-last (2 ^ (2 * k + 2) - 1) n ms rise) in
    let whole : take (length (n ∷ ms) - 1) ms ≡ ms = take_all (length (n ∷ ms) - 1) ms (omega arith) in
    rw whole all

pub encoded : (k low low' : ℕ) (ns s : List ℕ) (w0 w1 w2 w3 : List Bool) → AreNumbers k ns → IsLow ns low → w0 ≡ [] → w1 ≡ w0 ++ bits (get_or ns 0 0) (2 * k + 2) → low' ≡ low → w2 ≡ w1 ++ bits low' 7 →
    w3 ≡ w2 ++ steps_bits low (get_or ns 0 0) (take (length ns - 1) (drop 1 ns)) → s ≡ bytes w3 → Park k ns s
unfolding park_bits
encoded k low low' [] s w0 w1 w2 w3 h l e0 e1 same e2 e3 e = absurd (omega (arith, h.some))
encoded k low low' (n ∷ ms) s w0 w1 w2 w3 h l e0 e1 same e2 e3 e =
    record { numbers = h; low = low; low_is = l; bytes_are = e ∙ ap bytes whole }
  where
    whole : w3 ≡ park_bits k low (n ∷ ms)
    whole =
        let rest : take (length (n ∷ ms) - 1) ms ≡ ms = take_all (length (n ∷ ms) - 1) ms (omega arith) in
        let second : w2 ≡ bits n (2 * k + 2) ++ bits low 7 = e2 ∙ (ap (λ x. x ++ bits low' 7) (e1 ∙ ap (λ x. x ++ bits n (2 * k + 2)) e0) ∙ ap (λ x. bits n (2 * k + 2) ++ bits x 7) same) in
        e3 ∙ (ap (λ x. x ++ steps_bits low n (take (length (n ∷ ms) - 1) ms)) second ∙ ap (λ x. bits n (2 * k + 2) ++ bits low 7 ++ steps_bits low n x) rest)
