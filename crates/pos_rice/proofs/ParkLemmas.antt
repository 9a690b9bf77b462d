-- Parks: how long they are, and that numbers and bytes go with one another.
use Rattle.std.proofs.Common.{◌≡◌, ℕ, zero, suc, ◌+◌, ◌-◌, ◌*◌, ◌/◌, ◌%◌, ◌^◌, ◌<◌, ◌≤◌, Bool, true, false, List, [], ◌∷◌, ◌++◌, length, replicate, get_or, All, refl, ap, sym, ◌∙◌, ◌⊎◌, inl, inr, pow-suc, arith, length-append, append_assoc}
use Rattle.std.proofs.lemmas.List.{length-replicate}
use Rattle.std.proofs.lemmas.List.Elements.{All-nil, All-cons, All-head, All-tail}
use Rattle.std.proofs.lemmas.Bool.{cases_lt}
use Rattle.std.proofs.lemmas.Nat.{pow_pos}
use Rattle.std.proofs.Math.Nat.{div-le_self, div-mul-le_self, div-lt_iff_lt-mul, mul-le-mul, mul-le-mul_right, le_of_mul-le-mul_right, lt_of_not-le}
use Rattle.std.proofs.Math.Pow.{pow_mono}
use Rattle.std.specs.List.Sorted.{IsStrictlyIncreasing}
use Rattle.pos_bits.specs.Bits.{bits, bits_of, byte_count, bytes, AreBytes}
use Rattle.pos_bits.specs.Blocks.{length-bits}
use Rattle.pos_bits.specs.Codes.{code_bits}
use Rattle.pos_bits.proofs.BytesLemmas.{bits_of-bytes, bits_of-injective, bytes-are_bytes, length-bits_of, length-bytes, fill-lt}
use Rattle.pos_rice.specs.declared.TheConstants.{MOST_NUMBERS}
use Rattle.pos_rice.specs.Park.{AreNumbers, IsLow, Park, mean_step, park_bits, steps_bits}
use Rattle.pos_rice.specs.Steps.{RiseFrom, last_from}
use Rattle.pos_bits.proofs.CodeLemmas.{bits_only}
use Rattle.pos_rice.proofs.StepLemmas.{steps_only, last_from-le}

-- ---- rising numbers, one after another

increasing-tail : (n : ℕ) (ms : List ℕ) → IsStrictlyIncreasing (n ∷ ms) → IsStrictlyIncreasing ms
increasing-tail n ms h = λ k l.
    let e : suc k + 1 ≡ suc (k + 1) = omega arith in
    let g : get_or (n ∷ ms) (suc k) 0 < get_or (n ∷ ms) (suc k + 1) 0 = h (suc k) (omega arith) in
    rw e at g

increasing-cons : (n m : ℕ) (ms : List ℕ) → n < m → IsStrictlyIncreasing (m ∷ ms) → IsStrictlyIncreasing (n ∷ m ∷ ms)
increasing-cons n m ms p h = at
  where
    at : (k : ℕ) → k + 1 < length (n ∷ m ∷ ms) → get_or (n ∷ m ∷ ms) k 0 < get_or (n ∷ m ∷ ms) (k + 1) 0
    at zero l = p
    at (suc k) l =
        let e : suc k + 1 ≡ suc (k + 1) = omega arith in
        let g : get_or (m ∷ ms) k 0 < get_or (m ∷ ms) (k + 1) 0 = h k (omega arith) in
        rw e g

pub rise_from : (limit n : ℕ) (ms : List ℕ) → IsStrictlyIncreasing (n ∷ ms) → All (λ x. x < suc limit) ms → RiseFrom limit n ms
rise_from limit n [] h p = tt
rise_from limit n (m ∷ ms) h p =
    let first : n < m = h 0 (omega arith) in
    let top : m < suc limit = All-head (λ x. x < suc limit) m ms p in
    (first, omega arith, rise_from limit m ms (increasing-tail n (m ∷ ms) h) (All-tail (λ x. x < suc limit) m ms p))

pub increasing_from : (limit n : ℕ) (ms : List ℕ) → RiseFrom limit n ms → IsStrictlyIncreasing (n ∷ ms)
increasing_from limit n [] h = λ k l. absurd (omega arith)
increasing_from limit n (m ∷ ms) h = increasing-cons n m ms h.0 (increasing_from limit m ms h.2)

pub all_from : (limit n : ℕ) (ms : List ℕ) → RiseFrom limit n ms → All (λ x. x < suc limit) ms
all_from limit n [] h = All-nil (λ x. x < suc limit)
all_from limit n (m ∷ ms) h = All-cons (λ x. x < suc limit) m ms (omega (arith, h.1)) (all_from limit m ms h.2)

pub last-is : (n : ℕ) (ms : List ℕ) → get_or (n ∷ ms) (length ms) 0 ≡ last_from n ms
last-is n [] = refl
last-is n (m ∷ ms) = last-is m ms

-- rising numbers rise by at least one each
far_from : (n : ℕ) (ms : List ℕ) → IsStrictlyIncreasing (n ∷ ms) → n + length ms ≤ last_from n ms
far_from n [] h = omega arith
far_from n (m ∷ ms) h =
    let first : n < m = h 0 (omega arith) in
    omega (arith, far_from m ms (increasing-tail n (m ∷ ms) h))

pub far : (ns : List ℕ) → 1 ≤ length ns → IsStrictlyIncreasing ns → get_or ns 0 0 + (length ns - 1) ≤ get_or ns (length ns - 1) 0
far [] some h = absurd (omega arith)
far (n ∷ ms) some h =
    let e : suc (length ms) - 1 ≡ length ms = omega arith in
    rw (e, last-is n ms) (far_from n ms h)

-- the mean difference of numbers of which the first and the last are known
pub mean_step-is : (n : ℕ) (ms : List ℕ) → mean_step (n ∷ ms) ≡ (last_from n ms - n) / length ms
mean_step-is n ms =
    let e : suc (length ms) - 1 ≡ length ms = omega arith in
    rw (e, last-is n ms) refl

-- ---- the count of low bits

digits_le : (m a b : ℕ) → 2 ^ a ≤ m → m < 2 ^ suc b → a < suc b
digits_le m a b p s = lt_of_not-le (λ (h : suc b ≤ a). let g : 2 ^ suc b ≤ 2 ^ a = pow_mono h in omega (arith, g, p, s))

pub digits_only : (m a b : ℕ) → 2 ^ a ≤ m → m < 2 ^ suc a → 2 ^ b ≤ m → m < 2 ^ suc b → a ≡ b
digits_only m a b p q r s =
    let le : a < suc b = digits_le m a b p s in
    let ge : b < suc a = digits_le m b a r q in
    omega arith

pub IsLow-only : (ns : List ℕ) (a b : ℕ) → 1 ≤ length ns → IsLow ns a → IsLow ns b → a ≡ b
IsLow-only ns a b some p q = cases (cases_lt 1 (length ns))
  where
    cases : (1 < length ns) ⊎ (length ns ≤ 1) → a ≡ b
    cases (inl h) = digits_only (mean_step ns) a b (p.digits h).0 (p.digits h).1 (q.digits h).0 (q.digits h).1
    cases (inr h) = let one : length ns ≡ 1 = omega arith in p.alone one ∙ sym (q.alone one)

-- a count of low bits of numbers of w bits is below w
pub IsLow-lt : (w limit n low : ℕ) (ms : List ℕ) → limit < 2 ^ w → n ≤ limit → 0 < w → RiseFrom limit n ms → IsLow (n ∷ ms) low → low < w
IsLow-lt w limit n low [] p q pos h l = let e : low ≡ 0 = l.alone refl in omega arith
IsLow-lt w limit n low (m ∷ ms) p q pos h l =
    let digits : (2 ^ low ≤ mean_step (n ∷ m ∷ ms)) × (mean_step (n ∷ m ∷ ms) < 2 ^ suc low) = l.digits (omega arith) in
    let mean : mean_step (n ∷ m ∷ ms) ≤ last_from n (m ∷ ms) - n = rw (mean_step-is n (m ∷ ms)) (div-le_self (last_from n (m ∷ ms) - n) (length (m ∷ ms))) in
    let top : last_from n (m ∷ ms) ≤ limit = last_from-le limit n (m ∷ ms) q h in
    lt_of_not-le (λ (g : w ≤ low). let f : 2 ^ w ≤ 2 ^ low = pow_mono g in omega (arith, f, digits.0, mean, top, p))

-- the last number is near the first one, by the count of low bits
pub near : (low n limit : ℕ) (ms : List ℕ) → RiseFrom limit n ms → IsLow (n ∷ ms) low → last_from n ms ≤ n + 2 * 2 ^ low * length ms
near low n limit [] h l = omega arith
near low n limit (m ∷ ms) h l =
    let digits : (2 ^ low ≤ mean_step (n ∷ m ∷ ms)) × (mean_step (n ∷ m ∷ ms) < 2 ^ suc low) = l.digits (omega arith) in
    let mean : (last_from n (m ∷ ms) - n) / length (m ∷ ms) < 2 ^ suc low = rw (mean_step-is n (m ∷ ms)) at digits.1 in
    let some : 0 < length (m ∷ ms) = omega arith in
    let far : last_from n (m ∷ ms) - n < 2 ^ suc low * length (m ∷ ms) = (div-lt_iff_lt-mul some).0 mean in
    let two : 2 ^ suc low ≡ 2 * 2 ^ low = omega (arith, pow-suc 2 low) in
    let far' : last_from n (m ∷ ms) - n < 2 * 2 ^ low * length (m ∷ ms) = rw two at far in
    omega (arith, far')

-- ---- lengths

-- the length of the codes of steps: the sum of the high parts is small
pub record StepsLength (low n : ℕ) (ms : List ℕ) : Type 0 where
  pub high : ℕ
  pub length_is : length (steps_bits low n ms) ≡ high + suc low * length ms
  pub high_le : high * 2 ^ low + n + length ms ≤ last_from n ms

step_length : (low d : ℕ) → length (code_bits low d) ≡ d / 2 ^ low + suc low
unfolding code_bits
step_length low d =
    length-append (replicate (d / 2 ^ low) true) (false ∷ bits (d % 2 ^ low) low) ∙ omega (arith, length-replicate (d / 2 ^ low) true, length-bits (d % 2 ^ low) low)

pub steps_length : (low limit n : ℕ) (ms : List ℕ) → RiseFrom limit n ms → StepsLength low n ms
unfolding steps_bits
steps_length low limit n [] h = record { high = 0; length_is = omega arith; high_le = omega arith }
steps_length low limit n (m ∷ ms) h = more (steps_length low limit m ms h.2)
  where
    more : StepsLength low m ms → StepsLength low n (m ∷ ms)
    more rest =
        let step : length (code_bits low (m - n - 1)) ≡ (m - n - 1) / 2 ^ low + suc low = step_length low (m - n - 1) in
        let high_le : (m - n - 1) / 2 ^ low * 2 ^ low ≤ m - n - 1 = div-mul-le_self (m - n - 1) (2 ^ low) in
        record {
          high = (m - n - 1) / 2 ^ low + rest.high;
          length_is = length-append (code_bits low (m - n - 1)) (steps_bits low m ms) ∙ omega (arith, step, rest.length_is);
          high_le = omega (arith, high_le, rest.high_le, h.0);
        }

-- the parts of a park's bits, with what follows them
pub park_split : (k low n : ℕ) (ms : List ℕ) (t : List Bool) → park_bits k low (n ∷ ms) ++ t ≡ bits n (2 * k + 2) ++ (bits low 7 ++ (steps_bits low n ms ++ t))
unfolding park_bits
park_split k low n ms t = rw (append_assoc (bits n (2 * k + 2) ++ bits low 7) (steps_bits low n ms) t, append_assoc (bits n (2 * k + 2)) (bits low 7) (steps_bits low n ms ++ t)) refl

length-park_bits : (k low n : ℕ) (ms : List ℕ) → length (park_bits k low (n ∷ ms)) ≡ 2 * k + 9 + length (steps_bits low n ms)
unfolding park_bits
length-park_bits k low n ms =
    length-append (bits n (2 * k + 2) ++ bits low 7) (steps_bits low n ms) ∙ omega (arith, length-append (bits n (2 * k + 2)) (bits low 7), length-bits n (2 * k + 2), length-bits low 7)

-- how long the bits of a park are
pub park_length : (k low limit n : ℕ) (ms : List ℕ) → low < 2 * k + 2 → RiseFrom limit n ms → IsLow (n ∷ ms) low → length (park_bits k low (n ∷ ms)) ≤ (2 * k + 4) * length (n ∷ ms) + 5
park_length k low limit n ms below h l = bound (steps_length low limit n ms h)
  where
    bound : StepsLength low n ms → length (park_bits k low (n ∷ ms)) ≤ (2 * k + 4) * length (n ∷ ms) + 5
    bound steps =
        let close : last_from n ms ≤ n + 2 * 2 ^ low * length ms = near low n limit ms h l in
        let many : steps.high * 2 ^ low ≤ 2 * length ms * 2 ^ low = omega (arith, close, steps.high_le) in
        let high : steps.high ≤ 2 * length ms = le_of_mul-le-mul_right many (pow_pos low) in
        let lows : suc low * length ms ≤ (2 * k + 2) * length ms = mul-le-mul_right (length ms) below in
        omega (arith, length-park_bits k low n ms, steps.length_is, high, lows)

-- ---- bytes and bits

-- bytes whose bits are a string and fewer than eight 0 bits are the bytes of the string
pub bytes_from : (bs : List ℕ) (s : List Bool) (fill : ℕ) → AreBytes bs → fill < 8 → bits_of bs ≡ s ++ replicate fill false → bs ≡ bytes s
bytes_from bs s fill h p e =
    let lengths : 8 * length bs ≡ length s + fill =
    sym (length-bits_of bs) ∙ (ap length e ∙ (length-append s (replicate fill false) ∙ ap (λ n. length s + n) (length-replicate fill false))) in
    let same : 8 * byte_count (length s) - length s ≡ fill = omega (arith, lengths) in
    bits_of-injective bs (bytes s) h (bytes-are_bytes s) (e ∙ sym (rw same at (bits_of-bytes s)))

-- ---- what a park's bytes hold

-- the bits of the park of n and the numbers after it
pub record Reads (k n : ℕ) (ms : List ℕ) (b : List Bool) : Type 0 where
  pub first_below : n < 2 ^ (2 * k + 2)
  pub few : length (n ∷ ms) ≤ MOST_NUMBERS
  pub rise : RiseFrom (2 ^ (2 * k + 2) - 1) n ms
  pub low : ℕ
  pub low_is : IsLow (n ∷ ms) low
  pub low_lt : low < 2 * k + 2
  pub fill : ℕ
  pub fill_lt : fill < 8
  pub bits_are : b ≡ bits n (2 * k + 2) ++ (bits low 7 ++ (steps_bits low n ms ++ replicate fill false))

top : (w : ℕ) → suc (2 ^ w - 1) ≡ 2 ^ w
top w = omega (arith, pow_pos w)

pub rise_of : (k n : ℕ) (ms : List ℕ) → AreNumbers k (n ∷ ms) → RiseFrom (2 ^ (2 * k + 2) - 1) n ms
rise_of k n ms h =
    rise_from (2 ^ (2 * k + 2) - 1) n ms h.rising (rw (top (2 * k + 2)) (All-tail (λ x. x < 2 ^ (2 * k + 2)) n ms h.below))

pub Reads-from : (k n : ℕ) (ms s : List ℕ) → Park k (n ∷ ms) s → Reads k n ms (bits_of s)
Reads-from k n ms s h =
    let first_below : n < 2 ^ (2 * k + 2) = All-head (λ x. x < 2 ^ (2 * k + 2)) n ms h.numbers.below in
    let rise : RiseFrom (2 ^ (2 * k + 2) - 1) n ms = rise_of k n ms h.numbers in
    record {
      first_below = first_below;
      few = h.numbers.few;
      rise = rise;
      low = h.low;
      low_is = h.low_is;
      low_lt = IsLow-lt (2 * k + 2) (2 ^ (2 * k + 2) - 1) n h.low ms (omega (arith, pow_pos (2 * k + 2))) (omega (arith, first_below)) (omega arith) rise h.low_is;
      fill = 8 * byte_count (length (park_bits k h.low (n ∷ ms))) - length (park_bits k h.low (n ∷ ms));
      fill_lt = fill-lt (length (park_bits k h.low (n ∷ ms)));
      bits_are = ap bits_of h.bytes_are ∙ (bits_of-bytes (park_bits k h.low (n ∷ ms)) ∙ park_split k h.low n ms (replicate (8 * byte_count (length (park_bits k h.low (n ∷ ms))) - length (park_bits k h.low (n ∷ ms))) false));
    }

pub Reads-low : (k n : ℕ) (ms s : List ℕ) (h : Park k (n ∷ ms) s) → (Reads-from k n ms s h).low ≡ h.low
unfolding Reads-from
Reads-low k n ms s h = refl

pub Park-from : (k n : ℕ) (ms s : List ℕ) → AreBytes s → Reads k n ms (bits_of s) → Park k (n ∷ ms) s
Park-from k n ms s bytes_ h = record {
  numbers = record {
    some = omega arith;
    few = h.few;
    rising = increasing_from (2 ^ (2 * k + 2) - 1) n ms h.rise;
    below = All-cons (λ x. x < 2 ^ (2 * k + 2)) n ms h.first_below (rw (top (2 * k + 2)) at (all_from (2 ^ (2 * k + 2) - 1) n ms h.rise));
  };
  low = h.low;
  low_is = h.low_is;
  bytes_are = bytes_from s (park_bits k h.low (n ∷ ms)) h.fill bytes_ h.fill_lt (h.bits_are ∙ sym (park_split k h.low n ms (replicate h.fill false)));
}

-- ---- the laws

-- at most one list of bytes is the park of numbers
pub Park-one_list_of_bytes : (k : ℕ) (ns s t : List ℕ) → Park k ns s → Park k ns t → s ≡ t
Park-one_list_of_bytes k ns s t p q =
    p.bytes_are ∙ (ap (λ low. bytes (park_bits k low ns)) (IsLow-only ns p.low q.low p.numbers.some p.low_is q.low_is) ∙ sym q.bytes_are)

same_reads : (k m n : ℕ) (ms ns : List ℕ) (b : List Bool) → k < 64 → length ms ≡ length ns → Reads k m ms b → Reads k n ns b → (m ∷ ms) ≡ (n ∷ ns)
same_reads k m n ms ns b small l p q =
    let first : (m ≡ n) × (bits p.low 7 ++ (steps_bits p.low m ms ++ replicate p.fill false) ≡ bits q.low 7 ++ (steps_bits q.low n ns ++ replicate q.fill false)) =
    bits_only m n (2 * k + 2) _ _ p.first_below q.first_below (sym p.bits_are ∙ q.bits_are) in
    let lows : (p.low ≡ q.low) × (steps_bits p.low m ms ++ replicate p.fill false ≡ steps_bits q.low n ns ++ replicate q.fill false) =
    bits_only p.low q.low 7 _ _ (omega (arith, p.low_lt)) (omega (arith, q.low_lt)) first.1 in
    let same : steps_bits q.low n ns ++ replicate q.fill false ≡ steps_bits p.low m ns ++ replicate q.fill false =
    ap (λ x. steps_bits x n ns ++ replicate q.fill false) (sym lows.0) ∙ ap (λ x. steps_bits p.low x ns ++ replicate q.fill false) (sym first.0) in
    let rise : RiseFrom (2 ^ (2 * k + 2) - 1) m ns = rw first.0 q.rise in
    let rest : (ms ≡ ns) × (replicate p.fill false ≡ replicate q.fill false) =
    steps_only p.low (2 ^ (2 * k + 2) - 1) m ms ns (replicate p.fill false) (replicate q.fill false) p.rise rise l (lows.1 ∙ same) in
    cc

-- bytes are the park of at most one list of as many numbers
pub Park-one_list_of_numbers : (k : ℕ) (ms ns s : List ℕ) → k < 64 → length ms ≡ length ns → Park k ms s → Park k ns s → ms ≡ ns
Park-one_list_of_numbers k [] ns s small l p q = absurd (omega (arith, p.numbers.some))
Park-one_list_of_numbers k (m ∷ ms) [] s small l p q = absurd (omega (arith, q.numbers.some))
Park-one_list_of_numbers k (m ∷ ms) (n ∷ ns) s small l p q = same_reads k m n ms ns (bits_of s) small (omega arith) (Reads-from k m ms s p) (Reads-from k n ns s q)

-- a park is short
pub Park-short : (k : ℕ) (ns s : List ℕ) → Park k ns s → 8 * length s ≤ (2 * k + 4) * length ns + 12
unfolding Reads-from
Park-short k [] s p = absurd (omega (arith, p.numbers.some))
Park-short k (n ∷ ms) s p =
    let reads = Reads-from k n ms s p in
    let bound : length (park_bits k p.low (n ∷ ms)) ≤ (2 * k + 4) * length (n ∷ ms) + 5 = park_length k p.low (2 ^ (2 * k + 2) - 1) n ms reads.low_lt reads.rise p.low_is in
    let count : length s ≡ byte_count (length (park_bits k p.low (n ∷ ms))) = ap length p.bytes_are ∙ length-bytes (park_bits k p.low (n ∷ ms)) in
    omega (arith, bound, count)

-- at the sizes of plots
pub Park-short_at : (size most k : ℕ) (ns s : List ℕ) → k ≤ size → (2 * size + 4) * MOST_NUMBERS + 12 ≤ 8 * most → Park k ns s → length s ≤ most
Park-short_at size most k ns s h enough p =
    let short = Park-short k ns s p in
    let width : 2 * k + 4 ≤ 2 * size + 4 = omega arith in
    let wide : (2 * k + 4) * length ns ≤ (2 * size + 4) * MOST_NUMBERS = mul-le-mul width p.numbers.few in
    omega (arith, short, wide, enough)
