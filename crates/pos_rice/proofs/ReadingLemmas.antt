-- The function that reads a park gives the one list of numbers that `Park` speaks of.
use Rattle.std.proofs.Common.{◌≡◌, ℕ, zero, suc, ◌+◌, ◌-◌, ◌*◌, ◌/◌, ◌%◌, ◌^◌, ◌<◌, ◌≤◌, Bool, true, false, nat_eq, nat_le, nat_lt, ◌&&◌, if◌then◌else◌, List, [], ◌∷◌, ◌++◌, length, take, drop, replicate, Option, Some, None, ◌≢◌, ◌↔◌, subst, refl, ap, sym, ◌∙◌, append_assoc, arith}
use Rattle.std.specs.Str.{bytes_eq}
use Rattle.std.proofs.lemmas.Bool.{ltb-true, lt-ltb, leb-true, le-leb}
use Rattle.std.proofs.lemmas.Bool.Decides.{Decides-eqb}
use Rattle.std.proofs.lemmas.List.{take_at, drop_at}
use Rattle.std.proofs.lemmas.List.Elements.{All-cons, All-head}
use Rattle.std.proofs.lemmas.Nat.{div-add-mod', mod_below, pow_pos}
use Rattle.std.proofs.lemmas.Slice.Eq.{bytes_eq-Decides}
use Rattle.pos_bits.specs.Bits.{bits, bits_of, bytes, number}
use Rattle.pos_bits.specs.Blocks.{length-bits}
use Rattle.pos_bits.specs.Codes.{code_bits}
use Rattle.pos_bits.proofs.BitsLemmas.{number-bits}
use Rattle.pos_rice.specs.declared.TheConstants.{MOST_NUMBERS}
use Rattle.pos_rice.specs.Park.{AreNumbers, IsLow, Park, mean_step, park_bits, steps_bits}
use Rattle.pos_rice.specs.Reading.{after_ones, are_numbers, is_low, is_park, low_in, numbers_after, numbers_given, numbers_in, ones, rises_below}
use Rattle.pos_rice.specs.Steps.{RiseFrom}
use Rattle.pos_bits.proofs.CodeLemmas.{code_split}
use Rattle.pos_rice.proofs.ParkLemmas.{Reads, Reads-from, Reads-low, rise_of, increasing_from, all_from}

-- ---- what was written is read

ones-run : (q : ℕ) (s : List Bool) → ones (replicate q true ++ false ∷ s) ≡ q
unfolding ones
ones-run zero s = refl
ones-run (suc q) s = ap suc (ones-run q s)

after_ones-run : (q : ℕ) (s : List Bool) → after_ones (replicate q true ++ false ∷ s) ≡ s
after_ones-run q s = ap (λ n. drop (suc n) (replicate q true ++ false ∷ s)) (ones-run q s) ∙ dropped q
  where
    dropped : (q : ℕ) → drop (suc q) (replicate q true ++ false ∷ s) ≡ s
    dropped zero = refl
    dropped (suc q) = dropped q

-- a number of so many bits at the front
number-front : (v w : ℕ) (s : List Bool) → v < 2 ^ w → number (take w (bits v w ++ s)) ≡ v
number-front v w s h = ap number (take_at (bits v w) s w (length-bits v w)) ∙ number-bits v w h

drop-front : (v w : ℕ) (s : List Bool) → drop w (bits v w ++ s) ≡ s
drop-front v w s = drop_at (bits v w) s w (length-bits v w)

-- the step at the front
step_read : (low d : ℕ) (s : List Bool) → (ones (code_bits low d ++ s) * 2 ^ low + number (take low (after_ones (code_bits low d ++ s))) ≡ d) × (drop low (after_ones (code_bits low d ++ s)) ≡ s)
step_read low d s =
    let run : ones (code_bits low d ++ s) ≡ d / 2 ^ low = ap ones (code_split low d s) ∙ ones-run (d / 2 ^ low) (bits (d % 2 ^ low) low ++ s) in
    let rest : after_ones (code_bits low d ++ s) ≡ bits (d % 2 ^ low) low ++ s =
    ap after_ones (code_split low d s) ∙ after_ones-run (d / 2 ^ low) (bits (d % 2 ^ low) low ++ s) in
    let low_bits : number (take low (after_ones (code_bits low d ++ s))) ≡ d % 2 ^ low =
    ap (λ x. number (take low x)) rest ∙ number-front (d % 2 ^ low) low s (mod_below d (2 ^ low) (pow_pos low)) in (
      ap (λ x. x * 2 ^ low + number (take low (after_ones (code_bits low d ++ s)))) run ∙ (ap (λ x. d / 2 ^ low * 2 ^ low + x) low_bits ∙ div-add-mod' d (2 ^ low)),
      ap (drop low) rest ∙ drop-front (d % 2 ^ low) low s,
    )

numbers_after-more : (low n d m c : ℕ) (x rest : List Bool) → ones x * 2 ^ low + number (take low (after_ones x)) ≡ d → drop low (after_ones x) ≡ rest → n + d + 1 ≡ m →
    numbers_after low n (suc c) x ≡ m ∷ numbers_after low m c rest
unfolding numbers_after
numbers_after-more low n d m c x rest e f g = rw (e, f, g) refl

steps_read : (low limit n : ℕ) (ms : List ℕ) (s : List Bool) → RiseFrom limit n ms → numbers_after low n (length ms) (steps_bits low n ms ++ s) ≡ ms
unfolding numbers_after steps_bits
steps_read low limit n [] s h = refl
steps_read low limit n (m ∷ ms) s h =
    let joined : code_bits low (m - n - 1) ++ steps_bits low m ms ++ s ≡ code_bits low (m - n - 1) ++ (steps_bits low m ms ++ s) = append_assoc (code_bits low (m - n - 1)) (steps_bits low m ms) s in
    let first = step_read low (m - n - 1) (steps_bits low m ms ++ s) in
    let back : n + (m - n - 1) + 1 ≡ m = omega (arith, h.0) in
    ap (λ x. numbers_after low n (suc (length ms)) x) joined
    ∙ (numbers_after-more low n (m - n - 1) m (length ms) (code_bits low (m - n - 1) ++ (steps_bits low m ms ++ s)) (steps_bits low m ms ++ s) first.0 first.1 back
    ∙ ap (λ xs. m ∷ xs) (steps_read low limit m ms s h.2))

given_read : (k n : ℕ) (ms : List ℕ) (b : List Bool) → k < 64 → (p : Reads k n ms b) → (low_in k b ≡ p.low) × (numbers_given k (suc (length ms)) b ≡ n ∷ ms)
unfolding numbers_given
given_read k n ms b small p =
    let width : ℕ = 2 * k + 2 in
    let tail : List Bool = steps_bits p.low n ms ++ replicate p.fill false in
    let first : number (take (2 * k + 2) b) ≡ n = ap (λ x. number (take (2 * k + 2) x)) p.bits_are ∙ number-front n (2 * k + 2) (bits p.low 7 ++ tail) p.first_below in
    let after_first : drop (2 * k + 2) b ≡ bits p.low 7 ++ tail = ap (λ x. drop (2 * k + 2) x) p.bits_are ∙ drop-front n (2 * k + 2) (bits p.low 7 ++ tail) in
    let low_is : low_in k b ≡ p.low = ap (λ x. number (take 7 x)) after_first ∙ number-front p.low 7 tail (omega (arith, p.low_lt)) in
    let after_low : drop 7 (drop (2 * k + 2) b) ≡ tail = ap (λ x. drop 7 x) after_first ∙ drop-front p.low 7 tail in
    (low_is, rw (first, low_is, after_low) (ap (λ xs. n ∷ xs) (steps_read p.low (2 ^ (2 * k + 2) - 1) n ms (replicate p.fill false) p.rise)))

-- ---- the tests

and_true : (x y : Bool) → (x && y) ≡ true → (x ≡ true) × (y ≡ true)
and_true true y h = (refl, h)
and_true false y h = cc

true_and : (x y : Bool) → x ≡ true → y ≡ true → (x && y) ≡ true
true_and x y p q = rw (p, q) refl

rises_below-true : (limit n : ℕ) (ms : List ℕ) → rises_below (suc limit) n ms ≡ true → (n ≤ limit) × RiseFrom limit n ms
unfolding rises_below
rises_below-true limit n [] h = (omega (arith, ltb-true n (suc limit) h), tt)
rises_below-true limit n (m ∷ ms) h =
    let both = and_true (nat_lt n m) (rises_below (suc limit) m ms) h in
    let rest = rises_below-true limit m ms both.1 in
    let first : n < m = ltb-true n m both.0 in
    (omega (arith, rest.0), (first, rest.0, rest.1))

true-rises_below : (limit n : ℕ) (ms : List ℕ) → n ≤ limit → RiseFrom limit n ms → rises_below (suc limit) n ms ≡ true
unfolding rises_below
true-rises_below limit n [] p h = lt-ltb n (suc limit) (omega arith)
true-rises_below limit n (m ∷ ms) p h = true_and (nat_lt n m) (rises_below (suc limit) m ms) (lt-ltb n m h.0) (true-rises_below limit m ms h.1 h.2)

top : (w : ℕ) → suc (2 ^ w - 1) ≡ 2 ^ w
top w = omega (arith, pow_pos w)

are_numbers-true : (k : ℕ) (ns : List ℕ) → are_numbers k ns ≡ true → AreNumbers k ns
unfolding are_numbers
are_numbers-true k [] h = cc
are_numbers-true k (n ∷ ms) h =
    let both = and_true (nat_le (length (n ∷ ms)) MOST_NUMBERS) (rises_below (2 ^ (2 * k + 2)) n ms) h in
    let limit : rises_below (suc (2 ^ (2 * k + 2) - 1)) n ms ≡ true = rw (top (2 * k + 2)) both.1 in
    let rise = rises_below-true (2 ^ (2 * k + 2) - 1) n ms limit in
    record {
      some = omega arith;
      few = leb-true (length (n ∷ ms)) MOST_NUMBERS both.0;
      rising = increasing_from (2 ^ (2 * k + 2) - 1) n ms rise.1;
      below = All-cons (λ x. x < 2 ^ (2 * k + 2)) n ms (omega (arith, rise.0, pow_pos (2 * k + 2))) (rw (top (2 * k + 2)) at (all_from (2 ^ (2 * k + 2) - 1) n ms rise.1));
    }

true-are_numbers : (k n : ℕ) (ms : List ℕ) → AreNumbers k (n ∷ ms) → are_numbers k (n ∷ ms) ≡ true
unfolding are_numbers
true-are_numbers k n ms h =
    let first : n < 2 ^ (2 * k + 2) = All-head (λ x. x < 2 ^ (2 * k + 2)) n ms h.below in
    let rise : rises_below (suc (2 ^ (2 * k + 2) - 1)) n ms ≡ true = true-rises_below (2 ^ (2 * k + 2) - 1) n ms (omega (arith, first)) (rise_of k n ms h) in
    true_and (nat_le (length (n ∷ ms)) MOST_NUMBERS) (rises_below (2 ^ (2 * k + 2)) n ms) (le-leb (length (n ∷ ms)) MOST_NUMBERS h.few) (rw (top (2 * k + 2)) at rise)

is_low-true : (ns : List ℕ) (low : ℕ) → is_low ns low ≡ true → IsLow ns low
is_low-true ns low h = cases (nat_eq (length ns) 1) refl h
  where
    cases : (t : Bool) → nat_eq (length ns) 1 ≡ t → (if t then nat_eq low 0 else nat_le (2 ^ low) (mean_step ns) && nat_lt (mean_step ns) (2 ^ suc low)) ≡ true → IsLow ns low
    cases true e h = record { alone = λ _. (Decides-eqb low 0).0 h; digits = λ more. absurd (omega (arith, more, (Decides-eqb (length ns) 1).0 e)) }
    cases false e h =
        let both = and_true (nat_le (2 ^ low) (mean_step ns)) (nat_lt (mean_step ns) (2 ^ suc low)) h in
        record {
          alone = λ one. absurd (differ (sym e ∙ (Decides-eqb (length ns) 1).1 one));
          digits = λ _. (leb-true (2 ^ low) (mean_step ns) both.0, ltb-true (mean_step ns) (2 ^ suc low) both.1);
        }
      where
        differ : false ≡ true → ⊥
        differ d = cc

true-is_low : (ns : List ℕ) (low : ℕ) → 1 ≤ length ns → IsLow ns low → is_low ns low ≡ true
true-is_low ns low some h = cases (nat_eq (length ns) 1) refl
  where
    cases : (t : Bool) → nat_eq (length ns) 1 ≡ t → (if t then nat_eq low 0 else nat_le (2 ^ low) (mean_step ns) && nat_lt (mean_step ns) (2 ^ suc low)) ≡ true
    cases true e = (Decides-eqb low 0).1 (h.alone ((Decides-eqb (length ns) 1).0 e))
    cases false e =
        let more : 1 < length ns = omega (arith, some, apart e) in
        let digits = h.digits more in
        true_and (nat_le (2 ^ low) (mean_step ns)) (nat_lt (mean_step ns) (2 ^ suc low)) (le-leb (2 ^ low) (mean_step ns) digits.0) (lt-ltb (mean_step ns) (2 ^ suc low) digits.1)
      where
        apart : nat_eq (length ns) 1 ≡ false → length ns ≢ 1
        apart d same = differ (sym d ∙ (Decides-eqb (length ns) 1).1 same)
          where
            differ : false ≡ true → ⊥
            differ x = cc

length-numbers_after : (low n c : ℕ) (s : List Bool) → length (numbers_after low n c s) ≡ c
unfolding numbers_after
length-numbers_after low n zero s = refl
length-numbers_after low n (suc c) s =
    ap suc (length-numbers_after low (n + (ones s * 2 ^ low + number (take low (after_ones s))) + 1) c (drop low (after_ones s)))

length-numbers_given : (k n : ℕ) (b : List Bool) → length (numbers_given k n b) ≡ n
unfolding numbers_given
length-numbers_given k zero b = refl
length-numbers_given k (suc c) b = ap suc (length-numbers_after (low_in k b) (number (take (2 * k + 2) b)) c (drop 7 (drop (2 * k + 2) b)))

-- ---- the laws

-- the numbers that are found are so many, and the bytes are their park
pub numbers_in-park : (k n : ℕ) (s ns : List ℕ) → numbers_in k n s ≡ Some ns → Park k ns s × (length ns ≡ n)
unfolding numbers_in
numbers_in-park k n s ns h = cases (is_park k (low_in k (bits_of s)) (numbers_given k n (bits_of s)) s) refl h
  where
    cases : (t : Bool) → is_park k (low_in k (bits_of s)) (numbers_given k n (bits_of s)) s ≡ t →
        (if t then Some (numbers_given k n (bits_of s)) else None) ≡ Some ns → Park k ns s × (length ns ≡ n)
    cases true e h =
        let same : numbers_given k n (bits_of s) ≡ ns = cc in
        let outer = and_true (are_numbers k (numbers_given k n (bits_of s)) && is_low (numbers_given k n (bits_of s)) (low_in k (bits_of s))) (bytes_eq s (bytes (park_bits k (low_in k (bits_of s)) (numbers_given k n (bits_of s))))) e in
        let inner = and_true (are_numbers k (numbers_given k n (bits_of s))) (is_low (numbers_given k n (bits_of s)) (low_in k (bits_of s))) outer.0 in
        let park : Park k (numbers_given k n (bits_of s)) s = record {
          numbers = are_numbers-true k (numbers_given k n (bits_of s)) inner.0;
          low = low_in k (bits_of s);
          low_is = is_low-true (numbers_given k n (bits_of s)) (low_in k (bits_of s)) inner.1;
          bytes_are = (bytes_eq-Decides s (bytes (park_bits k (low_in k (bits_of s)) (numbers_given k n (bits_of s))))).0 outer.1;
        } in
        (subst (λ (xs : List ℕ). Park k xs s) same park, ap length (sym same) ∙ length-numbers_given k n (bits_of s))
    cases false e h = cc

chosen : (t : Bool) (xs ys : List ℕ) → t ≡ true → xs ≡ ys → (if t then Some xs else None) ≡ Some ys
chosen t xs ys p q = rw (p, q) refl

is_park-true : (k : ℕ) (low n : ℕ) (ms s : List ℕ) → AreNumbers k (n ∷ ms) → IsLow (n ∷ ms) low → s ≡ bytes (park_bits k low (n ∷ ms)) → is_park k low (n ∷ ms) s ≡ true
is_park-true k low n ms s h l e =
    true_and (are_numbers k (n ∷ ms) && is_low (n ∷ ms) low) (bytes_eq s (bytes (park_bits k low (n ∷ ms))))
    (true_and (are_numbers k (n ∷ ms)) (is_low (n ∷ ms) low) (true-are_numbers k n ms h) (true-is_low (n ∷ ms) low (omega arith) l))
    ((bytes_eq-Decides s (bytes (park_bits k low (n ∷ ms)))).1 e)

-- where the bytes are a park of so many numbers, they are found
pub park-numbers_in : (k : ℕ) (ns s : List ℕ) → k < 64 → Park k ns s → numbers_in k (length ns) s ≡ Some ns
unfolding numbers_in
park-numbers_in k [] s small p = absurd (omega (arith, p.numbers.some))
park-numbers_in k (n ∷ ms) s small p =
    let given = given_read k n ms (bits_of s) small (Reads-from k n ms s p) in
    let low_is : low_in k (bits_of s) ≡ p.low = given.0 ∙ Reads-low k n ms s p in
    let test : is_park k (low_in k (bits_of s)) (numbers_given k (suc (length ms)) (bits_of s)) s ≡ true =
    ap (λ low. is_park k low (numbers_given k (suc (length ms)) (bits_of s)) s) low_is ∙ (ap (λ xs. is_park k p.low xs s) given.1 ∙ is_park-true k p.low n ms s p.numbers p.low_is p.bytes_are) in
    chosen (is_park k (low_in k (bits_of s)) (numbers_given k (suc (length ms)) (bits_of s)) s) (numbers_given k (suc (length ms)) (bits_of s)) (n ∷ ms) test given.1

-- where no list of so many numbers has the bytes as its park, none is found
pub none-numbers_in : (k n : ℕ) (s : List ℕ) → ((ns : List ℕ) → length ns ≡ n → ¬ Park k ns s) → numbers_in k n s ≡ None
none-numbers_in k n s h = cases (numbers_in k n s) refl
  where
    cases : (o : Option (List ℕ)) → numbers_in k n s ≡ o → o ≡ None
    cases None e = refl
    cases (Some ns) e = let found = numbers_in-park k n s ns e in absurd (h ns found.1 found.0)

pub found_exactly : (k n : ℕ) (s ns : List ℕ) → k < 64 → (numbers_in k n s ≡ Some ns) ↔ (Park k ns s × (length ns ≡ n))
found_exactly k n s ns small = (
  numbers_in-park k n s ns,
  λ p. ap (λ m. numbers_in k m s) (sym p.1) ∙ park-numbers_in k ns s small p.0,
)

-- the same with a count that is known to be the length
pub park-numbers_in_at : (k n : ℕ) (ns s : List ℕ) → k ≤ 50 → length ns ≡ n → Park k ns s → numbers_in k n s ≡ Some ns
park-numbers_in_at k n ns s small l p = (found_exactly k n s ns (omega arith)).1 (p, l)
