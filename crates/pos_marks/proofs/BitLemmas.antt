-- Ranks of bits, and the counts of bits that are set.
use Rattle.std.proofs.Common.{◌≡◌, ◌≢◌, ℕ, zero, suc, ◌+◌, ◌-◌, ◌*◌, ◌/◌, ◌%◌, ◌^◌, ◌<◌, ◌≤◌, Bool, true, false, cond, eqb, eq-eqb, ◌||◌, List, [], ◌∷◌, ◌++◌, length, take, get_or, set, replicate, get_or-set_same, get_or-set_other, sym, refl, ap, ◌∙◌, subst, inl, inr, arith, add-zero, add-suc}
use Rattle.std.proofs.lemmas.Bool.{cases_lt, cases_eq, ne_eqb}
use Rattle.std.proofs.lemmas.List.{get_or-take, get_or_append_left, get_or_push, get_or-replicate, get_or_past, length-replicate, length-take-le, length_push}
use Rattle.std.proofs.lemmas.List.Edits.{get_or-between, length-between}
use Rattle.std.proofs.lemmas.Nat.{mod-pow-add, ones_cat, pow_pos, one_shl, and_mask}
use Rattle.std.proofs.lemmas.Nat.Bits.{bit_at_cat_high, bit_at_cat_low, bit_at_set_same, bit_at_set_other}
use Rattle.std.proofs.Math.Nat.{zero-div}
use Rattle.std.specs.Prelude.{slice_range}
use Rattle.std.specs.Int.{bit_at, from_le_bytes, w64, w8}
use Rattle.std.specs.Int.RustNames.{bit_and, bit_or, count_ones}
use Rattle.pos_lists.specs.Rank.{rank}
use Rattle.pos_marks.specs.Bits.{is_set, has_bit, AreRankCounts}

-- ---- ranks

-- a rank looks only at the places below
pub rank-same : (p q : ℕ → Bool) (n : ℕ) → ((i : ℕ) → i < n → p i ≡ q i) → rank p n ≡ rank q n
unfolding rank
rank-same p q zero h = refl
rank-same p q (suc n) h =
    let e = rank-same p q n (λ i l. h i (omega arith)) in
    let f : p n ≡ q n = h n (omega arith) in
    rw (e, f) refl

-- the places below a + b are those below a and b more
pub rank-add : (p : ℕ → Bool) (a b : ℕ) → rank p (a + b) ≡ rank p a + rank (λ j. p (a + j)) b
unfolding rank
rank-add p a zero = rw (add-zero, add-zero) refl
rank-add p a (suc b) = let e = rank-add p a b in rw (add-suc, e) (omega arith)

-- ---- a byte

-- a digit as a number
digit : (r : ℕ) → r < 2 → cond (eqb r 1) 1 0 ≡ r
digit zero h = refl
digit (suc zero) h = refl
digit (suc (suc r)) h = absurd (omega arith)

ones_of_digit : (r : ℕ) → r < 2 → count_ones r ≡ r
unfolding count_ones
ones_of_digit zero h = refl
ones_of_digit (suc zero) h = refl
ones_of_digit (suc (suc r)) h = absurd (omega arith)

-- how many of the lowest w bits of a number are set
pub rank-is_set : (n w : ℕ) → rank (is_set n) w ≡ count_ones (n % 2 ^ w)
unfolding rank is_set
rank-is_set n zero = let e : n % 2 ^ 0 ≡ 0 = omega arith in rw e (sym (ones_of_digit 0 (omega arith)))
rank-is_set n (suc w) =
    let r = n / 2 ^ w % 2 in
    let small : r < 2 = omega arith in
    let pos = pow_pos w in
    let below : n % 2 ^ w < 2 ^ w = omega arith in
    let split : n % 2 ^ suc w ≡ r * 2 ^ w + n % 2 ^ w = subst (λ k. n % 2 ^ k ≡ r * 2 ^ w + n % 2 ^ w) (omega arith) (mod-pow-add n 1 w) in
    let ih = rank-is_set n w in
    rw (split, ones_cat w r (n % 2 ^ w) below, ones_of_digit r small, digit r small, ih) (omega arith)

-- a bit that is set by `or`, and any other
pub is_set-or_same : (n k : ℕ) → k < 8 → is_set (bit_or n (1 * 2 ^ k % 2 ^ 8)) k ≡ true
unfolding is_set
is_set-or_same n k h = eq-eqb _ _ (bit_at_set_same w8 n k h)

pub is_set-or_other : (n k i : ℕ) → k < 8 → i ≢ k → is_set (bit_or n (1 * 2 ^ k % 2 ^ 8)) i ≡ is_set n i
unfolding is_set
is_set-or_other n k i h ne = ap (λ b. eqb b 1) (bit_at_set_other w8 n k h i ne)

-- the code's way to them
pub rank-low : (n w r : ℕ) → w < 64 → r ≡ count_ones (bit_and n (1 * 2 ^ w % 2 ^ 64 - 1)) → r ≡ rank (is_set n) w
rank-low n w r h e =
    let s : 1 * 2 ^ w % 2 ^ 64 ≡ 2 ^ w = one_shl w 64 h in
    e ∙ (ap (λ k. count_ones (bit_and n (k - 1))) s ∙ (ap count_ones (and_mask n w) ∙ sym (rank-is_set n w)))

-- ---- bytes

-- the bits of a front of bytes, and of a part
pub has_bit-take : (bytes : List ℕ) (n i : ℕ) → i < 8 * n → has_bit (take n bytes) i ≡ has_bit bytes i
unfolding has_bit
has_bit-take bytes n i h = let e : get_or (take n bytes) (i / 8) 0 ≡ get_or bytes (i / 8) 0 = get_or-take n bytes (i / 8) 0 (omega arith) in rw e refl

pub has_bit-part : (bytes : List ℕ) (a e i : ℕ) → 8 * a + i < 8 * e → has_bit (slice_range bytes a e) i ≡ has_bit bytes (8 * a + i)
unfolding has_bit
has_bit-part bytes a e i h =
    let f : get_or (slice_range bytes a e) (i / 8) 0 ≡ get_or bytes (a + i / 8) 0 = get_or-between bytes a e (i / 8) 0 (omega arith) in
    let d : (8 * a + i) / 8 ≡ a + i / 8 = omega arith in
    let m : (8 * a + i) % 8 ≡ i % 8 = omega arith in
    rw (f, d, m) refl

-- the ranks within a part
pub rank-part : (bytes : List ℕ) (a e n : ℕ) → 8 * a + n ≤ 8 * e → rank (has_bit (slice_range bytes a e)) n ≡ rank (λ j. has_bit bytes (8 * a + j)) n
rank-part bytes a e n h = rank-same (has_bit (slice_range bytes a e)) (λ j. has_bit bytes (8 * a + j)) n (λ i l. has_bit-part bytes a e i (omega arith))

-- ---- words of eight bytes

-- bytes as a number, the first of them lowest
number_of : List ℕ → ℕ
number_of [] = 0
number_of (b ∷ bs) = number_of bs * 2 ^ 8 + b

number_bit : (bs : List ℕ) → ((i : ℕ) → get_or bs i 0 < 256) → (j : ℕ) → is_set (number_of bs) j ≡ has_bit bs j
unfolding is_set has_bit number_of
number_bit [] small j = let e = zero-div (2 ^ j) in let f = zero-div (2 ^ (j % 8)) in rw (e, f) refl
number_bit (b ∷ bs) small j = elim (cases_lt j 8) [
  | inl low ↦
      let e : bit_at (number_of bs * 2 ^ 8 + b) j ≡ bit_at b j = bit_at_cat_low (number_of bs) 8 b j low in
      let d : j / 8 ≡ 0 = omega arith in
      let m : j % 8 ≡ j = omega arith in
      ap (λ r. eqb r 1) e ∙ rw (d, m) refl
  | inr high ↦
      let e : bit_at (number_of bs * 2 ^ 8 + b) j ≡ bit_at (number_of bs) (j - 8) = bit_at_cat_high (number_of bs) 8 b j (small 0) high in
      let d : j / 8 ≡ suc ((j - 8) / 8) = omega arith in
      let m : j % 8 ≡ (j - 8) % 8 = omega arith in
      ap (λ r. eqb r 1) e ∙ (number_bit bs (λ i. small (suc i)) (j - 8) ∙ rw (d, m) refl)
]

horner : (a b c d e f g h : ℕ)
    → a + b * 256 ^ 1 + c * 256 ^ 2 + d * 256 ^ 3 + e * 256 ^ 4 + f * 256 ^ 5 + g * 256 ^ 6 + h * 256 ^ 7
    ≡ (((((((0 * 2 ^ 8 + h) * 2 ^ 8 + g) * 2 ^ 8 + f) * 2 ^ 8 + e) * 2 ^ 8 + d) * 2 ^ 8 + c) * 2 ^ 8 + b) * 2 ^ 8 + a
horner a b c d e f g h = omega arith

from_le-number : (a b c d e f g h : ℕ) → from_le_bytes w64 (a ∷ b ∷ c ∷ d ∷ e ∷ f ∷ g ∷ h ∷ []) ≡ number_of (a ∷ b ∷ c ∷ d ∷ e ∷ f ∷ g ∷ h ∷ [])
unfolding number_of
from_le-number a b c d e f g h = horner a b c d e f g h

eight_items : (bs : List ℕ) → length bs ≡ 8
    → bs ≡ get_or bs 0 0 ∷ get_or bs 1 0 ∷ get_or bs 2 0 ∷ get_or bs 3 0 ∷ get_or bs 4 0 ∷ get_or bs 5 0 ∷ get_or bs 6 0 ∷ get_or bs 7 0 ∷ []
eight_items (a ∷ b ∷ c ∷ d ∷ e ∷ f ∷ g ∷ h ∷ []) l = refl
eight_items _ l = absurd (omega arith)

-- the bits of a word that was read
pub word_bit : (bytes part : List ℕ) (i n : ℕ) → 8 * i + 8 ≤ length bytes → ((k : ℕ) → k < length bytes → get_or bytes k 0 < 256) → part ≡ slice_range bytes (i * 8) (i * 8 + 8)
    → n ≡ from_le_bytes w64 (get_or part 0 0 ∷ get_or part 1 0 ∷ get_or part 2 0 ∷ get_or part 3 0 ∷ get_or part 4 0 ∷ get_or part 5 0 ∷ get_or part 6 0 ∷ get_or part 7 0 ∷ [])
    → (j : ℕ) → j < 64 → is_set n j ≡ has_bit bytes (64 * i + j)
word_bit bytes part i n fits small is e j low =
    let long : length part ≡ 8 = ap length is ∙ (length-between bytes (i * 8) (i * 8 + 8) (omega arith) ∙ omega arith) in
    let few : (k : ℕ) → get_or part k 0 < 256 = λ k. elim (cases_lt k 8) [
      | inl inside ↦
          let at : get_or part k 0 ≡ get_or bytes (i * 8 + k) 0 = ap (λ xs. get_or xs k 0) is ∙ get_or-between bytes (i * 8) (i * 8 + 8) k 0 (omega arith) in
          let one = small (i * 8 + k) (omega arith) in
          omega arith
      | inr past ↦ let none : get_or part k 0 ≡ 0 = get_or_past part k 0 (omega arith) in omega arith
    ] in
    let whole : n ≡ number_of part =
    e ∙ (from_le-number (get_or part 0 0) (get_or part 1 0) (get_or part 2 0) (get_or part 3 0) (get_or part 4 0) (get_or part 5 0) (get_or part 6 0) (get_or part 7 0)
    ∙ sym (ap number_of (eight_items part long))) in
    let place : 8 * (i * 8) + j ≡ 64 * i + j = omega arith in
    ap (λ k. is_set k j) whole ∙ (number_bit part few j ∙ (ap (λ xs. has_bit xs j) is ∙ (has_bit-part bytes (i * 8) (i * 8 + 8) j (omega arith) ∙ ap (has_bit bytes) place)))

-- so many of the first words, and some bits of the next
pub rank-words : (bytes : List ℕ) (i n w : ℕ) → ((j : ℕ) → j < 64 → is_set n j ≡ has_bit bytes (64 * i + j)) → w ≤ 64
    → rank (has_bit bytes) (64 * i + w) ≡ rank (has_bit bytes) (64 * i) + rank (is_set n) w
rank-words bytes i n w bit h =
    rank-add (has_bit bytes) (64 * i) w
    ∙ ap (λ k. rank (has_bit bytes) (64 * i) + k) (rank-same (λ j. has_bit bytes (64 * i + j)) (is_set n) w (λ j l. sym (bit j (omega arith))))

-- one word more
pub rank-word : (bytes : List ℕ) (i n : ℕ) → n < 2 ^ 64 → ((j : ℕ) → j < 64 → is_set n j ≡ has_bit bytes (64 * i + j))
    → rank (has_bit bytes) (64 * (i + 1)) ≡ rank (has_bit bytes) (64 * i) + count_ones n
rank-word bytes i n small bit =
    let e : 64 * (i + 1) ≡ 64 * i + 64 = omega arith in
    let f : n % 2 ^ 64 ≡ n = omega arith in
    ap (rank (has_bit bytes)) e ∙ (rank-words bytes i n 64 bit (omega arith) ∙ ap (λ k. rank (has_bit bytes) (64 * i) + k) (rank-is_set n 64 ∙ ap count_ones f))

-- the whole words before a bit, and the bits of its word before it
pub rank-before : (bytes : List ℕ) (n word : ℕ) → n < 8 * length bytes → ((j : ℕ) → j < 64 → is_set word j ≡ has_bit bytes (64 * (n / 64) + j))
    → rank (has_bit (take (n / 64 * 8) bytes)) (8 * length (take (n / 64 * 8) bytes)) + rank (is_set word) (n % 64) ≡ rank (has_bit bytes) n
rank-before bytes n word h bit =
    let q = n / 64 in
    let len : length (take (q * 8) bytes) ≡ q * 8 = length-take-le (q * 8) bytes (omega arith) in
    let at : 8 * (q * 8) ≡ 64 * q = omega arith in
    let front : rank (has_bit (take (q * 8) bytes)) (64 * q) ≡ rank (has_bit bytes) (64 * q) =
    rank-same (has_bit (take (q * 8) bytes)) (has_bit bytes) (64 * q) (λ i l. has_bit-take bytes (q * 8) i (omega arith)) in
    let whole : 64 * q + n % 64 ≡ n = omega arith in
    rw (len, at) (ap (λ k. k + rank (is_set word) (n % 64)) front ∙ (sym (rank-words bytes q word (n % 64) bit (omega arith)) ∙ ap (rank (has_bit bytes)) whole))

-- one bit set
pub has_bit-set : (bytes : List ℕ) (i j : ℕ) → i < 8 * length bytes
    → has_bit (set bytes (i / 8) (bit_or (get_or bytes (i / 8) 0) (1 * 2 ^ (i % 8) % 2 ^ 8))) j ≡ (eqb j i || has_bit bytes j)
unfolding has_bit
has_bit-set bytes i j h =
    let low : i % 8 < 8 = omega arith in
    let inside : i / 8 < length bytes = omega arith in
    let x = bit_or (get_or bytes (i / 8) 0) (1 * 2 ^ (i % 8) % 2 ^ 8) in
    elim (cases_eq j i) [
      | inl same ↦
          let e : get_or (set bytes (i / 8) x) (j / 8) 0 ≡ x = ap (λ k. get_or (set bytes (i / 8) x) (k / 8) 0) same ∙ get_or-set_same bytes (i / 8) x 0 inside in
          let f : is_set x (j % 8) ≡ true = ap (λ k. is_set x (k % 8)) same ∙ is_set-or_same (get_or bytes (i / 8) 0) (i % 8) low in
          let t : eqb j i ≡ true = eq-eqb j i same in
          rw (e, f, t) refl
      | inr other ↦
          let t : eqb j i ≡ false = ne_eqb j i other in
          rw t (elim (cases_eq (j / 8) (i / 8)) [
            | inl byte ↦
                let bit : j % 8 ≢ i % 8 = λ e. other (omega arith) in
                let e : get_or (set bytes (i / 8) x) (j / 8) 0 ≡ x = ap (λ k. get_or (set bytes (i / 8) x) k 0) byte ∙ get_or-set_same bytes (i / 8) x 0 inside in
                let f : get_or bytes (j / 8) 0 ≡ get_or bytes (i / 8) 0 = ap (λ k. get_or bytes k 0) byte in
                rw (e, f) (is_set-or_other (get_or bytes (i / 8) 0) (i % 8) (j % 8) low bit)
            | inr byte ↦
                let e : get_or (set bytes (i / 8) x) (j / 8) 0 ≡ get_or bytes (j / 8) 0 = get_or-set_other bytes (i / 8) (j / 8) x 0 byte in
                rw e refl
          ])
    ]

-- zeros
zero_at : (n i z : ℕ) → z ≡ 0 → get_or (replicate n z) i 0 ≡ 0
zero_at n i z e = elim (cases_lt i n) [
  | inl inside ↦ get_or-replicate n i z 0 inside ∙ e
  | inr past ↦ get_or_past (replicate n z) i 0 (let l = length-replicate n z in omega arith)
]

pub has_bit-zeros : (n i : ℕ) → has_bit (replicate n 0) i ≡ false
unfolding has_bit is_set
has_bit-zeros n i =
    let e : get_or (replicate n 0) (i / 8) 0 ≡ 0 = zero_at n (i / 8) 0 refl in
    let z = zero-div (2 ^ (i % 8)) in
    rw (e, z) refl

-- ---- the counts

-- the counts of the first n blocks of 512 bytes
pub record CountedTo (bytes : List ℕ) (n ones : ℕ) (counts : List ℕ) : Type 0 where
  pub count : length counts ≡ n + 1
  pub last : ones ≡ rank (has_bit bytes) (4096 * n)
  pub each : (j : ℕ) → j < length counts → get_or counts j 0 ≡ rank (has_bit bytes) (4096 * j)

pub counted_none : (bytes counts : List ℕ) → counts ≡ 0 ∷ [] → CountedTo bytes 0 0 counts
unfolding rank
counted_none bytes counts e = record {
  count = ap length e;
  last = refl;
  each = λ j h.
      let one : length counts ≡ 1 = ap length e in
      let z : j ≡ 0 = omega arith in
      ap (λ xs. get_or xs j 0) e ∙ (ap (λ i. get_or (0 ∷ []) i 0) z ∙ ap (λ i. rank (has_bit bytes) (4096 * i)) (sym z));
}

-- one block more
pub counted_sum : (bytes : List ℕ) (n ones more : ℕ) (counts : List ℕ) → 512 * (n + 1) ≤ length bytes → CountedTo bytes n ones counts
    → more ≡ rank (has_bit (slice_range bytes (n * 512) (n * 512 + 512))) (8 * length (slice_range bytes (n * 512) (n * 512 + 512)))
    → ones + more ≡ rank (has_bit bytes) (4096 * (n + 1))
counted_sum bytes n ones more counts fits h e =
    let part = slice_range bytes (n * 512) (n * 512 + 512) in
    let len : length part ≡ 512 = length-between bytes (n * 512) (n * 512 + 512) (omega arith) ∙ omega arith in
    let at : 8 * (n * 512) ≡ 4096 * n = omega arith in
    let last = h.last in
    let m : more ≡ rank (λ j. has_bit bytes (4096 * n + j)) 4096 =
    e ∙ (ap (λ k. rank (has_bit part) (8 * k)) len ∙ (rank-part bytes (n * 512) (n * 512 + 512) 4096 (omega arith)
    ∙ ap (λ k. rank (λ j. has_bit bytes (k + j)) 4096) at)) in
    let whole : 4096 * (n + 1) ≡ 4096 * n + 4096 = omega arith in
    let split = rank-add (has_bit bytes) (4096 * n) 4096 in
    ap (λ k. ones + k) m ∙ (ap (λ k. k + rank (λ j. has_bit bytes (4096 * n + j)) 4096) last ∙ (sym split ∙ ap (rank (has_bit bytes)) (sym whole)))

pub counted_more : (bytes : List ℕ) (n ones more : ℕ) (counts : List ℕ) → 512 * (n + 1) ≤ length bytes → CountedTo bytes n ones counts
    → more ≡ rank (has_bit (slice_range bytes (n * 512) (n * 512 + 512))) (8 * length (slice_range bytes (n * 512) (n * 512 + 512)))
    → CountedTo bytes (n + 1) (ones + more) (counts ++ (ones + more) ∷ [])
counted_more bytes n ones more counts fits h e =
    let sum = counted_sum bytes n ones more counts fits h e in
    let count = h.count in record {
      count = length_push counts (ones + more) ∙ omega arith;
      last = sum;
      each = λ j l. elim (cases_lt j (length counts)) [
        | inl early ↦ get_or_append_left counts ((ones + more) ∷ []) 0 j early ∙ h.each j early
        | inr late ↦
            let len = length_push counts (ones + more) in
            let at : j ≡ length counts = omega arith in
            get_or_push counts (ones + more) 0 j (sym at) ∙ (sum ∙ ap (λ k. rank (has_bit bytes) (4096 * k)) (omega arith))
      ];
    }

pub counted_all : (bytes counts : List ℕ) (n ones : ℕ) → n ≡ length bytes / 512 → CountedTo bytes n ones counts → AreRankCounts bytes counts
counted_all bytes counts n ones e h = let count = h.count in record { count = omega arith; each = h.each }
