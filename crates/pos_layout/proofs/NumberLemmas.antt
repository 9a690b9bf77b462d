-- Rising numbers and their parks.
use Rattle.std.proofs.Common.{◌≡◌, ℕ, zero, suc, ◌+◌, ◌-◌, ◌*◌, ◌/◌, ◌^◌, ◌<◌, ◌≤◌, nat_eq, false, List, [], ◌∷◌, ◌++◌, length, take, drop, get_or, All, refl, sym, ap, ◌∙◌, subst, inl, inr, arith, pow-suc, pow-add, length-append}
use Rattle.std.proofs.lemmas.List.{get_or-take, get_or-drop, get_or_append_left, get_or_push, length-take, length-drop, length_push}
use Rattle.std.proofs.lemmas.List.Elements.{All-nil, All-cons, All-head, All-tail}
use Rattle.std.proofs.lemmas.Bool.{cases_lt, cases_eq, ne_eqb}
use Rattle.std.proofs.Math.Nat.{mul-le-mul_right, le-div_iff_mul-le, div-lt_iff_lt-mul}
use Rattle.std.proofs.Math.Pow.{pow_mono}
use Rattle.std.proofs.lemmas.Nat.{pow_pos}
use Rattle.std.proofs.Math.Seq.{drop-append_seam}
use Rattle.std.specs.List.Sorted.{IsStrictlyIncreasing}
use Rattle.pos_bits.specs.Bits.{bits, bytes, AreBytes}
use Rattle.pos_bits.specs.Blocks.{length-bits}
use Rattle.pos_bits.proofs.BytesLemmas.{bytes-are_bytes, length-bytes}
use Rattle.pos_rice.specs.Park.{AreNumbers, IsLow, Park, mean_step, park_bits, steps_bits}
use Rattle.pos_rice.proofs.ParkLemmas.{far, Park-one_list_of_bytes, Park-short}
use Rattle.sha2.specs.Sha256.{sha256}
use Rattle.pos_layout.specs.declared.entry.ParkEntry.{ParkEntry}
use Rattle.pos_layout.specs.Layouts.{Layout, digest_of}
use Rattle.pos_layout.specs.Rules.{head_of}
use Rattle.pos_layout.specs.Files.{digits_to, low_bits, park_of, entry_for}
use Rattle.pos_layout.proofs.CodecLemmas.{entry_from}

-- ---- rising numbers

pub rising-take : (n : ℕ) (ns : List ℕ) → IsStrictlyIncreasing ns → IsStrictlyIncreasing (take n ns)
rising-take n ns h = λ k l.
    let e : length (take n ns) ≤ length ns = simp length-take (omega arith) in
    let f : length (take n ns) ≤ n = simp length-take (omega arith) in
    let g = h k (omega arith) in
    rw (get_or-take n ns k 0 (omega arith), get_or-take n ns (k + 1) 0 (omega arith)) g

pub rising-drop : (n : ℕ) (ns : List ℕ) → IsStrictlyIncreasing ns → IsStrictlyIncreasing (drop n ns)
rising-drop n ns h = λ k l.
    let e : length (drop n ns) ≡ length ns - n = length-drop n ns in
    let g = h (n + k) (omega arith) in
    let j : n + (k + 1) ≡ n + k + 1 = omega arith in
    rw (get_or-drop n ns k 0, get_or-drop n ns (k + 1) 0, j) g

pub rising-end : (xs ys : List ℕ) → IsStrictlyIncreasing (xs ++ ys) → IsStrictlyIncreasing ys
rising-end xs ys h = subst IsStrictlyIncreasing (drop-append_seam xs ys) (rising-drop (length xs) (xs ++ ys) h)

pub rising-push : (ns : List ℕ) (n : ℕ) → IsStrictlyIncreasing ns → (1 ≤ length ns → get_or ns (length ns - 1) 0 < n) → IsStrictlyIncreasing (ns ++ n ∷ [])
rising-push ns n h above = λ k l.
    let e : length (ns ++ n ∷ []) ≡ length ns + 1 = length_push ns n in
    elim (cases_lt (k + 1) (length ns)) [
      | inl inside ↦ rw (get_or_append_left ns (n ∷ []) 0 k (omega arith), get_or_append_left ns (n ∷ []) 0 (k + 1) inside) (h k inside)
      | inr last ↦
          let at : k + 1 ≡ length ns = omega arith in
          let here : length ns - 1 ≡ k = omega arith in
          let top = above (omega arith) in
          rw (get_or_append_left ns (n ∷ []) 0 k (omega arith), get_or_push ns n 0 (k + 1) (sym at)) (subst (λ i. get_or ns i 0 < n) here top)
    ]

pub All-take : {X : Type 0} (P : X → Type 0) (n : ℕ) (xs : List X) → All P xs → All P (take n xs)
All-take P zero xs h = All-nil P
All-take P (suc n) [] h = All-nil P
All-take P (suc n) (x ∷ xs) h = All-cons P x (take n xs) (All-head P x xs h) (All-take P n xs (All-tail P x xs h))

pub All-drop : {X : Type 0} (P : X → Type 0) (n : ℕ) (xs : List X) → All P xs → All P (drop n xs)
All-drop P zero xs h = h
All-drop P (suc n) [] h = h
All-drop P (suc n) (x ∷ xs) h = All-drop P n xs (All-tail P x xs h)

pub All-end : {X : Type 0} (P : X → Type 0) (xs ys : List X) → All P (xs ++ ys) → All P ys
All-end P [] ys h = h
All-end P (x ∷ xs) ys h = All-end P xs ys (All-tail P x (xs ++ ys) h)

-- ---- the park as a function

digits_zero : (most : ℕ) → digits_to most 0 ≡ 0
unfolding digits_to
digits_zero zero = refl
digits_zero (suc most) = refl

digits-step : (most n : ℕ) → digits_to (suc most) (suc n) ≡ suc (digits_to most (suc n / 2))
unfolding digits_to
digits-step most n = rw (ne_eqb (suc n) 0 (λ e. absurd (omega arith))) refl

digits-below : (most n : ℕ) → n ≤ most → n < 2 ^ digits_to most n
unfolding digits_to
digits-below zero n h = omega arith
digits-below (suc most) zero h = omega arith
digits-below (suc most) (suc n) h =
    let half : suc n / 2 ≤ most = omega arith in
    let more = digits-below most (suc n / 2) half in
    rw (digits-step most n, pow-suc 2 (digits_to most (suc n / 2))) (omega arith)

-- the digits of a number that is not 0 say its size
pub record AreDigits (n digits : ℕ) : Type 0 where
  pub some : 1 ≤ digits
  pub least : 2 ^ (digits - 1) ≤ n
  pub below : n < 2 ^ digits

digits-some : (most n : ℕ) → n ≤ most → 1 ≤ n → (1 ≤ digits_to most n) × (2 ^ (digits_to most n - 1) ≤ n)
digits-some zero n h some = absurd (omega arith)
digits-some (suc most) zero h some = absurd (omega arith)
digits-some (suc most) (suc n) h some =
    subst (λ (d : ℕ). (1 ≤ d) × (2 ^ (d - 1) ≤ suc n)) (sym (digits-step most n)) (elim (cases_eq (suc n / 2) 0) [
      | inl none ↦
          let e : digits_to most (suc n / 2) ≡ 0 = ap (digits_to most) none ∙ digits_zero most in
          (omega arith, subst (λ (d : ℕ). 2 ^ (suc d - 1) ≤ suc n) (sym e) (omega arith))
      | inr more ↦
          let half : suc n / 2 ≤ most = omega arith in
          let was = digits-some most (suc n / 2) half (omega arith) in
          let d : ℕ = digits_to most (suc n / 2) in
          let first : 1 ≤ d = was.0 in
          let least : 2 ^ (d - 1) ≤ suc n / 2 = was.1 in
          let e : suc d - 1 ≡ suc (d - 1) = omega arith in
          let p : 2 ^ suc (d - 1) ≡ 2 * 2 ^ (d - 1) = pow-suc 2 (d - 1) ∙ omega arith in
          (omega arith, subst (λ (j : ℕ). 2 ^ j ≤ suc n) (sym e) (omega arith))
    ])

pub digits : (n : ℕ) → 1 ≤ n → AreDigits n (digits_to n n)
digits n some = record {
  some = (digits-some n n (omega arith) some).0;
  least = (digits-some n n (omega arith) some).1;
  below = digits-below n n (omega arith);
}

mean_some : (ns : List ℕ) → 1 < length ns → IsStrictlyIncreasing ns → 1 ≤ mean_step ns
mean_some ns more rising =
    let f = far ns (omega arith) rising in
    let m : length ns - 1 ≤ get_or ns (length ns - 1) 0 - get_or ns 0 0 = omega arith in
    let some : 0 < length ns - 1 = omega arith in
    (le-div_iff_mul-le some).1 (omega arith)

low_bits-is : (k : ℕ) (ns : List ℕ) → AreNumbers k ns → IsLow ns (low_bits ns)
unfolding low_bits
low_bits-is k ns h = record {
  alone = λ e. rw e refl;
  digits = λ more.
      let ne : nat_eq (length ns) 1 ≡ false = ne_eqb (length ns) 1 (λ e. absurd (omega arith)) in
      let d = digits (mean_step ns) (mean_some ns more h.rising) in
      let some = d.some in
      let e : suc (digits_to (mean_step ns) (mean_step ns) - 1) ≡ digits_to (mean_step ns) (mean_step ns) = omega arith in
      rw ne (d.least, subst (λ (j : ℕ). mean_step ns < 2 ^ j) (sym e) d.below);
}

-- the function gives the park
pub park_of-is : (k : ℕ) (ns : List ℕ) → AreNumbers k ns → Park k ns (park_of k ns)
unfolding park_of
park_of-is k ns h = record { numbers = h; low = low_bits ns; low_is = low_bits-is k ns h; bytes_are = refl }

pub park_of-only : (k : ℕ) (ns s : List ℕ) → Park k ns s → s ≡ park_of k ns
park_of-only k ns s p = Park-one_list_of_bytes k ns s (park_of k ns) p (park_of-is k ns p.numbers)

pub park_of-bytes : (k : ℕ) (ns : List ℕ) → AreBytes (park_of k ns)
unfolding park_of
park_of-bytes k ns = bytes-are_bytes (park_bits k (low_bits ns) ns)

-- a park is short, and no list of no bytes
pub park_of-short : (k : ℕ) (ns : List ℕ) → k ≤ 50 → AreNumbers k ns → length (park_of k ns) ≤ 15 * length ns
park_of-short k ns small h =
    let s = Park-short k ns (park_of k ns) (park_of-is k ns h) in
    let m : (2 * k + 4) * length ns ≤ 104 * length ns = mul-le-mul_right (length ns) (omega arith) in
    let some = h.some in
    omega arith

pub park_fits : (k : ℕ) (ns s : List ℕ) → k ≤ 50 → Park k ns s → length s ≤ 15 * length ns
park_fits k ns s small p = subst (λ y. length y ≤ 15 * length ns) (sym (park_of-only k ns s p)) (park_of-short k ns small p.numbers)

-- the f7 of a number of table 7 is small
pub head_fits : (k : ℕ) (ns : List ℕ) → k ≤ 50 → AreNumbers k ns → get_or ns 0 0 / 2 ^ (k + 1) < 2 ^ 51
head_fits k ns small h =
    let some = h.some in
    let below : get_or ns 0 0 < 2 ^ (2 * k + 2) = h.below 0 0 (omega arith) in
    let e : 2 * k + 2 ≡ (k + 1) + (k + 1) = omega arith in
    let square : 2 ^ (2 * k + 2) ≡ 2 ^ (k + 1) * 2 ^ (k + 1) = ap (λ j. 2 ^ j) e ∙ pow-add 2 (k + 1) (k + 1) in
    let x : 2 ^ (k + 1) ≤ 2 ^ 51 = let size : k + 1 ≤ 51 = omega arith in pow_mono size in
    let q : get_or ns 0 0 / 2 ^ (k + 1) < 2 ^ (k + 1) = (div-lt_iff_lt-mul (pow_pos (k + 1))).1 (subst (λ j. get_or ns 0 0 < j) square below) in
    omega arith

-- the entry that is made of a park is the one for its numbers
pub entry_for-is : (l : Layout) (k t at : ℕ) (ns s d : List ℕ) (h : ℕ) → Park k ns s → d ≡ take (digest_of l) (sha256 s) → h ≡ head_of k t ns
    → ◌≡◌ {A = ParkEntry} (record { offset = at; park_length = length s; count = length ns; digest = d; head = h }) (entry_for l k t at ns)
unfolding entry_for
entry_for-is l k t at ns s d h p ed eh =
    let same = park_of-only k ns s p in
    entry_from at at (length s) (length (park_of k ns)) (length ns) (length ns) d (take (digest_of l) (sha256 (park_of k ns))) h (head_of k t ns) refl (ap length same) refl (ed ∙ ap (λ y. take (digest_of l) (sha256 y)) same) eh

-- a park has bytes
park_bits-some : (k low : ℕ) (ns : List ℕ) → 1 ≤ length ns → 1 ≤ length (park_bits k low ns)
unfolding park_bits
park_bits-some k low [] some = absurd (omega arith)
park_bits-some k low (n ∷ ns) some =
    omega (arith, length-append (bits n (2 * k + 2) ++ bits low 7) (steps_bits low n ns), length-append (bits n (2 * k + 2)) (bits low 7), length-bits n (2 * k + 2))

pub park_of-some : (k : ℕ) (ns : List ℕ) → AreNumbers k ns → 1 ≤ length (park_of k ns)
unfolding park_of
park_of-some k ns h =
    let b = park_bits-some k (low_bits ns) ns h.some in
    let e : length (bytes (park_bits k (low_bits ns) ns)) ≡ (length (park_bits k (low_bits ns) ns) + 7) / 8 = length-bytes (park_bits k (low_bits ns) ns) in
    omega arith
