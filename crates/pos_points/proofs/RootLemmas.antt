-- Square roots, rounded down, of numbers in two parts.
use Rattle.std.proofs.Common.{◌≡◌, ℕ, zero, suc, ◌+◌, ◌-◌, ◌*◌, ◌/◌, ◌%◌, ◌^◌, ◌<◌, ◌≤◌, refl, ap, ◌∙◌, arith}
use Rattle.std.proofs.Math.Nat.{mul-le-mul, mul-le-mul_right, mul-pos, mul-lt-mul_of_pos_right, le_of_mul-le-mul_right, lt_of_mul-lt-mul_right, lt_of_not-le}
use Rattle.std.specs.Int.Count.{count_leading_zeros}
use Rattle.std.proofs.lemmas.Nat.{div-add-mod', mod_below, div_below, pow_pos, pow-add, leading_top}
use Rattle.std.proofs.Math.Pow.{pow_mono}
use Rattle.pos_points.specs.Root.{IsRoot}

-- of two numbers the one with the lesser square is the lesser
pub sq_lt : (x y : ℕ) → x * x < y * y → x < y
sq_lt x y h = lt_of_not-le (λ (p : y ≤ x). let g : y * y ≤ x * x = mul-le-mul p p in omega (arith, g, h))

-- a root lies below each number whose square is above the number
pub IsRoot-below : (n root rest m : ℕ) → IsRoot n root rest → n < m * m → root < m
IsRoot-below n root rest m h p = sq_lt root m (omega (arith, h.value))

-- A step of a root by halves: s is the root of the high half and r its rest, in digits of base b;
-- d1 and d0 are the next two digits; q and u are the quotient and the remainder of the division by 2 s.
module _ (s r b d1 d0 q u : ℕ) (division : q * (2 * s) + u ≡ r * b + d1) (under : u < 2 * s) (rest : r ≤ 2 * s) (digit1 : d1 < b) (digit0 : d0 < b) (wide : b ≤ 2 * s) where
  pub quotient_le : q ≤ b
  quotient_le =
      let g : r * b ≤ 2 * s * b = mul-le-mul_right b rest in
      let h : q * (2 * s) < suc b * (2 * s) = omega (arith, g) in
      let k : q < suc b = lt_of_mul-lt-mul_right (2 * s) h in
      omega arith

  pub square_le : q * q ≤ b * q
  square_le = mul-le-mul_right q quotient_le

  pub base_square_le : b * q ≤ 2 * s * b
  base_square_le = let h : q * b ≤ 2 * s * b = mul-le-mul_right b (omega (arith, quotient_le)) in omega (arith, h)

  -- what the root so far leaves is below twice its high part
  pub left_lt : u * b + d0 < 2 * s * b
  left_lt = let h : suc u * b ≤ 2 * s * b = mul-le-mul_right b under in omega (arith, h)

  -- the root so far and what it leaves, before its last digit's square is taken off
  pub root_value : (s * b + q) * (s * b + q) + (u * b + d0) ≡ (s * s + r) * (b * b) + (d1 * b + d0) + q * q
  root_value =
      let e : (q * (2 * s) + u) * b ≡ (r * b + d1) * b = ap (λ x. x * b) division in
      omega (arith, e)

  pub root_exact : q * q ≤ u * b + d0 → IsRoot ((s * s + r) * (b * b) + (d1 * b + d0)) (s * b + q) (u * b + d0 - q * q)
  root_exact h = record { value = omega (arith, root_value); rest_le = omega (arith, left_lt) }

  quotient_pos : u * b + d0 < q * q → 0 < q
  quotient_pos h = lt_of_not-le (λ (p : q ≤ 0). let g : q * q ≤ 0 * q = mul-le-mul_right q p in omega (arith, g, h))

  pub root_one_less : u * b + d0 < q * q → IsRoot ((s * s + r) * (b * b) + (d1 * b + d0)) (s * b + q - 1) (s * b + q + (s * b + q - 1) - (q * q - (u * b + d0)))
  root_one_less h = one_less (s * b + q) refl (quotient_pos h)
    where
      one_less : (c : ℕ) → c ≡ s * b + q → 0 < q → IsRoot ((s * s + r) * (b * b) + (d1 * b + d0)) (c - 1) (c + (c - 1) - (q * q - (u * b + d0)))
      one_less zero e pos = absurd (omega arith)
      one_less (suc c) e pos =
          let square : suc c * suc c ≡ (s * b + q) * (s * b + q) = ap (λ x. x * x) e in
          let last : suc c - 1 ≡ c = omega arith in
          rw last (record {
            value = omega (arith, square, root_value, square_le, base_square_le);
            rest_le = omega (arith, square_le, base_square_le);
          })

-- The same in the terms of the code, which divides.
module _ (s r b digits : ℕ) (rest : r ≤ 2 * s) (base : 0 < b) (wide : b ≤ 2 * s) (two : digits < b * b) where
  division : (r * b + digits / b) / (2 * s) * (2 * s) + (r * b + digits / b) % (2 * s) ≡ r * b + digits / b
  division = div-add-mod' (r * b + digits / b) (2 * s)

  under : (r * b + digits / b) % (2 * s) < 2 * s
  under = mod_below (r * b + digits / b) (2 * s) (omega arith)

  digit1 : digits / b < b
  digit1 = div_below digits b b base two

  digit0 : digits % b < b
  digit0 = mod_below digits b base

  whole : digits / b * b + digits % b ≡ digits
  whole = div-add-mod' digits b

  pub step_quotient_le : (r * b + digits / b) / (2 * s) ≤ b
  step_quotient_le = quotient_le s r b (digits / b) (digits % b) _ _ division under rest digit1 digit0 wide

  pub step_square_le : (r * b + digits / b) / (2 * s) * ((r * b + digits / b) / (2 * s)) ≤ b * ((r * b + digits / b) / (2 * s))
  step_square_le = square_le s r b (digits / b) (digits % b) _ _ division under rest digit1 digit0 wide

  pub step_base_le : b * ((r * b + digits / b) / (2 * s)) ≤ 2 * s * b
  step_base_le = base_square_le s r b (digits / b) (digits % b) _ _ division under rest digit1 digit0 wide

  pub step_exact : (q left : ℕ) → q ≡ (r * b + digits / b) / (2 * s) → left ≡ (r * b + digits / b) % (2 * s) * b + digits % b → q * q ≤ left →
      IsRoot ((s * s + r) * (b * b) + digits) (s * b + q) (left - q * q)
  step_exact q left e f h =
      rw (e, f) (rw whole at (root_exact s r b (digits / b) (digits % b) _ _ division under rest digit1 digit0 wide (rw (e, f) at h)))

  pub step_one_less : (q left : ℕ) → q ≡ (r * b + digits / b) / (2 * s) → left ≡ (r * b + digits / b) % (2 * s) * b + digits % b → left < q * q →
      IsRoot ((s * s + r) * (b * b) + digits) (s * b + q - 1) (s * b + q + (s * b + q - 1) - (q * q - left))
  step_one_less q left e f h =
      rw (e, f) (rw whole at (root_one_less s r b (digits / b) (digits % b) _ _ division under rest digit1 digit0 wide (rw (e, f) at h)))

  pub step_pos : (q left : ℕ) → q ≡ (r * b + digits / b) / (2 * s) → left ≡ (r * b + digits / b) % (2 * s) * b + digits % b → left < q * q → 0 < q
  step_pos q left e f h = lt_of_not-le (λ (p : q ≤ 0). let g : q * q ≤ 0 * q = mul-le-mul_right q p in omega (arith, g, h))

  -- the root's high part is the high root
  pub step_below : (root left : ℕ) → IsRoot ((s * s + r) * (b * b) + digits) root left → root < (s + 1) * b
  step_below root left h =
      let g : (s * s + r + 1) * (b * b) ≤ (s + 1) * (s + 1) * (b * b) = mul-le-mul_right (b * b) (omega arith) in
      IsRoot-below _ root left ((s + 1) * b) h (omega (arith, g))

-- the root of a number that was moved up by twice as many bits, moved down
pub shifted : (n root p : ℕ) → 0 < p → root * root ≤ n * (p * p) → n * (p * p) < (root + 1) * (root + 1) → (root / p * (root / p) ≤ n) × (n < (root / p + 1) * (root / p + 1))
shifted n root p pos low high =
    let split : root / p * p + root % p ≡ root = div-add-mod' root p in
    let part : root % p < p = mod_below root p pos in
    let square_pos : 0 < p * p = mul-pos pos pos in
    let at_most : root / p * p ≤ root = omega arith in
    let below : root + 1 ≤ (root / p + 1) * p = omega arith in
    let low_square : root / p * p * (root / p * p) ≤ root * root = mul-le-mul at_most at_most in
    let high_square : (root + 1) * (root + 1) ≤ (root / p + 1) * p * ((root / p + 1) * p) = mul-le-mul below below in
    let low' : root / p * (root / p) * (p * p) ≤ n * (p * p) = omega arith in
    let high' : n * (p * p) < (root / p + 1) * (root / p + 1) * (p * p) = omega arith in
    (le_of_mul-le-mul_right low' square_pos, lt_of_mul-lt-mul_right (p * p) high')

-- a number moved up by twice half as many bits, so that it has 125 or 126 of them
pub record IsNormal (n zeros half : ℕ) : Type 0 where
  pub even : 1 ≤ zeros / 2
  pub low : 2 ^ 124 ≤ n * 2 ^ (2 * half)
  pub high : n * 2 ^ (2 * half) < 2 ^ 126

normal_at : (n z j half : ℕ) → z + suc j ≡ 128 → 2 ^ j ≤ n → n < 2 ^ suc j → n < 2 ^ 126 → half ≡ z / 2 - 1 → IsNormal n z half
normal_at n z j half count low high small e =
    let bits_le : j < 126 = lt_of_not-le (λ (p : 126 ≤ j). let g : 2 ^ 126 ≤ 2 ^ j = pow_mono p in omega (arith, g, low, small)) in
    let least_le : 124 ≤ j + 2 * half = omega arith in
    let least : 2 ^ 124 ≤ 2 ^ (j + 2 * half) = pow_mono least_le in
    let most_le : suc j + 2 * half ≤ 126 = omega arith in
    let most : 2 ^ (suc j + 2 * half) ≤ 2 ^ 126 = pow_mono most_le in
    let low' : 2 ^ j * 2 ^ (2 * half) ≤ n * 2 ^ (2 * half) = mul-le-mul_right (2 ^ (2 * half)) low in
    let high' : n * 2 ^ (2 * half) < 2 ^ suc j * 2 ^ (2 * half) = mul-lt-mul_of_pos_right high (pow_pos (2 * half)) in
    record { even = omega arith; low = omega (arith, pow-add 2 j (2 * half)); high = omega (arith, pow-add 2 (suc j) (2 * half)) }

pub normal : (n : ℕ) → 0 < n → n < 2 ^ 126 → IsNormal n (count_leading_zeros 128 n) (count_leading_zeros 128 n / 2 - 1)
normal n pos small = found (leading_top 128 n pos (omega (arith, small)))
  where
    found : (j : ℕ) × (count_leading_zeros 128 n + suc j ≡ 128) × (2 ^ j ≤ n) × (n < 2 ^ suc j) → IsNormal n (count_leading_zeros 128 n) (count_leading_zeros 128 n / 2 - 1)
    found (j, count, low, high) = normal_at n (count_leading_zeros 128 n) j (count_leading_zeros 128 n / 2 - 1) count low high small refl

-- the root of a normal number, moved down, is the root of the number
pub rooted : (n z half s r root rest : ℕ) → IsNormal n z half → IsRoot (n * 2 ^ (2 * half) % 2 ^ 128 / 2 ^ 62) s r →
    IsRoot ((s * s + r) * 2 ^ 62 + n * 2 ^ (2 * half) % 2 ^ 128 % 2 ^ 62) root rest →
    (root / 2 ^ half * (root / 2 ^ half) ≤ n) × (n < (root / 2 ^ half + 1) * (root / 2 ^ half + 1))
rooted n z half s r root rest normal high whole =
    let double : 2 ^ (2 * half) ≡ 2 ^ half * 2 ^ half = ap (λ t. 2 ^ t) (two half) ∙ pow-add 2 half half in
    let inside : n * 2 ^ (2 * half) < 2 ^ 126 = normal.high in
    let value : root * root + rest ≡ n * 2 ^ (2 * half) = omega (arith, high.value, whole.value) in
    let value' : root * root + rest ≡ n * (2 ^ half * 2 ^ half) = rw double at value in
    shifted n root (2 ^ half) (pow_pos half) (omega arith) (omega (arith, whole.rest_le))
  where
    two : (h : ℕ) → 2 * h ≡ h + h
    two h = omega arith
