-- The targets of a left value as places, and the only one that a right value can be.
use Rattle.std.proofs.Common.{◌≡◌, ℕ, ◌+◌, ◌-◌, ◌*◌, ◌/◌, ◌%◌, ◌^◌, ◌<◌, List, get_or, arith, refl, sym, ◌∙◌, ap, subst}
use Rattle.std.proofs.Math.Nat.{mul-one, pow-zero, pow-succ'}
use Rattle.pos_tuple.specs.Match.{bucket, IsTarget, Match}
use Rattle.pos_buckets.specs.Targets.{AreTargets, target_place}
use Rattle.pos_buckets.specs.PairsBelow.{only_target}

square : (x : ℕ) → x * x ≡ x ^ 2
square x =
    sym (pow-succ' x 1 ∙ ap (λ n. x * n) (pow-succ' x 0 ∙ ap (λ n. x * n) (pow-zero x) ∙ mul-one x))

rest : (q p : ℕ) → (q + p % 127) % 127 ≡ (q + p) % 127
rest q p = omega arith

-- the sum of the two parts
pub target-sum :
    (highs lows : List ℕ) (parity place m : ℕ) → AreTargets highs lows → parity < 2 → place < 15113 → m < 64
    → get_or highs (place / 127 + m) 0 + get_or lows ((parity * 127 + place % 127) * 64 + m) 0 ≡ target_place parity place m
target-sum highs lows parity place m t hp hl hm =
    let high = t.high_parts.at (place / 127 + m) (omega arith) in
    let low = t.low_parts.at ((parity * 127 + place % 127) * 64 + m) (omega arith) in
    let m_is : ((parity * 127 + place % 127) * 64 + m) % 64 ≡ m = omega arith in
    let line_is : ((parity * 127 + place % 127) * 64 + m) / 64 ≡ parity * 127 + place % 127 = omega arith in
    let parity_is : (parity * 127 + place % 127) / 127 ≡ parity = omega arith in
    let rest_is : (parity * 127 + place % 127) % 127 ≡ place % 127 = omega arith in
    let low_is : get_or lows ((parity * 127 + place % 127) * 64 + m) 0 ≡ ((2 * m + parity) ^ 2 + place) % 127 =
    low ∙ rw (m_is, line_is, parity_is, rest_is)
    (rest ((2 * m + parity) * (2 * m + parity)) place ∙ ap (λ q. (q + place) % 127) (square (2 * m + parity)))
    in rw (high, low_is) refl

pub target_place-lt : (parity place m : ℕ) → target_place parity place m < 15113
target_place-lt parity place m = omega arith

joined : (yr b q r : ℕ) → yr / 15113 ≡ b + 1 → yr % 15113 / 127 ≡ q → yr % 15113 % 127 ≡ r → yr ≡ (b + 1) * 15113 + (q * 127 + r)
joined yr b q r h1 h2 h3 = omega arith

parted :
    (yr b q r : ℕ) → q < 119 → r < 127 → yr ≡ (b + 1) * 15113 + (q * 127 + r)
    → (yr / 15113 ≡ b + 1) × (yr % 15113 / 127 ≡ q) × (yr % 15113 % 127 ≡ r)
parted yr b q r h1 h2 h = (omega arith, omega arith, omega arith)

-- the place of a target
pub is_target-place :
    (yl yr m : ℕ) → bucket yr ≡ bucket yl + 1 → IsTarget yl yr m
    → yr ≡ (bucket yl + 1) * 15113 + target_place (bucket yl % 2) (yl % 15113) m
is_target-place yl yr m next t = joined yr (bucket yl) _ _ next t.quotients t.remainders

steps_on : (q r m : ℕ) → q < 119 → m < 119 → r ≡ (q + m) % 119 → m ≡ (r + 119 - q) % 119
steps_on q r m q_small m_small e = omega arith

pub only-is : (yl yr m : ℕ) → m < 64 → IsTarget yl yr m → m ≡ only_target yl yr
only-is yl yr m small t =
    let q_small : yl % 15113 / 127 < 119 = omega arith in
    steps_on (yl % 15113 / 127) (yr % 15113 / 127) m q_small (omega arith) t.quotients

-- a matching right value stands at its only target
pub match-place :
    (yl yr : ℕ) → Match yl yr
    → (only_target yl yr < 64) × (yr ≡ (bucket yl + 1) * 15113 + target_place (bucket yl % 2) (yl % 15113) (only_target yl yr))
match-place yl yr h =
    let m : ℕ = h.target.0 in
    let same : m ≡ only_target yl yr = only-is yl yr m h.target.1 h.target.2 in (
      subst (λ n. n < 64) same h.target.1,
      subst (λ n. yr ≡ (bucket yl + 1) * 15113 + target_place (bucket yl % 2) (yl % 15113) n) same
          (is_target-place yl yr m h.next_bucket h.target.2),
    )

-- and a right value that stands at a target matches
pub place-match :
    (yl yr m : ℕ) → m < 64 → yr ≡ (bucket yl + 1) * 15113 + target_place (bucket yl % 2) (yl % 15113) m
    → Match yl yr × (only_target yl yr ≡ m)
place-match yl yr m small e =
    let quotient = (yl % 15113 / 127 + m) % 119 in
    let remainder = ((2 * m + bucket yl % 2) ^ 2 + yl % 15113) % 127 in
    let parts : (yr / 15113 ≡ bucket yl + 1) × (yr % 15113 / 127 ≡ quotient) × (yr % 15113 % 127 ≡ remainder) =
    parted yr (bucket yl) quotient remainder (omega arith) (omega arith) e in
    let target : IsTarget yl yr m = record { quotients = parts.1; remainders = parts.2 } in (
      record { next_bucket = parts.0; target = (m, small, target) },
      sym (only-is yl yr m small target),
    )
