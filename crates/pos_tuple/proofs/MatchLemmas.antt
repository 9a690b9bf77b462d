-- Matching as a fact and as a test.
use Rattle.std.proofs.Common.{◌≡◌, ℕ, ◌+◌, ◌-◌, ◌*◌, ◌/◌, ◌%◌, ◌^◌, ◌<◌, Bool, arith, refl, sym, ◌∙◌, ap}
use Rattle.std.proofs.Math.Nat.{mul-one, pow-zero, pow-succ'}
use Rattle.std.specs.Bool.{Decides}
use Rattle.std.proofs.lemmas.Bool.Decides.{Decides-eqb, Decides-and, Decides-like, Decides-below_or}
use Rattle.pos_tuple.specs.Match.{bucket, IsTarget, HasTarget, Match, is_target, has_target_below, is_match}

pub is_target-decides : (yl yr m : ℕ) → Decides (is_target yl yr m) (IsTarget yl yr m)
is_target-decides yl yr m =
    Decides-like (is_target yl yr m) (λ h. record { quotients = h.0; remainders = h.1 }) (λ h. (h.quotients, h.remainders))
    (Decides-and _ _
    (Decides-eqb (yr % 15113 / 127) ((yl % 15113 / 127 + m) % 119))
    (Decides-eqb (yr % 15113 % 127) (((2 * m + bucket yl % 2) ^ 2 + yl % 15113) % 127)))

pub has_target_below-decides :
    (yl yr n : ℕ) → Decides (has_target_below yl yr n) ((m : ℕ) × (m < n) × IsTarget yl yr m)
unfolding has_target_below
has_target_below-decides yl yr =
    Decides-below_or (is_target yl yr) (IsTarget yl yr) (has_target_below yl yr) (is_target-decides yl yr) refl (λ _. refl)

pub is_match-decides : (yl yr : ℕ) → Decides (is_match yl yr) (Match yl yr)
unfolding is_match
is_match-decides yl yr =
    Decides-like (is_match yl yr) (λ h. record { next_bucket = h.0; target = h.1 }) (λ h. (h.next_bucket, h.target))
    (Decides-and _ _
    (Decides-eqb (bucket yr) (bucket yl + 1))
    (has_target_below-decides yl yr 64))

-- what the places in their buckets leave as the only target
abbrev pub only_target : ℕ → ℕ → ℕ
only_target yl yr = (yr % 15113 / 127 + 119 - yl % 15113 / 127) % 119

quotient-lt : (y : ℕ) → y % 15113 / 127 < 119
quotient-lt y = omega arith

steps_back : (q r : ℕ) → q < 119 → r < 119 → r ≡ (q + (r + 119 - q) % 119) % 119
steps_back q r q_small r_small = omega arith

steps_on : (q r m : ℕ) → q < 119 → m < 119 → r ≡ (q + m) % 119 → m ≡ (r + 119 - q) % 119
steps_on q r m q_small m_small e = omega arith

square : (x : ℕ) → x * x ≡ x ^ 2
square x =
    sym (pow-succ' x 1 ∙ ap (λ n. x * n) (pow-succ' x 0 ∙ ap (λ n. x * n) (pow-zero x) ∙ mul-one x))

pub only_target-decides :
    (yl yr : ℕ) (b : Bool)
    → Decides b ((only_target yl yr < 64)
    × (yr % 15113 % 127
    ≡ ((2 * only_target yl yr + bucket yl % 2) * (2 * only_target yl yr + bucket yl % 2) + yl % 15113) % 127))
    → Decides b (HasTarget yl yr)
only_target-decides yl yr b d =
    Decides-like b
    (λ h. (
      only_target yl yr,
      h.0,
      record {
        quotients = steps_back _ _ (quotient-lt yl) (quotient-lt yr);
        remainders = h.1 ∙ ap (λ n. (n + yl % 15113) % 127) (square (2 * only_target yl yr + bucket yl % 2));
      },
    ))
    (λ h.
    let m : ℕ = h.0 in
    let same : m ≡ only_target yl yr = steps_on _ _ m (quotient-lt yl) (omega (arith, h.1)) h.2.quotients in (
      rw (← same) h.1,
      rw (← same) (h.2.remainders ∙ ap (λ n. (n + yl % 15113) % 127) (sym (square (2 * m + bucket yl % 2)))),
    ))
    d
