-- When a left value matches a right value.
-- Source: the Construction document, "matching function", with B = 119, C = 127 and BC = 15113.
use Rattle.std.specs.Prelude.{◌≡◌, ℕ, zero, suc, ◌+◌, ◌*◌, ◌/◌, ◌%◌, ◌^◌, ◌<◌, ◌==◌, ◌&&◌, ◌||◌, Bool, false}

-- values come in buckets of B * C = 15113
abbrev pub bucket : ℕ → ℕ
bucket y = y / 15113

-- the right value is the m-th target of the left one, by both residues
pub record IsTarget (yl yr m : ℕ) : Type 0 where
  pub quotients : yr % 15113 / 127 ≡ (yl % 15113 / 127 + m) % 119
  pub remainders : yr % 15113 % 127 ≡ ((2 * m + bucket yl % 2) ^ 2 + yl % 15113) % 127

-- there is such an m below 64
abbrev pub HasTarget : ℕ → ℕ → Type 0
HasTarget yl yr = (m : ℕ) × (m < 64) × IsTarget yl yr m

-- the left value matches the right one
pub record Match (yl yr : ℕ) : Type 0 where
  pub next_bucket : bucket yr ≡ bucket yl + 1
  pub target : HasTarget yl yr

-- the same as tests that compute, for definitions that choose by them: the m-th target,
abbrev pub is_target : ℕ → ℕ → ℕ → Bool
is_target yl yr m =
    yr % 15113 / 127 == (yl % 15113 / 127 + m) % 119
    && yr % 15113 % 127 == ((2 * m + bucket yl % 2) ^ 2 + yl % 15113) % 127

-- a target with an m below n,
unfoldable pub has_target_below : ℕ → ℕ → ℕ → Bool
has_target_below yl yr zero = false
has_target_below yl yr (suc m) = is_target yl yr m || has_target_below yl yr m

-- and a match
unfoldable pub is_match : ℕ → ℕ → Bool
is_match yl yr = bucket yr == bucket yl + 1 && has_target_below yl yr 64
