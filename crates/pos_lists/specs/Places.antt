-- Tests of places, as marks stand for them: true at exactly the marked places.
-- Source: this project's own. Places count from 0.
use Rattle.std.specs.Prelude.{ℕ, ◌==◌, ◌||◌, Bool, false}

-- the test that no place passes
abbrev pub no_place : ℕ → Bool
no_place i = false

-- the test with one place more
abbrev pub with_place : ℕ → (ℕ → Bool) → ℕ → Bool
with_place i p j = (j == i) || p j
