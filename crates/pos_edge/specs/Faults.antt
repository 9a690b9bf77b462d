-- Counts of events, as of faults, which stand still at the end of their type.
use Rattle.std.specs.Prelude.{ℕ, ◌+◌, ◌-◌, ◌^◌, ◌≤◌, min, max}

-- The count rose from the first number to the second. At the greatest number of 64 bits it can't rise, and counts as risen.
abbrev pub Rose : ℕ → ℕ → Type 0
Rose before now = min (before + 1) (2 ^ 64 - 1) ≤ now

-- the count after one more event
abbrev pub counted : ℕ → ℕ
counted n = min (n + 1) (2 ^ 64 - 1)

-- The count rose by so many from the first number to the second, or stands at the greatest of 64 bits.
abbrev pub RoseBy : ℕ → ℕ → ℕ → Type 0
RoseBy n before now = min (before + n) (2 ^ 64 - 1) ≤ now

-- the count after so many more events
abbrev pub raised : ℕ → ℕ → ℕ
raised n by = max n (min (n + by) (2 ^ 64 - 1))
