-- How often entries were made eight at a time.
use Rattle.std.specs.Prelude.{ℕ, ◌+◌, ◌-◌, ◌/◌, ◌^◌, ◌≤◌, List, length, min}
use Rattle.pos_forward.specs.declared.drafts.Draft.{Draft}

-- entries were made eight at a time, but for fewer than eight: so often since the count of times was base
abbrev pub CountsEights : ℕ → ℕ → List Draft → Type 0
CountsEights base lanes drafts = min (base + length drafts / 8) (2 ^ 64 - 1) ≤ lanes
