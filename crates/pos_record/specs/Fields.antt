-- The fields of a record, which are joined to a bit string. Units: bits.
use Rattle.std.specs.Prelude.{ℕ, ◌≤◌, Bool, List, take, drop}
use Rattle.pos_bits.specs.Bits.{number}

-- the sizes k that a record is laid out for
abbrev pub IsRecordSize : ℕ → Type 0
IsRecordSize k = (10 ≤ k) × (k ≤ 50)

-- the `width` bits from bit `at` on, and the number that they write
abbrev pub part_at : ℕ → ℕ → List Bool → List Bool
part_at at width s = take width (drop at s)

abbrev pub field_at : ℕ → ℕ → List Bool → ℕ
field_at at width s = number (part_at at width s)
