-- The kinds of records that a plotting run keeps: the bits of each, what bits are read as, and what fits size k.
-- Source: this project's own. Units: widths in bits. A y has k + 6 bits, a value k, a place of a table k + 1, a
-- number 2k + 2, the metadata of table t as many as its units by k.
use Rattle.std.specs.Prelude.{ℕ, ◌≡◌, ◌+◌, ◌*◌, ◌/◌, ◌%◌, ◌^◌, ◌<◌, Bool, List, ◌++◌, length}
use Rattle.pos_bits.specs.Bits.{bits}
use Rattle.pos_tuple.specs.Node.{metadata_units}
use Rattle.pos_record.specs.Fields.{part_at, field_at}
use Rattle.pos_record.specs.declared.kinds.First.{First}
use Rattle.pos_record.specs.declared.kinds.Value.{Value}
use Rattle.pos_record.specs.declared.kinds.Middle.{Middle}
use Rattle.pos_record.specs.declared.kinds.Row.{Row}
use Rattle.pos_record.specs.declared.kinds.Last.{Last}
use Rattle.pos_record.specs.declared.kinds.Pair.{Pair}
use Rattle.pos_record.specs.declared.kinds.Number.{Number}

-- an entry of table 1: y, x
abbrev pub first_width : ℕ → ℕ
first_width k = k + 6 + k

abbrev pub first_code : ℕ → First → List Bool
first_code k r = bits r.y (k + 6) ++ bits r.x k

abbrev pub first_read : ℕ → List Bool → First
first_read k s = record { y = field_at 0 (k + 6) s; x = field_at (k + 6) k s }

abbrev pub FirstFits : ℕ → First → Type 0
FirstFits k r = (r.y < 2 ^ (k + 6)) × (r.x < 2 ^ k)

-- a value of table 1
abbrev pub value_code : ℕ → Value → List Bool
value_code k r = bits r.x k

abbrev pub value_read : ℕ → List Bool → Value
value_read k s = record { x = field_at 0 k s }

abbrev pub ValueFits : ℕ → Value → Type 0
ValueFits k r = r.x < 2 ^ k

-- an entry of a table t from 2 to 6: y, metadata, left place, right place
abbrev pub middle_width : ℕ → ℕ → ℕ
middle_width k t = k + 6 + k * metadata_units t + (k + 1) + (k + 1)

-- four parts as a string: a y, metadata, two places
abbrev pub entry_code : ℕ → ℕ → List Bool → ℕ → ℕ → List Bool
entry_code k y meta left right = bits y (k + 6) ++ meta ++ bits left (k + 1) ++ bits right (k + 1)

-- and back, where the metadata has m bits
abbrev pub left_at : ℕ → ℕ → List Bool → ℕ
left_at k m s = field_at (k + 6 + m) (k + 1) s

abbrev pub right_at : ℕ → ℕ → List Bool → ℕ
right_at k m s = field_at (k + 6 + m + (k + 1)) (k + 1) s

abbrev pub middle_code : {T : ℕ} → ℕ → ℕ → Middle T → List Bool
middle_code k t r = entry_code k r.y r.meta r.left r.right

abbrev pub middle_read : {T : ℕ} → ℕ → ℕ → List Bool → Middle T
middle_read k t s = let m : ℕ = k * metadata_units t in
    record { y = field_at 0 (k + 6) s; meta = part_at (k + 6) m s; left = left_at k m s; right = right_at k m s }

abbrev pub MiddleFits : {T : ℕ} → ℕ → ℕ → Middle T → Type 0
MiddleFits k t r = (r.y < 2 ^ (k + 6)) × (length r.meta ≡ k * metadata_units t) × (r.left < 2 ^ (k + 1)) × (r.right < 2 ^ (k + 1))

-- the same with the metadata as a number in two parts, the low one of 128 bits
abbrev pub metadata_number : {T : ℕ} → Row T → ℕ
metadata_number r = r.high * 2 ^ 128 + r.low

abbrev pub row_code : {T : ℕ} → ℕ → ℕ → Row T → List Bool
row_code k t r = entry_code k r.y (bits (metadata_number r) (k * metadata_units t)) r.left r.right

abbrev pub row_read : {T : ℕ} → ℕ → ℕ → List Bool → Row T
row_read k t s = let m : ℕ = k * metadata_units t in
    record { y = field_at 0 (k + 6) s; high = field_at (k + 6) m s / 2 ^ 128; low = field_at (k + 6) m s % 2 ^ 128; left = left_at k m s; right = right_at k m s }

abbrev pub RowFits : {T : ℕ} → ℕ → ℕ → Row T → Type 0
RowFits k t r = (r.y < 2 ^ (k + 6)) × (r.low < 2 ^ 128) × (metadata_number r < 2 ^ (k * metadata_units t)) × (r.left < 2 ^ (k + 1)) × (r.right < 2 ^ (k + 1))

-- an entry of table 7: y, left place, right place
abbrev pub last_width : ℕ → ℕ
last_width k = k + 6 + (k + 1) + (k + 1)

abbrev pub last_code : ℕ → Last → List Bool
last_code k r = bits r.y (k + 6) ++ bits r.left (k + 1) ++ bits r.right (k + 1)

abbrev pub last_read : ℕ → List Bool → Last
last_read k s = record { y = field_at 0 (k + 6) s; left = field_at (k + 6) (k + 1) s; right = field_at (k + 6 + (k + 1)) (k + 1) s }

abbrev pub LastFits : ℕ → Last → Type 0
LastFits k r = (r.y < 2 ^ (k + 6)) × (r.left < 2 ^ (k + 1)) × (r.right < 2 ^ (k + 1))

-- two places of the table below
abbrev pub pair_width : ℕ → ℕ
pair_width k = k + 1 + (k + 1)

abbrev pub pair_code : ℕ → Pair → List Bool
pair_code k r = bits r.left (k + 1) ++ bits r.right (k + 1)

abbrev pub pair_read : ℕ → List Bool → Pair
pair_read k s = record { left = field_at 0 (k + 1) s; right = field_at (k + 1) (k + 1) s }

abbrev pub PairFits : ℕ → Pair → Type 0
PairFits k r = (r.left < 2 ^ (k + 1)) × (r.right < 2 ^ (k + 1))

-- a number of a table of the file
abbrev pub number_width : ℕ → ℕ
number_width k = 2 * k + 2

abbrev pub number_code : ℕ → Number → List Bool
number_code k r = bits r.number (number_width k)

abbrev pub number_read : ℕ → List Bool → Number
number_read k s = record { number = field_at 0 (number_width k) s }

abbrev pub NumberFits : ℕ → Number → Type 0
NumberFits k r = r.number < 2 ^ number_width k
