-- When opening finds each damage: one row for each test, by what the tests before it found right and what it found wrong.
-- Source: this project's plot file format. Offsets and lengths are in bytes, tables count from 1 to 7.
use Rattle.std.specs.Prelude.{◌≡◌, ◌≢◌, ℕ, ◌+◌, ◌^◌, ◌<◌, ◌≤◌, ◌⊎◌, List, length, replicate}
use Rattle.pos_layout.specs.declared.header.Header.{Header}
use Rattle.pos_layout.specs.declared.damage.HeaderField.{HeaderField}
use Rattle.pos_layout.specs.declared.damage.HeaderField.TheVariants.{Name, Size, Zeros, Memo, Counts}
use Rattle.pos_layout.specs.declared.damage.Damage.{Damage}
use Rattle.pos_layout.specs.declared.damage.Damage.TheVariants.{NotOpen, Header as WrongHeader, Length, Directory}
use Rattle.pos_layout.specs.declared.header.TheConstants.{HEADER_BYTES, LEAST_SIZE, GREATEST_SIZE}
use Rattle.pos_layout.specs.Layouts.{Layout, name_of, memo_of, zeros_of}
use Rattle.pos_layout.specs.Fields.{gate_in, name_in, zeros_in, header_in, count_of, end_of}
use Rattle.pos_layout.specs.Rules.{IsPlaced}

-- a file is long enough for a header, and its gate is open
abbrev pub IsGated : List ℕ → Type 0
IsGated b = (HEADER_BYTES ≤ length b) × (gate_in b ≡ 1)

-- a size that a plot file may have
abbrev pub IsSize : ℕ → Type 0
IsSize k = (LEAST_SIZE ≤ k) × (k ≤ GREATEST_SIZE)

-- the counts that a header says are at most those of its size
abbrev pub AreCounts : Header → Type 0
AreCounts h = (t : ℕ) → 1 ≤ t → t ≤ 7 → count_of h t ≤ 2 ^ (h.size + 1)

-- the bytes before the columns that have to be zero are
abbrev pub IsZeroed : Layout → List ℕ → Type 0
IsZeroed l b = zeros_in l b ≡ replicate (zeros_of l) 0

-- the memo is no longer than the layout allows
abbrev pub IsShortMemo : Layout → Header → Type 0
IsShortMemo l h = h.memo_length ≤ memo_of l

-- the header's name, size, zeros, memo and counts can be
pub record HasRightHeader (l : Layout) (b : List ℕ) : Type 0 where
  pub name : name_in b ≡ name_of l
  pub size : IsSize (header_in b).size
  pub zeros : IsZeroed l b
  pub memo : IsShortMemo l (header_in b)
  pub counts : AreCounts (header_in b)

-- the field that is the first wrong one
abbrev pub FieldCause : Layout → List ℕ → HeaderField → Type 0
FieldCause l b Name = name_in b ≢ name_of l
FieldCause l b Size = (name_in b ≡ name_of l) × (¬ IsSize (header_in b).size)
FieldCause l b Zeros = (name_in b ≡ name_of l) × IsSize (header_in b).size × (¬ IsZeroed l b)
FieldCause l b Memo = (name_in b ≡ name_of l) × IsSize (header_in b).size × IsZeroed l b × (¬ IsShortMemo l (header_in b))
FieldCause l b Counts =
    (name_in b ≡ name_of l) × IsSize (header_in b).size × IsZeroed l b × IsShortMemo l (header_in b) × (¬ AreCounts (header_in b))

-- table t is the first whose directory is misplaced, or all lie as they have to and the file does not end with the last
abbrev pub PlaceCause : Layout → Header → ℕ → Type 0
PlaceCause l h t =
    (1 ≤ t) × (t ≤ 7) × ((s : ℕ) → 1 ≤ s → s < t → IsPlaced l h s)
    × ((¬ IsPlaced l h t) ⊎ ((t ≡ 7) × IsPlaced l h 7 × (end_of l h 7 ≢ h.file_length)))

-- what has to be wrong with a file for opening to find this damage
abbrev pub OpeningCause : Layout → List ℕ → Damage → Type 0
OpeningCause l b (NotOpen n gate) = (n ≡ length b) × (gate ≡ gate_in b) × (¬ IsGated b)
OpeningCause l b (WrongHeader field) = IsGated b × FieldCause l b field
OpeningCause l b (Length said found) = IsGated b × HasRightHeader l b × (said ≡ (header_in b).file_length) × (found ≡ length b) × (said ≢ found)
OpeningCause l b (Directory t park) =
    IsGated b × HasRightHeader l b × ((header_in b).file_length ≡ length b) × (park ≡ 0) × PlaceCause l (header_in b) t
OpeningCause l b _ = ⊥
