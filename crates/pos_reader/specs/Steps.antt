-- The steps of reading over bytes alone, as the reader takes them.
-- Source: this project's plot file format. Offsets and lengths are in bytes, tables count from 1 to 7, parks from 0.
use Rattle.std.specs.Prelude.{ℕ, ◌+◌, ◌^◌, ◌≤◌, ◌<◌, List, Result}
use Rattle.pos_layout.specs.declared.header.Header.{Header}
use Rattle.pos_layout.specs.declared.entry.ParkEntry.{ParkEntry}
use Rattle.pos_layout.specs.declared.damage.Damage.{Damage}
use Rattle.pos_layout.specs.declared.damage.Damage.TheVariants.{Directory}
use Rattle.pos_layout.specs.declared.header.TheConstants.{GREATEST_SIZE}
use Rattle.pos_layout.specs.declared.layout.Layout.{Layout}
use Rattle.pos_layout.specs.Layouts.{parks_of}
use Rattle.pos_layout.specs.Fields.{count_of, entry_of}
use Rattle.pos_layout.specs.Reading.{tested, is_listed}

-- a header whose size is one that a file can have, and whose tables have no more numbers than the size allows
pub record HasCounts (h : Header) : Type 0 where
  pub size : h.size ≤ GREATEST_SIZE
  pub counts : (t : ℕ) → 1 ≤ t → t ≤ 7 → count_of h t ≤ 2 ^ (h.size + 1)

-- a park of a table
pub record IsPark (l : Layout) (h : Header) (t park : ℕ) : Type 0 where
  pub first : 1 ≤ t
  pub last : t ≤ 7
  pub there : park < parks_of l (count_of h t)

-- the entry that has these bytes, if it can be that of a park of table t
abbrev pub listed : Layout → Header → ℕ → ℕ → List ℕ → Result ParkEntry Damage
listed l h t park s = tested (is_listed l h t park (entry_of l s)) (Directory t park) (entry_of l s)
