-- The layouts of a plot file: what each fixes, and what follows from it.
-- Source: this project's plot file format. Lengths are in bytes.
use Rattle.std.specs.Prelude.{ℕ, ◌+◌, ◌-◌, ◌*◌, ◌/◌, ◌≤◌, nat_le, if◌then◌else◌, min, List, length, codes}
use Rattle.pos_bits.specs.Bits.{AreBytes}
pub use Rattle.pos_layout.specs.declared.layout.Layout.{Layout}
use Rattle.pos_layout.specs.declared.layout.Layout.TheVariants.{One, Two}

-- bytes 1 to 15 of the file
unfoldable pub name_of : Layout → List ℕ
name_of One = codes "SPACEPLOT-OWN-1"
name_of Two = codes "SPACEPLOT-OWN-2"

-- how many numbers a park has, but for the last one of a table
unfoldable pub full_of : Layout → ℕ
full_of One = 2048
full_of Two = 4096

-- how many bytes of its SHA-256 a directory keeps of a park
unfoldable pub digest_of : Layout → ℕ
digest_of One = 8
digest_of Two = 16

-- how many bytes a memo has at most
unfoldable pub memo_of : Layout → ℕ
memo_of One = 0
memo_of Two = 256

-- how many of the bytes before byte 56 are zero: in the second layout the two bytes before them are the memo's length
unfoldable pub zeros_of : Layout → ℕ
zeros_of One = 7
zeros_of Two = 5

-- a memo that a file of this layout can have
pub record IsMemo (l : Layout) (memo : List ℕ) : Type 0 where
  pub few : length memo ≤ memo_of l
  pub bytes : AreBytes memo

-- the length of a directory entry: offset, length, count, digest and head of a park
abbrev pub entry_bytes : Layout → ℕ
entry_bytes l = 24 + digest_of l

-- the greatest length of a park at size k
abbrev pub longest_park : Layout → ℕ → ℕ
longest_park l k = if nat_le k 32 then 9 * full_of l else 14 * full_of l

-- how many parks n numbers fill, the last one perhaps not wholly
abbrev pub parks_of : Layout → ℕ → ℕ
parks_of l n = (n + (full_of l - 1)) / full_of l

-- how many numbers a park of a table of n numbers has: all that a park can have, or what is left
abbrev pub park_count : Layout → ℕ → ℕ → ℕ
park_count l n park = min (full_of l) (n - full_of l * park)
