-- Entries with their metadata as a number: what a draft stands for, and the draft of an entry. Units: bits.
use Rattle.std.specs.Prelude.{◌≡◌, ℕ, ◌+◌, ◌*◌, ◌/◌, ◌%◌, ◌^◌, ◌<◌, List, [], slice_index_or}
use Rattle.pos_bits.specs.Bits.{bits, number}
use Rattle.pos_tuple.specs.Node.{metadata_units, next_entry}
use Rattle.pos_tuple.specs.declared.entry.Entry.{Entry}
use Rattle.pos_record.specs.declared.kinds.First.{First}
use Rattle.pos_forward.specs.declared.drafts.Draft.{Draft}

-- the entry of table t with this y and the metadata that a number writes
abbrev pub entry_of_number : ℕ → ℕ → ℕ → ℕ → Entry
entry_of_number k t y n = record { y = y; meta = bits n (k * metadata_units t) }

-- the entry that a draft of table t stands for, and the two places of the table below that it is made of
abbrev pub draft_entry : ℕ → ℕ → Draft → Entry
draft_entry k t d = entry_of_number k t d.y (d.high * 2 ^ 128 + d.low)

abbrev pub draft_pair : Draft → ℕ × ℕ
draft_pair d = (d.left, d.right)

-- the draft of an entry that is made of two places
abbrev pub draft_of : Entry → ℕ × ℕ → Draft
draft_of e p = record {
  y = e.y;
  high = number e.meta / 2 ^ 128;
  low = number e.meta % 2 ^ 128;
  left = p.0;
  right = p.1;
}

-- the entry of a row of table 1
abbrev pub first_row_entry : ℕ → First → Entry
first_row_entry k r = entry_of_number k 1 r.y r.x

-- the entry of a table at a place; past the end it is of no meaning
abbrev pub entry_of_place : List Entry → ℕ → Entry
entry_of_place es i = slice_index_or es i (record { y = 0; meta = [] })

-- a draft's y and metadata have the bits of table t
pub record HasDraftBits (k t : ℕ) (d : Draft) : Type 0 where
  pub y : d.y < 2 ^ (k + 6)
  pub low : d.low < 2 ^ 128
  pub meta : d.high * 2 ^ 128 + d.low < 2 ^ (k * metadata_units t)

-- and its places are among so many
pub record IsPairDraft (k t below : ℕ) (d : Draft) : Type 0 where
  pub y : d.y < 2 ^ (k + 6)
  pub low : d.low < 2 ^ 128
  pub meta : d.high * 2 ^ 128 + d.low < 2 ^ (k * metadata_units t)
  pub left : d.left < below
  pub right : d.right < below

-- a draft of table t has the entry that its two places of the table below, es, give
pub record IsNextDraft (k t : ℕ) (es : List Entry) (d : Draft) : Type 0 where
  pub entry : draft_entry k t d ≡ next_entry k t (entry_of_place es d.left) (entry_of_place es d.right)
  pub fit : HasDraftBits k t d
