-- What the calls of a writer do to the writer; what they do to the disk is what calls of any file with a gate do.
-- Source: this project's plot file format. Tables count from 1 to 7.
use Rattle.std.specs.Prelude.{◌≡◌, ℕ, ◌+◌, ◌*◌, ◌^◌, ◌<◌, ◌≤◌, List, [], ◌++◌, length}
use Rattle.pos_edge.specs.View.{View}
pub use Rattle.pos_gate.specs.Works.{Works, WorksBy, WritesOnly}
use Rattle.pos_layout.specs.Layouts.{Layout}
use Rattle.pos_layout.specs.Drafts.{Draft, WriterState, Stands, table_ended}

-- ---- the writer

-- it stands for some draft
abbrev pub IsStanding : WriterState → View → Type 0
IsStanding w view = (p : Draft) × Stands w p view

-- whatever draft it stood for, it now stands for what this makes of it
abbrev pub Goes : (Draft → Draft) → WriterState → WriterState → View → View → Type 0
Goes change before after old new = (p : Draft) → Stands before p old → Stands after (change p) new

-- a writer of this file, layout and size that just began
pub record IsBegun (file : ℕ) (layout : Layout) (size : ℕ) (w : WriterState) : Type 0 where
  pub file_is : w.file ≡ file
  pub layout_is : w.layout ≡ layout
  pub size_is : w.size ≡ size
  pub columns : w.columns ≡ []
  pub count : w.count ≡ 0
  pub least : w.least ≡ 0

-- a table is open, and this number may be added to it
pub record MayAdd (number : ℕ) (w : WriterState) : Type 0 where
  pub tables : length w.columns < 7
  pub above : w.least ≤ number
  pub below : number < 2 ^ (2 * w.size + 2)
  pub few : w.count < 2 ^ (w.size + 1)

-- the same file, layout and size
pub record SameFile (before after : WriterState) : Type 0 where
  pub file : after.file ≡ before.file
  pub layout : after.layout ≡ before.layout
  pub size : after.size ≡ before.size

-- the open table has one number more, this one
pub record OneMore (number : ℕ) (before after : WriterState) : Type 0 where
  pub count : after.count ≡ before.count + 1
  pub least : after.least ≡ number + 1

-- one table more is ended, and the next is empty
pub record OpensNext (before after : WriterState) : Type 0 where
  pub tables : length after.columns ≡ length before.columns + 1
  pub count : after.count ≡ 0
  pub least : after.least ≡ 0

-- ---- several calls

-- these numbers more in the open table
abbrev pub with_numbers : List ℕ → Draft → Draft
with_numbers ns p = record { layout = p.layout; memo = p.memo; id = p.id; k = p.k; ended = p.ended; numbers = p.numbers ++ ns }

-- these numbers more, and the table ended
abbrev pub with_table : List ℕ → Draft → Draft
with_table ns p = table_ended (with_numbers ns p)

-- these tables more
abbrev pub with_tables : List (List ℕ) → Draft → Draft
with_tables tables p = record { layout = p.layout; memo = p.memo; id = p.id; k = p.k; ended = p.ended ++ tables; numbers = p.numbers }
