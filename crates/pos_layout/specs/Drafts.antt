-- A plot file that is being written: what a writer keeps, and what it stands for.
-- Source: this project's plot file format. Lengths are in bytes, tables count from 1 to 7.
use Rattle.std.specs.Prelude.{◌≡◌, ℕ, suc, ◌+◌, ◌-◌, ◌<◌, ◌≤◌, ◌==◌, nat_lt, if◌then◌else◌, All, List, [], ◌∷◌, ◌++◌, length, replicate, slice_index, slice_index_or}
use Rattle.std.specs.List.{concat}
use Rattle.pos_bits.specs.Bits.{AreBytes}
use Rattle.pos_rice.specs.Park.{AreNumbers}
use Rattle.pos_edge.specs.View.{View}
pub use Rattle.pos_gate.specs.Works.{IsWriteFault}
use Rattle.pos_layout.specs.declared.header.Column.{Column}
use Rattle.pos_layout.specs.declared.header.TheConstants.{HEADER_BYTES, LEAST_SIZE, GREATEST_SIZE}
use Rattle.pos_layout.specs.Layouts.{Layout, full_of, IsMemo}
use Rattle.pos_layout.specs.Lists.{IsTable}
use Rattle.pos_lists.specs.PlotLists.{PlotLists}
use Rattle.pos_layout.specs.Fields.{after_memo, memo_in}
use Rattle.pos_layout.specs.Files.{park_bytes, directory, tables_bytes, columns_for, file_of}
use Rattle.pos_layout.specs.Rules.{Stores}
use Rattle.pos_layout.specs.Images.{HoldsShut, Holds}

-- ---- what was added so far

-- the layout, the memo, the id, the size, the lists of the tables that are ended, and the numbers of the open table
pub record Draft : Type 0 where
  pub layout : Layout
  pub memo : List ℕ
  pub id : List ℕ
  pub k : ℕ
  pub ended : List (List ℕ)
  pub numbers : List ℕ

abbrev pub begun : Layout → List ℕ → List ℕ → ℕ → Draft
begun l memo id k = record { layout = l; memo = memo; id = id; k = k; ended = []; numbers = [] }

-- one number more in the open table
abbrev pub added : ℕ → Draft → Draft
added n p = record { layout = p.layout; memo = p.memo; id = p.id; k = p.k; ended = p.ended; numbers = p.numbers ++ n ∷ [] }

-- the open table ended, and the next one open
abbrev pub table_ended : Draft → Draft
table_ended p = record { layout = p.layout; memo = p.memo; id = p.id; k = p.k; ended = p.ended ++ p.numbers ∷ []; numbers = [] }

-- the plot of a draft with all its tables ended
abbrev pub plot_of : Draft → PlotLists
plot_of p = record { id = p.id; k = p.k; tables = p.ended }

-- what a draft always is
pub record IsDraft (p : Draft) : Type 0 where
  pub memo : IsMemo p.layout p.memo
  pub id_length : length p.id ≡ 32
  pub id_bytes : AreBytes p.id
  pub least : LEAST_SIZE ≤ p.k
  pub greatest : p.k ≤ GREATEST_SIZE
  pub few : length p.ended ≤ 7
  pub ended : All (IsTable p.k) p.ended
  pub numbers : IsTable p.k p.numbers
  -- after the last table there is none
  pub done : length p.ended ≡ 7 → p.numbers ≡ []

-- the least number that may come after these
unfoldable pub next_after : List ℕ → ℕ
next_after [] = 0
next_after (n ∷ ns) = slice_index (n ∷ ns) (length ns) + 1

-- ---- what a writer keeps

-- its file, the layout, the memo's length, the id and the size, what the header will say of the ended tables, how many numbers the open table has
-- and the least that may come next, its numbers that are not in the file yet, its directory so far, and how many bytes
-- the file has
pub record WriterState : Type 0 where
  pub file : ℕ
  pub layout : Layout
  pub memo_length : ℕ
  pub id : List ℕ
  pub size : ℕ
  pub columns : List Column
  pub count : ℕ
  pub least : ℕ
  pub park : List ℕ
  pub entries : List ℕ
  pub file_length : ℕ

-- how many numbers table t has so far
unfoldable pub count_so_far : WriterState → ℕ → ℕ
count_so_far w t =
    if nat_lt (t - 1) (length w.columns) then (slice_index_or w.columns (t - 1) (record { count = 0; directory = 0 })).count
    else if t - 1 == length w.columns then w.count else 0

-- the same file, layout, plot and open table, with as many numbers
pub record SameTable (old new : WriterState) : Type 0 where
  pub file : new.file ≡ old.file
  pub layout : new.layout ≡ old.layout
  pub size : new.size ≡ old.size
  pub columns : new.columns ≡ old.columns
  pub count : new.count ≡ old.count
  pub least : new.least ≡ old.least

-- where the open table begins in the file
abbrev pub table_start : Draft → ℕ
table_start p = after_memo p.memo + length (tables_bytes p.layout p.k 1 (after_memo p.memo) p.ended)

-- the bytes of a draft of which these parks of the open table are in the file: a header of zeros, the memo, the ended
-- tables, the parks
abbrev pub draft_bytes : Draft → List (List ℕ) → List ℕ
draft_bytes p parks =
    replicate HEADER_BYTES 0 ++ (p.memo ++ (tables_bytes p.layout p.k 1 (after_memo p.memo) p.ended ++ park_bytes p.k parks))

-- The writer keeps this draft, with these parks of the open table in the file.
pub record Keeps (w : WriterState) (p : Draft) (parks : List (List ℕ)) (view : View) : Type 0 where
  pub draft : IsDraft p
  pub layout : w.layout ≡ p.layout
  pub memo_length : w.memo_length ≡ length p.memo
  pub id : w.id ≡ p.id
  pub size : w.size ≡ p.k
  pub columns : w.columns ≡ columns_for p.layout p.k 1 (after_memo p.memo) p.ended
  pub count : w.count ≡ length p.numbers
  pub least : w.least ≡ next_after p.numbers
  pub written : All (AreNumbers p.k) parks
  pub numbers : p.numbers ≡ concat parks ++ w.park
  pub entries : w.entries ≡ directory p.layout p.k (suc (length p.ended)) (table_start p) parks
  pub file_length : w.file_length ≡ length (draft_bytes p parks)
  pub file : HoldsShut w.file (draft_bytes p parks) view

-- The writer stands for this draft: all its numbers are in the file but for fewer than a full park has.
pub record Stands (w : WriterState) (p : Draft) (view : View) : Type 0 where
  pub parks : List (List ℕ)
  pub keeps : Keeps w p parks view
  pub full : All (λ (ns : List ℕ). length ns ≡ full_of p.layout) parks
  pub short : length w.park < full_of p.layout

-- ---- what it leaves

-- the whole file of a plot in a layout, with a memo, is on the disk, of this length
pub record IsFinished (l : Layout) (memo : List ℕ) (file : ℕ) (p : PlotLists) (total : ℕ) (view : View) : Type 0 where
  pub size : total ≡ length (file_of l memo p)
  pub bytes : Holds file (file_of l memo p) view
  pub stores : Stores l (file_of l memo p) p
  pub says_memo : memo_in (file_of l memo p) ≡ memo
