-- A table that was made and stored, as the lemmas on the tables so far take it: table 1 of an id, and a table made of the one below.
use Rattle.std.proofs.Common.{ℕ, ◌+◌, ◌-◌, ◌≡◌, ◌≤◌, Bool, true, List, length, map}
use Rattle.pos_edge.specs.View.{View}
use Rattle.pos_edge.specs.ScratchNames.{ScratchState, with_file, without_file}
use Rattle.pos_tuple.specs.declared.entry.Entry.{Entry}
use Rattle.pos_record.specs.Kinds.{first_read, first_width, value_read, pair_read, pair_width}
use Rattle.pos_record.specs.declared.kinds.First.{First}
use Rattle.pos_runs.specs.Pages.{ListPages, ListHolds}
use Rattle.pos_forward.specs.declared.drafts.Draft.{Draft}
use Rattle.pos_forward.specs.Tables.{AreFirstRows, IsSortedTable}
use Rattle.pos_forward.specs.Stored.{first_value, draft_pair_record}
use Rattle.pos_forward.specs.Storing.{AreKept, AreTwoFiles}

-- Table 1 was made: its values and its rows are kept on two new sealed lists.
pub record AreFirstMade (id : List ℕ) (k : ℕ) (s u : ScratchState) (values rows : ListPages) (old new : View) : Type 0 where
  pub firsts : List First
  pub table : AreFirstRows id k firsts
  pub values_sealed : values.is_sealed ≡ true
  pub rows_sealed : rows.is_sealed ≡ true
  pub rows_page : rows.page ≡ rows.written
  pub files : AreTwoFiles s u values rows old
  pub kept : AreKept s.base (value_read k) k (first_read k) (first_width k) values rows (map first_value firsts) firsts new

-- The rows were given up, and two new lists have the files of the next two scratch names. A FileId that has ended may be given
-- again.
pub record AreNextFiles (s u : ScratchState) (rows pairs next : ListPages) (old : View) : Type 0 where
  pub is : u ≡ with_file (with_file (without_file s rows.file) pairs.file) next.file
  pub pairs_number : pairs.number ≡ s.made
  pub next_number : next.number ≡ s.made + 1
  pub pairs_new : old.is_live pairs.file ≡ true → pairs.file ≡ rows.file
  pub next_new : old.is_live next.file ≡ true → next.file ≡ rows.file

-- Table t was made of entries that rise, which are those of the rows where the disk tells, and is kept on two sealed lists.
pub record IsNextMade {R S : Type 0} (k t c : ℕ) (entry : R → Entry) (read : List Bool → R) (w : ℕ) (made_of : Draft → S) (next_read : List Bool → S) (x : ℕ) (s u : ScratchState) (rows pairs next : ListPages) (drafts : List Draft) (old new : View) : Type 0 where
  pub es : List Entry
  pub count : length es ≡ rows.count
  pub sorted : IsSortedTable k (t - 2) es drafts
  pub same : (xs : List R) → ListHolds read w rows xs old → old.tells ≡ true → es ≡ map entry xs
  pub within : length drafts ≤ c
  pub pairs_sealed : pairs.is_sealed ≡ true
  pub next_sealed : next.is_sealed ≡ true
  pub next_page : next.page ≡ next.written
  pub files : AreNextFiles s u rows pairs next old
  pub kept : AreKept s.base (pair_read k) (pair_width k) next_read x pairs next (map draft_pair_record drafts) (map made_of drafts) new
