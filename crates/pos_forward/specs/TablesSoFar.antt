-- The tables of a run up to a level, on lists, with the list that the next table is made of; and what a piece of the run that
-- makes some more of them did. Levels count from 0 to 6: level n is table n + 1.
use Rattle.std.specs.Prelude.{ℕ, suc, ◌+◌, ◌*◌, ◌-◌, ◌/◌, ◌^◌, ◌<◌, ◌≤◌, ◌≡◌, ◌≢◌, ◌⊎◌, Bool, true, false, List, [], ◌∷◌, ◌++◌, length, map, min, Err}
use Rattle.pos_edge.specs.View.{View}
use Rattle.pos_edge.specs.Frame.{Just, Nothing}
use Rattle.pos_edge.specs.ScratchNames.{ScratchState, IsLeft}
use Rattle.pos_edge.specs.ScratchWork.{HasEnded, HasWorked}
use Rattle.pos_edge.specs.declared.scratch.WorkFault.TheVariants.{DiskFailed, Exists, Scratch, Memory}
use Rattle.pos_tuple.specs.declared.entry.Entry.{Entry}
use Rattle.pos_record.specs.Kinds.{metadata_number, value_read, pair_read, pair_width}
use Rattle.pos_record.specs.declared.kinds.Row.{Row}
use Rattle.pos_lists.specs.TableLists.{TableLists, pairs_of}
use Rattle.pos_runs.specs.Pages.{ListPages}
use Rattle.pos_runs.specs.Lists.{ListKept}
use Rattle.pos_runs.specs.Runs.{TablesState, pages_at, value_record, pair_record}
use Rattle.pos_laws.specs.Making.{AreMade, AreNodes, NeverFalls, IsFull}
use Rattle.pos_forward.specs.declared.drafts.Draft.{Draft}
use Rattle.pos_forward.specs.declared.faults.ForwardFault.{ForwardFault}
use Rattle.pos_forward.specs.declared.faults.ForwardFault.TheVariants.{TableFull, Work}
use Rattle.pos_forward.specs.Drafts.{draft_entry, entry_of_number}
use Rattle.pos_forward.specs.NextTables.{IsLastList}
use Rattle.pos_forward.specs.SevenTables.{IsForwardCause, IsOutOfOrder}

-- the entries are those that these rows stand for
abbrev pub AreEntriesOf : {R : Type 0} → (R → Entry) → List Entry → List R → Type 0
AreEntriesOf {R} entry es xs = es ≡ map entry xs

-- the entry that a row of table t from 2 to 6 stands for
abbrev pub row_entry : (k t : ℕ) → Row t → Entry
row_entry k t row = entry_of_number k t row.y (metadata_number row)

-- the entries are those of drafts of table t, and the records are what these are kept as
pub record AreDraftedAs {S : Type 0} (k t : ℕ) (made_of : Draft → S) (es : List Entry) (xs : List S) : Type 0 where
  pub drafts : List Draft
  pub entries : es ≡ map (draft_entry k t) drafts
  pub kept_as : xs ≡ map made_of drafts

-- A sealed list of a table, which holds these records. Its file is left, and was made before that of the last rows.
pub record IsEarlier {X : Type 0} (s : ScratchState) (read : List Bool → X) (w : ℕ) (list rows : ListPages) (xs : List X) (view : View) : Type 0 where
  pub kept : ListKept s.base read w list xs view
  pub sealed : list.is_sealed ≡ true
  pub left : IsLeft s list.file
  pub earlier : list.number < rows.number
  pub apart : list.file ≢ rows.file

-- The lists hold the tables up to level n, none but table 1 longer than c, and `rows` has the records that its entries are
-- tied to. Over a disk that tells, these are the tables of the id, and the entries those of level n, in the order of y.
pub record AreTablesTo {R : Type 0} (id : List ℕ) (k c n : ℕ) (tie : List Entry → List R → Type 0) (read : List Bool → R) (w : ℕ) (s : ScratchState) (lists : TablesState) (rows : ListPages) (view : View) : Type 0 where
  pub ts : TableLists
  pub es : List Entry
  pub xs : List R
  pub so_many : length lists ≡ suc n
  pub deep : length ts.pairs ≡ n
  pub values : IsEarlier s (value_read k) k (pages_at lists 0) rows (map value_record ts.values) view
  pub pairs : (m : ℕ) → m < n → IsEarlier s (pair_read k) (pair_width k) (pages_at lists (suc m)) rows (map pair_record (pairs_of ts (suc m))) view
  pub kept : ListKept s.base read w rows xs view
  pub as_long : rows.count ≡ (pages_at lists n).count
  pub tied : tie es xs
  pub first : (pages_at lists 0).count ≡ 2 ^ k
  pub few : (m : ℕ) → 0 < m → m ≤ n → (pages_at lists m).count ≤ c
  pub made : view.tells ≡ true → AreMade ts id k n × AreNodes ts id k n es × NeverFalls es

-- the FileId is that of one of these lists
abbrev pub IsFileOf : TablesState → ℕ → Type 0
IsFileOf lists file = (m : ℕ) × (m < length lists) × (file ≡ (pages_at lists m).file)

-- The tables from level n + 1 to level m were made behind those up to n, whichever these were: their lists, and the last rows.
-- The rows of level n were given up; a FileId that has ended may be given again.
pub record HasMoreTables {R S : Type 0} (k c n m : ℕ) (tie : List Entry → List R → Type 0) (read : List Bool → R) (w : ℕ) (next_tie : List Entry → List S → Type 0) (next_read : List Bool → S) (x : ℕ) (s u : ScratchState) (rows : ListPages) (lists : TablesState) (next : ListPages) (old new : View) : Type 0 where
  pub many : ℕ
  pub so_many : many + 2 * n ≡ 2 * m
  pub worked : HasWorked many rows.number (Just rows.file) s u old new
  pub last : IsLastList u next new
  pub holds : (xs : List S) × ListKept u.base next_read x next xs new
  pub few : next.count ≤ c
  pub new_file : old.is_live next.file ≡ true → next.file ≡ rows.file
  pub only : (file : ℕ) → IsLeft u file → ((file ≢ rows.file) × IsLeft s file) ⊎ (IsFileOf lists file ⊎ (file ≡ next.file))
  pub tables : (id : List ℕ) (so_far : TablesState) → AreTablesTo id k c n tie read w s so_far rows old → AreTablesTo id k c m next_tie next_read x u (so_far ++ lists) next new

-- Why a table behind those up to level n was not made, whichever these were, where that is not said of the work.
abbrev pub IsMoreCause : {R : Type 0} → ℕ → ℕ → ℕ → (List Entry → List R → Type 0) → (List Bool → R) → ℕ → ListPages → ScratchState → ScratchState → View → ForwardFault → Type 0
IsMoreCause k c n tie read w rows s u old (TableFull table) = (id : List ℕ) (so_far : TablesState) → AreTablesTo id k c n tie read w s so_far rows old → old.tells ≡ true → IsFull id k c table
IsMoreCause k c n tie read w rows s u old (Work DiskFailed) = Unit {0}
IsMoreCause k c n tie read w rows s u old (Work (Exists file)) = Unit {0}
IsMoreCause k c n tie read w rows s u old (Work (Scratch damage)) = IsOutOfOrder k rows.number u.made damage × ((id : List ℕ) (so_far : TablesState) → AreTablesTo id k c n tie read w s so_far rows old → old.tells ≡ true → ⊥)
IsMoreCause k c n tie read w rows s u old (Work Memory) = Unit {0}

-- A piece of the run behind the tables up to level n, of at most so many new files, ended with a fault.
pub record IsMoreFault {R : Type 0} (k c n most : ℕ) (tie : List Entry → List R → Type 0) (read : List Bool → R) (w : ℕ) (rows : ListPages) (s u : ScratchState) (old new : View) (fault : ForwardFault) : Type 0 where
  pub ended : HasEnded {X = Unit {0}} Work most rows.number (Just rows.file) (Err fault) s u old new
  pub cause : IsMoreCause k c n tie read w rows s u old fault

-- The tables of the id up to level n were made on new files: their lists, and the last rows.
pub record HasTablesTo {R : Type 0} (id : List ℕ) (k c n : ℕ) (tie : List Entry → List R → Type 0) (read : List Bool → R) (w : ℕ) (s u : ScratchState) (lists : TablesState) (rows : ListPages) (old new : View) : Type 0 where
  pub worked : HasWorked (2 * suc n) s.made Nothing s u old new
  pub last : IsLastList u rows new
  pub few : rows.count ≤ 2 ^ (k + 1)
  pub new_file : old.is_live rows.file ≡ false
  pub only : (file : ℕ) → IsLeft u file → IsLeft s file ⊎ (IsFileOf lists file ⊎ (file ≡ rows.file))
  pub tables : AreTablesTo id k c n tie read w u lists rows new

-- The run, of at most so many new files, ended with a fault before a table of the id was made.
pub record IsTablesFault (id : List ℕ) (k c most : ℕ) (s u : ScratchState) (old new : View) (fault : ForwardFault) : Type 0 where
  pub ended : HasEnded {X = Unit {0}} Work most s.made Nothing (Err fault) s u old new
  pub cause : IsForwardCause id k c s u old new fault

-- how many times eight entries are whole in the tables of these lists
abbrev pub eights_in : TablesState → ℕ
eights_in [] = 0
eights_in (list ∷ others) = list.count / 8 + eights_in others

-- their entries were made eight at a time, but for fewer than eight of a table
abbrev pub AreListsByEights : ℕ → ℕ → TablesState → Type 0
AreListsByEights before now lists = min (before + eights_in lists) (2 ^ 64 - 1) ≤ now
