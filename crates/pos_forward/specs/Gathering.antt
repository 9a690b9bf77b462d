-- The rows of a table read back one after another, and the drafts of the next table that are made of them.
-- Units: places from 0, tables from 1.
use Rattle.std.specs.Prelude.{ℕ, ◌+◌, ◌^◌, ◌≡◌, ◌≤◌, ◌<◌, ◌⊎◌, Bool, true, List, length, map, take, slice_get, Some, All, Any, Result, IsErrOf}
use Rattle.pos_edge.specs.Faults.{Rose}
use Rattle.pos_edge.specs.View.{View}
use Rattle.pos_edge.specs.Frame.{SameFaults, SameFaultsBut}
use Rattle.pos_edge.specs.declared.scratch.ScratchDamage.{ScratchDamage}
use Rattle.pos_edge.specs.declared.scratch.WorkFault.TheVariants.{DiskFailed, Exists, Scratch, Memory}
use Rattle.pos_tuple.specs.declared.entry.Entry.{Entry}
use Rattle.pos_tuple.specs.Node.{IsEntry}
use Rattle.pos_runs.specs.Pages.{ListPages, ListStands, ListHolds}
use Rattle.pos_runs.specs.Lists.{IsListRead}
use Rattle.pos_laws.specs.Making.{AreMatching, NeverFalls}
use Rattle.pos_forward.specs.declared.drafts.Draft.{Draft}
use Rattle.pos_forward.specs.declared.faults.ForwardFault.{ForwardFault}
use Rattle.pos_forward.specs.declared.faults.ForwardFault.TheVariants.{TableFull, Work}
use Rattle.pos_forward.specs.declared.matcher.Matcher.{Matcher}
use Rattle.pos_forward.specs.SevenTables.{IsOutOfOrder}
use Rattle.pos_forward.specs.Tables.{AreUnsorted}
use Rattle.pos_forward.specs.Matched.{IsMatched}

-- the list stands after a read, and holds the records that it held
pub record HasSameRecords {R : Type 0} (read : List Bool → R) (w : ℕ) (s t : ListPages) (old new : View) : Type 0 where
  pub stands : ListStands w t new
  pub holds : (xs : List R) → ListHolds read w s xs old → ListHolds read w t xs new

-- the entry of row i of a list, as the disk tells it
abbrev pub IsEntryAt : {R : Type 0} → (R → Entry) → (List Bool → R) → ℕ → ListPages → ℕ → Entry → View → Type 0
IsEntryAt {R} entry read w s i e view = (xs : List R) → ListHolds read w s xs view → view.tells ≡ true → (row : R) × (slice_get xs i ≡ Some row) × (e ≡ entry row)

-- the entry of row i, whose y is not below that of the row before
pub record IsNextEntry {R : Type 0} (k t : ℕ) (entry : R → Entry) (read : List Bool → R) (w : ℕ) (s : ListPages) (i least : ℕ) (e : Entry) (view : View) : Type 0 where
  pub each : IsEntry k t e
  pub rise : least ≤ e.y
  pub same : IsEntryAt entry read w s i e view

-- row i was read back with a y below the one before
pub record IsYDamage {R : Type 0} (k : ℕ) (entry : R → Entry) (read : List Bool → R) (w : ℕ) (s : ListPages) (i least : ℕ) (damage : ScratchDamage) (view : View) : Type 0 where
  pub e : Entry
  pub below : e.y < least
  pub same : IsEntryAt entry read w s i e view
  pub is : damage ≡ record { file = s.number; at = i; found = e.y; least = least; limit = 2 ^ (k + 6) }

-- Why a row was not read: the disk failed, or its y is below the one before.
pub record IsReadRefusal {X R : Type 0} (result : Result X ForwardFault) (k : ℕ) (entry : R → Entry) (read : List Bool → R) (w : ℕ) (s : ListPages) (i least : ℕ) (old new : View) : Type 0 where
  pub failed : IsErrOf result (Work DiskFailed) → Rose old.faults new.faults
  pub quiet : SameFaultsBut (Work DiskFailed) result old new
  pub damage : (damage : ScratchDamage) → IsErrOf result (Work (Scratch damage)) → IsYDamage k entry read w s i least damage old
  pub no_memory : IsErrOf result (Work Memory) → ⊥
  pub no_exists : (file : ℕ) → IsErrOf result (Work (Exists file)) → ⊥
  pub not_full : (table : ℕ) → IsErrOf result (TableFull table) → ⊥

-- table t was not made: it would be too large, or there was no memory
abbrev pub IsMatchRefusal : ℕ → ForwardFault → Type 0
IsMatchRefusal t fault = (fault ≡ TableFull t) ⊎ (fault ≡ Work Memory)

-- there are more than c matching pairs of these entries
abbrev pub HasMorePairs : ℕ → List Entry → Type 0
HasMorePairs c es = (pairs : List (ℕ × ℕ)) × (c < length pairs) × AreMatching es pairs

-- Rows were read up to place i, and their entries are taken.
pub record IsGathering {R : Type 0} (k t : ℕ) (entry : R → Entry) (read : List Bool → R) (w : ℕ) (s now : ListPages) (i least : ℕ) (m : Matcher) (drafts : List Draft) (old view : View) : Type 0 where
  pub read_only : IsListRead s now old view
  pub records : HasSameRecords read w s now old view
  pub quiet : SameFaults old view
  pub es : List Entry
  pub count : length es ≡ i
  pub matched : IsMatched k t es m drafts
  pub rise : All (λ b. b.y ≤ least) es
  pub last : 0 < least → Any (λ b. b.y ≡ least) es
  pub same : (xs : List R) → ListHolds read w s xs old → old.tells ≡ true → es ≡ map entry (take i xs)
  pub first : i ≡ 0 → now.page ≡ s.page
  pub reads : 0 < i → s.page ≡ s.written → Rose old.reads view.reads

-- The drafts of table t are made of the rows of a list: of entries that rise, which are those of the rows where the disk tells.
pub record IsGathered {R : Type 0} (k t : ℕ) (entry : R → Entry) (read : List Bool → R) (w : ℕ) (s : ListPages) (drafts : List Draft) (view : View) : Type 0 where
  pub es : List Entry
  pub count : length es ≡ s.count
  pub unsorted : AreUnsorted k t es drafts
  pub same : (xs : List R) → ListHolds read w s xs view → view.tells ≡ true → es ≡ map entry xs

-- Why the drafts of table t were not made of the rows of a list.
pub record IsGatherAnswer {X R : Type 0} (result : Result X ForwardFault) (k t c : ℕ) (entry : R → Entry) (read : List Bool → R) (w : ℕ) (s : ListPages) (old new : View) : Type 0 where
  pub failed : IsErrOf result (Work DiskFailed) → Rose old.faults new.faults
  pub quiet : SameFaultsBut (Work DiskFailed) result old new
  pub no_exists : (file : ℕ) → IsErrOf result (Work (Exists file)) → ⊥
  pub table : (table : ℕ) → IsErrOf result (TableFull table) → table ≡ t
  pub full : (table : ℕ) → IsErrOf result (TableFull table) → (xs : List R) → ListHolds read w s xs old → old.tells ≡ true → HasMorePairs c (map entry xs)
  pub damage : (damage : ScratchDamage) → IsErrOf result (Work (Scratch damage)) → (i least : ℕ) × IsYDamage k entry read w s i least damage old
  pub range : (damage : ScratchDamage) → IsErrOf result (Work (Scratch damage)) → IsOutOfOrder k s.number (s.number + 1) damage
  pub never : (damage : ScratchDamage) → IsErrOf result (Work (Scratch damage)) → (xs : List R) → ListHolds read w s xs old → old.tells ≡ true → NeverFalls (map entry xs) → ⊥
