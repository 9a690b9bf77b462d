-- Two lists on pages that are written side by side: a row's record for the tables, and one for the next table's making.
use Rattle.std.specs.Prelude.{ℕ, ◌+◌, ◌≡◌, ◌≢◌, ◌⊎◌, Bool, false, List, [], ◌++◌, length, true, Result, IsErrOf}
use Rattle.pos_edge.specs.View.{View}
use Rattle.pos_edge.specs.Frame.{ChangesOnly, KeepsIds, NameOf, Nothing, SameFaultsBut}
use Rattle.pos_runs.specs.Pages.{ListPages, ListStands}
use Rattle.pos_edge.specs.Faults.{Rose}
use Rattle.pos_edge.specs.Calls.{WasThere}
use Rattle.pos_edge.specs.ScratchNames.{ScratchState, scratch_name, with_file}
use Rattle.pos_edge.specs.declared.scratch.ScratchDamage.{ScratchDamage}
use Rattle.pos_edge.specs.declared.scratch.WorkFault.{WorkFault}
use Rattle.pos_edge.specs.declared.scratch.WorkFault.TheVariants.{DiskFailed, Exists, Scratch}
use Rattle.pos_runs.specs.Lists.{SameListFile, IsSealedFrom, ListKept}

-- the name is that of one of these two FileIds' files
abbrev pub IsNameOfTwo : ℕ → ℕ → View → List ℕ → Type 0
IsNameOfTwo first second view name = NameOf first view name ⊎ NameOf second view name

-- one of these two FileIds
abbrev pub IsOneOfTwo : ℕ → ℕ → ℕ → Type 0
IsOneOfTwo first second file = (file ≡ first) ⊎ (file ≡ second)

-- Writes to two lists, whatever the answer: they changed the two files alone, and read nothing.
pub record AreListWrites (s t u v : ListPages) (old new : View) : Type 0 where
  pub frame : ChangesOnly (IsNameOfTwo s.file u.file old) (IsOneOfTwo s.file u.file) old new
  pub ids : KeepsIds Nothing old new
  pub reads : new.reads ≡ old.reads
  pub first : SameListFile s t
  pub second : SameListFile u v

-- a list to which a record can be pushed
pub record IsOpenList (w : ℕ) (s : ListPages) (view : View) : Type 0 where
  pub stands : ListStands w s view
  pub unsealed : s.is_sealed ≡ false

-- Two lists of one base of scratch names, of different numbers, that hold these records.
pub record AreKept {R S : Type 0} (base : List ℕ) (read : List Bool → R) (w : ℕ) (other_read : List Bool → S) (v : ℕ) (s u : ListPages) (xs : List R) (ys : List S) (view : View) : Type 0 where
  pub first : ListKept base read w s xs view
  pub second : ListKept base other_read v u ys view
  pub apart : s.number ≢ u.number

-- These records were pushed on two lists that stand.
pub record HaveMore {R S : Type 0} (read : List Bool → R) (w : ℕ) (other_read : List Bool → S) (x : ℕ) (s t u v : ListPages) (items : List R) (others : List S) (old new : View) : Type 0 where
  pub first : IsOpenList w t new
  pub second : IsOpenList x v new
  pub first_count : t.count ≡ s.count + length items
  pub second_count : v.count ≡ u.count + length others
  pub kept : (base : List ℕ) (xs : List R) (ys : List S) → AreKept base read w other_read x s u xs ys old → AreKept base read w other_read x t v (xs ++ items) (ys ++ others) new

-- Two lists were sealed: they stand for the records that they had.
pub record AreSealedBoth {R S : Type 0} (read : List Bool → R) (w : ℕ) (other_read : List Bool → S) (x : ℕ) (s t u v : ListPages) (old new : View) : Type 0 where
  pub first : IsSealedFrom s t
  pub second : IsSealedFrom u v
  pub kept : (base : List ℕ) (xs : List R) (ys : List S) → AreKept base read w other_read x s u xs ys old → AreKept base read w other_read x t v xs ys new

-- The lists have the files of two new scratch names, one after the other.
pub record AreTwoFiles (s t : ScratchState) (u v : ListPages) (old : View) : Type 0 where
  pub is : t ≡ with_file (with_file s u.file) v.file
  pub first_number : u.number ≡ s.made
  pub second_number : v.number ≡ s.made + 1
  pub first_new : old.is_live u.file ≡ false
  pub second_new : old.is_live v.file ≡ false

-- Two lists were made, behind the files that were made so far, which hold these records.
pub record AreNewLists {R S : Type 0} (read : List Bool → R) (w : ℕ) (other_read : List Bool → S) (x : ℕ) (s t : ScratchState) (u v : ListPages) (old new : View) : Type 0 where
  pub first : IsOpenList w u new
  pub second : IsOpenList x v new
  pub first_none : u.count ≡ 0
  pub second_none : v.count ≡ 0
  pub files : AreTwoFiles s t u v old
  pub kept : AreKept s.base read w other_read x u v [] [] new

-- Two sealed lists were made, which hold these records.
pub record AreStored {R S : Type 0} (read : List Bool → R) (w : ℕ) (other_read : List Bool → S) (x : ℕ) (s t : ScratchState) (u v : ListPages) (items : List R) (others : List S) (old new : View) : Type 0 where
  pub first : u.is_sealed ≡ true
  pub second : v.is_sealed ≡ true
  pub first_page : u.page ≡ u.written
  pub second_page : v.page ≡ v.written
  pub files : AreTwoFiles s t u v old
  pub kept : AreKept s.base read w other_read x u v items others new

-- What an answer of work on scratch files says: of the disk's failure, of a name that was there, of no damage.
pub record IsWorkAnswer {X : Type 0} (result : Result X WorkFault) (s t : ScratchState) (old new : View) : Type 0 where
  pub failed : IsErrOf result DiskFailed → Rose old.faults new.faults
  pub quiet : SameFaultsBut DiskFailed result old new
  pub exists : (file : ℕ) → IsErrOf result (Exists file) → (file ≡ t.made) × WasThere (scratch_name s.base file) old
  pub no_damage : (damage : ScratchDamage) → IsErrOf result (Scratch damage) → ⊥
