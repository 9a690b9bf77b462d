-- What a pass over the pairs of a table did. It marks places of level n, from 0 to 5, by the pairs of the level above.
use Rattle.std.specs.Prelude.{ℕ, suc, ◌≡◌, ◌<◌, ◌≤◌, Bool, true}
use Rattle.pos_edge.specs.Faults.{Rose}
use Rattle.pos_edge.specs.View.{View}
use Rattle.pos_edge.specs.Frame.{ReadsOnly, SameFaults}
use Rattle.pos_edge.specs.declared.scratch.ScratchDamage.{ScratchDamage}
use Rattle.pos_edge.specs.declared.scratch.WorkFault.{WorkFault}
use Rattle.pos_edge.specs.declared.scratch.WorkFault.TheVariants.{DiskFailed, Exists, Memory, Scratch}
use Rattle.pos_lists.specs.TableLists.{TableLists, PairsInside}
use Rattle.pos_lists.specs.Used.{NamedBelow}
use Rattle.pos_marks.specs.declared.set.Marks.{Marks}
use Rattle.pos_marks.specs.Marks.{AreSealed, AreUnsealed, Marked, SameMarks}
use Rattle.pos_runs.specs.Runs.{TablesState, TablesStand, pages_at}

-- A pair was read back that points outside: the pair's list and its place there, and how many entries the table below has.
pub record IsPairDamage (t : TablesState) (n : ℕ) (d : ScratchDamage) : Type 0 where
  pub file : d.file ≡ (pages_at t (suc n)).number
  pub at : d.at < (pages_at t (suc n)).count
  pub least : d.least ≡ 0
  pub limit : d.limit ≡ (pages_at t n).count
  pub found : d.limit ≤ d.found

-- the same files with the same numbers, and as many records in each
pub record SameLists (t u : TablesState) : Type 0 where
  pub file : (j : ℕ) → (pages_at u j).file ≡ (pages_at t j).file
  pub number : (j : ℕ) → (pages_at u j).number ≡ (pages_at t j).number
  pub count : (j : ℕ) → (pages_at u j).count ≡ (pages_at t j).count

-- Marks below get the places that are named by the pairs from `low` to below `high` whose own places a test gives. `upper` says
-- which test it is.
abbrev pub MarksPairs : ℕ → ℕ → ℕ → ℕ → (TableLists → (ℕ → Bool) → Type 0) → TablesState → Marks → Marks → View → View → Type 0
MarksPairs k n low high upper t m marked old new = (ts : TableLists) (p : ℕ → Bool) → TablesStand k t ts old → Marked m p old →
    (q : ℕ → Bool) × Marked marked q new × (old.tells ≡ true → (u : ℕ → Bool) → upper ts u → NamedBelow ts n u low p → NamedBelow ts n u high q)

-- A pass that went well: it only read, the tables stand, and the marks have the places that were named.
pub record HasMarked (k n low high : ℕ) (upper : TableLists → (ℕ → Bool) → Type 0) (t u : TablesState) (m marked : Marks) (old new : View) : Type 0 where
  pub only : ReadsOnly old new
  pub quiet : SameFaults old new
  pub lists : SameLists t u
  pub stands : (ts : TableLists) → TablesStand k t ts old → TablesStand k u ts new
  pub same : SameMarks m marked
  pub unsealed : AreUnsealed marked
  pub pairs : MarksPairs k n low high upper t m marked old new

-- the test gives this place; all places of the level above; what marks of it stand for
abbrev pub gives : ℕ → TableLists → (ℕ → Bool) → Type 0
gives i ts u = u i ≡ true

abbrev pub gives_below : ℕ → TableLists → (ℕ → Bool) → Type 0
gives_below count ts u = (j : ℕ) → j < count → u j ≡ true

abbrev pub is_marked : Marks → View → TableLists → (ℕ → Bool) → Type 0
is_marked above view ts u = Marked above u view

-- marks that were asked for places still stand for what they did
pub record HasAsked (above asked : Marks) (old new : View) : Type 0 where
  pub same : SameMarks above asked
  pub sealed : AreSealed asked
  pub marked : (u : ℕ → Bool) → Marked above u old → Marked asked u new

-- A pass that ended early: the disk failed, or a pair points outside, which over a disk that tells no sound tables have.
pub record IsPassFault (k n : ℕ) (t : TablesState) (fault : WorkFault) (old new : View) : Type 0 where
  pub only : ReadsOnly old new
  pub failed : fault ≡ DiskFailed → Rose old.faults new.faults
  pub quiet : (fault ≡ DiskFailed → ⊥) → SameFaults old new
  pub no_file : (file : ℕ) → fault ≡ Exists file → ⊥
  pub no_memory : fault ≡ Memory → ⊥
  pub damage : (d : ScratchDamage) → fault ≡ Scratch d → IsPairDamage t n d
  pub never : (d : ScratchDamage) (ts : TableLists) → fault ≡ Scratch d → TablesStand k t ts old → old.tells ≡ true → PairsInside ts 6 → ⊥
