-- What relocation needs and does: the seven lists of a plot made of the tables of a run; and which tables it refuses.
-- Source: the Construction document, "compression" and "sort on line points"; the damages are this project's own.
-- Levels count from 0 to 6: level n is the run's table n + 1 and the file's table n.
use Rattle.std.specs.Prelude.{◌≡◌, ◌≢◌, ℕ, suc, ◌+◌, ◌^◌, ◌<◌, ◌≤◌, ◌⊎◌, Bool, true, List, length, slice_index}
use Rattle.pos_edge.specs.View.{View}
use Rattle.pos_edge.specs.Frame.{Just, NameOf}
use Rattle.pos_edge.specs.FileSets.{IsOutside}
use Rattle.pos_edge.specs.declared.scratch.ScratchDamage.{ScratchDamage}
use Rattle.pos_lists.specs.TableLists.{TableLists, entries, left_of, right_of}
use Rattle.pos_lists.specs.PlotLists.{PlotLists, count}
use Rattle.pos_lists.specs.Sound.{IsSound}
use Rattle.pos_lists.specs.Used.{IsUsed, MarksUsed}
use Rattle.pos_lists.specs.Trees.{IsInRange}
use Rattle.pos_laws.specs.Tables.{Describes}
use Rattle.pos_laws.specs.PlotOf.{PlotOf}
use Rattle.pos_laws.specs.Renumbering.{AreRenumbered, IsOneToOne, IsRelocated}
use Rattle.pos_layout.specs.declared.layout.Layout.{Layout}
use Rattle.pos_layout.specs.Drafts.{WriterState, Stands, begun, plot_of}
use Rattle.pos_layout.specs.Writing.{Goes, IsBegun, IsStanding, with_tables}
use Rattle.pos_marks.specs.declared.set.Marks.{Marks}
use Rattle.pos_marks.specs.Marks.{AreSealed, Marked, marks_file, place_count}
use Rattle.pos_record.specs.Fields.{IsRecordSize}
use Rattle.pos_runs.specs.Runs.{TablesState, TablesStand, IsTablesFile, pages_at}
use Rattle.pos_relocate.specs.Passes.{HasEmptyTable}
use Rattle.pos_relocate.specs.Gathering.{IsOneNumber}
use Rattle.pos_relocate.specs.Levels.{IsPointTwice}

-- ---- what it needs

-- marks of a level can be asked for each of its places, and their file is none of this FileId's
pub record AreReady (level : ℕ) (m : Marks) (tables : TablesState) (file : ℕ) (view : View) : Type 0 where
  pub sealed : AreSealed m
  pub places : place_count m ≡ (pages_at tables level).count
  pub marks : (p : ℕ → Bool) × Marked m p view
  pub outside : IsOutside (Just (marks_file m)) (NameOf file view) (Just file) view

-- The tables and the marks of tables 2 to 6 stand, no table from 2 on is too long, and a writer of this size has nothing yet,
-- in a file that is none of theirs.
pub record CanRelocate (k : ℕ) (tables : TablesState) (m2 m3 m4 m5 m6 : Marks) (w : WriterState) (view : View) : Type 0 where
  pub size : IsRecordSize k
  pub stands : (ts : TableLists) × TablesStand k tables ts view
  pub few : (n : ℕ) → 1 ≤ n → n ≤ 6 → (pages_at tables n).count ≤ 2 ^ (k + 1)
  pub standing : IsStanding w view
  pub begun : IsBegun w.file w.layout k w
  pub outside : IsOutside (IsTablesFile tables) (NameOf w.file view) (Just w.file) view
  pub ready_2 : AreReady 1 m2 tables w.file view
  pub ready_3 : AreReady 2 m3 tables w.file view
  pub ready_4 : AreReady 3 m4 tables w.file view
  pub ready_5 : AreReady 4 m5 tables w.file view
  pub ready_6 : AreReady 5 m6 tables w.file view

-- ---- what it does

-- the marks are those of the used places of a level
pub record AreUsed (level : ℕ) (m : Marks) (ts : TableLists) (view : View) : Type 0 where
  pub marked : ℕ → Bool
  pub stand : Marked m marked view
  pub used : MarksUsed ts level marked

-- so for tables 2 to 6
pub record AreAllUsed (m2 m3 m4 m5 m6 : Marks) (ts : TableLists) (view : View) : Type 0 where
  pub used_2 : AreUsed 1 m2 ts view
  pub used_3 : AreUsed 2 m3 ts view
  pub used_4 : AreUsed 3 m4 ts view
  pub used_5 : AreUsed 4 m5 ts view
  pub used_6 : AreUsed 5 m6 ts view

-- the two values of each used pair of table 2 differ
abbrev pub ValuesDiffer : TableLists → Type 0
ValuesDiffer ts = (i : ℕ) → IsUsed ts 1 i → slice_index ts.values (left_of ts 1 i) ≢ slice_index ts.values (right_of ts 1 i)

-- Levels 1 to m are renumbered, one after another, into these lists: place n gives the new places of level n, which are
-- different for different used places, and the places that were kept are those of level m.
pub record IsNumberedUp (ts : TableLists) (m : ℕ) (kept : List ℕ) (lists : List (List ℕ)) : Type 0 where
  pub place : ℕ → ℕ → ℕ
  pub levels : AreRenumbered ts m place lists
  pub apart : (n : ℕ) → n < m → IsOneToOne ts (suc n) (place (suc n))
  pub top : place m ≡ slice_index kept
  pub differ : 1 ≤ m → ValuesDiffer ts

-- The tables 1 to m of the file were added: over a disk that tells, sound tables and marks of the used places, the levels 1
-- to m are renumbered.
pub record AreLevelsAdded (k m : ℕ) (m2 m3 m4 m5 m6 : Marks) (kept : List ℕ) (tables : TablesState) (before after : WriterState) (old new : View) : Type 0 where
  pub lists : List (List ℕ)
  pub as_long : length lists ≡ m
  pub added : Goes (with_tables lists) before after old new
  pub empty : HasEmptyTable k after
  pub numbered : (ts : TableLists) → TablesStand k tables ts old → old.tells ≡ true → IsSound ts k → AreAllUsed m2 m3 m4 m5 m6 ts old
      → IsNumberedUp ts m kept lists

-- Seven tables were added: over a disk that tells, sound tables and marks of the used places, they are made of the tables by
-- renumbering, and different used places of a level from 1 to 6 have different new ones.
-- The values of each used pair differ, and the last two tables have a number for each pair of table 7.
-- Over the tables of an id, and where the writer had nothing yet, they are the plot of the id, and each number points inside.
pub record AreRelocated (k : ℕ) (tables : TablesState) (m2 m3 m4 m5 m6 : Marks) (before after : WriterState) (old new : View) : Type 0 where
  pub lists : List (List ℕ)
  pub seven : length lists ≡ 7
  pub added : Goes (with_tables lists) before after old new
  pub relocated : (ts : TableLists) (p : PlotLists) → TablesStand k tables ts old → old.tells ≡ true → IsSound ts k → AreAllUsed m2 m3 m4 m5 m6 ts old
      → p.k ≡ k → p.tables ≡ lists → (place : ℕ → ℕ → ℕ) × IsRelocated ts p place × ((n : ℕ) → n < 6 → IsOneToOne ts (suc n) (place (suc n)))
  pub differ : (ts : TableLists) → TablesStand k tables ts old → old.tells ≡ true → IsSound ts k → AreAllUsed m2 m3 m4 m5 m6 ts old → ValuesDiffer ts
  pub counts : (ts : TableLists) (p : PlotLists) → TablesStand k tables ts old → old.tells ≡ true → IsSound ts k → AreAllUsed m2 m3 m4 m5 m6 ts old
      → p.k ≡ k → p.tables ≡ lists → (count p 6 ≡ entries ts 6) × (count p 7 ≡ entries ts 6)
  pub plot : (ts : TableLists) (id : List ℕ) (l : Layout) (memo : List ℕ) → TablesStand k tables ts old → old.tells ≡ true → Describes ts id k → AreAllUsed m2 m3 m4 m5 m6 ts old
      → Stands before (begun l memo id k) old → PlotOf (plot_of (with_tables lists (begun l memo id k))) id k × IsInRange (plot_of (with_tables lists (begun l memo id k)))

-- ---- which sound tables it refuses: those with two used entries that can't be told apart

-- the two values of a used pair of table 2 are one: the damage names the record of the right one, with that value
pub record IsValueTwice (ts : TableLists) (k : ℕ) (tables : TablesState) (damage : ScratchDamage) : Type 0 where
  pub pair : ℕ
  pub used : IsUsed ts 1 pair
  pub one : IsOneNumber ts 0 pair (2 ^ k) (pages_at tables 0).number (slice_index ts.values) damage

-- The levels 1 to n are renumbered, and two used entries of level n + 1 have one point over the new places of level n, over the
-- values if n is 0: the damage names the record of one of them, with that point.
pub record IsEntryTwice (ts : TableLists) (k : ℕ) (tables : TablesState) (damage : ScratchDamage) : Type 0 where
  pub n : ℕ
  pub low : n < 6
  pub place : ℕ → ℕ → ℕ
  pub lists : List (List ℕ)
  pub below : AreRenumbered ts n place lists
  pub apart : 1 ≤ n → IsOneToOne ts n (place n)
  pub twice : IsPointTwice ts k n (IsUsed ts (suc n)) (place n) (pages_at tables (suc n)).number damage

-- either
abbrev pub IsSomethingTwice : TableLists → ℕ → TablesState → ScratchDamage → Type 0
IsSomethingTwice ts k tables damage = IsValueTwice ts k tables damage ⊎ IsEntryTwice ts k tables damage
