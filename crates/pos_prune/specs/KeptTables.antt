-- The tables of a run with the places that are kept of them. Levels count from 0 to 6: level n is table n + 1.
-- Source: the Construction document, "back propagation".
use Rattle.std.specs.Prelude.{ℕ, ◌≡◌, Bool, true}
use Rattle.pos_edge.specs.View.{View}
use Rattle.pos_edge.specs.ScratchNames.{ScratchState, IsLeft}
use Rattle.pos_lists.specs.TableLists.{TableLists, entries}
use Rattle.pos_lists.specs.Used.{MarksUsed}
use Rattle.pos_marks.specs.declared.set.Marks.{Marks}
use Rattle.pos_marks.specs.Marks.{AreSealed, Marked, marks_file, place_count}
use Rattle.pos_runs.specs.Runs.{TablesState, TablesStand, IsTablesFile}

-- Marks of a level that can be read, of as many places as the level has entries, in a scratch file that is left. Over a disk
-- that tells, they are on exactly the used places.
pub record MarksStand (s : ScratchState) (m : Marks) (level : ℕ) (ts : TableLists) (view : View) : Type 0 where
  pub sealed : AreSealed m
  pub places : place_count m ≡ entries ts level
  pub left : IsLeft s (marks_file m)
  pub marks : (p : ℕ → Bool) × Marked m p view × (view.tells ≡ true → MarksUsed ts level p)

-- What tables with their kept places stand for: the tables of these lists, and the marks of tables 2 to 6. All their files are
-- scratch files that are left.
pub record KeptStand (k : ℕ) (s : ScratchState) (t : TablesState) (m2 m3 m4 m5 m6 : Marks) (ts : TableLists) (view : View) : Type 0 where
  pub tables : TablesStand k t ts view
  pub left : (file : ℕ) → IsTablesFile t file → IsLeft s file
  pub of_table_2 : MarksStand s m2 1 ts view
  pub of_table_3 : MarksStand s m3 2 ts view
  pub of_table_4 : MarksStand s m4 3 ts view
  pub of_table_5 : MarksStand s m5 4 ts view
  pub of_table_6 : MarksStand s m6 5 ts view
