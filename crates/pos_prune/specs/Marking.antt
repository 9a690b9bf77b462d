-- What the making of a level's marks did, and of several levels' after one another. Levels count from 0 to 6.
use Rattle.std.specs.Prelude.{ℕ, suc, ◌≡◌, ◌<◌, Bool, true, Result, IsErrOf}
use Rattle.pos_edge.specs.View.{View}
use Rattle.pos_edge.specs.Frame.{Nothing}
use Rattle.pos_edge.specs.ScratchNames.{IsLeft, ScratchState, StandsOn, with_file}
use Rattle.pos_edge.specs.ScratchWork.{HasEnded, HasWorked}
use Rattle.pos_edge.specs.declared.scratch.ScratchDamage.{ScratchDamage}
use Rattle.pos_edge.specs.declared.scratch.WorkFault.{WorkFault}
use Rattle.pos_edge.specs.declared.scratch.WorkFault.TheVariants.{Scratch}
use Rattle.pos_lists.specs.TableLists.{TableLists, PairsInside}
use Rattle.pos_lists.specs.Used.{MarksUsed}
use Rattle.pos_marks.specs.declared.set.Marks.{Marks}
use Rattle.pos_marks.specs.Marks.{AreSealed, Marked, marks_file, place_count}
use Rattle.pos_runs.specs.Runs.{IsTablesFile, TablesState, TablesStand, pages_at}
use Rattle.pos_prune.specs.KeptTables.{KeptStand, MarksStand}
use Rattle.pos_prune.specs.Passes.{IsPairDamage, SameLists}

-- One level's marks were made: level n of these tables, by a test of the level above.
pub record AreMarksMade (k n : ℕ) (upper : TableLists → (ℕ → Bool) → Type 0) (t u : TablesState) (m : Marks) (s s' : ScratchState) (old new : View) : Type 0 where
  pub scratch : s' ≡ with_file s (marks_file m)
  pub worked : HasWorked 1 s.made Nothing s s' old new
  pub lists : SameLists t u
  pub stands : (ts : TableLists) → TablesStand k t ts old → TablesStand k u ts new
  pub sealed : AreSealed m
  pub places : place_count m ≡ (pages_at t n).count
  pub marks : (ts : TableLists) (above : ℕ → Bool) → TablesStand k t ts old → upper ts above →
      (p : ℕ → Bool) × Marked m p new × (old.tells ≡ true → PairsInside ts 6 → MarksUsed ts (suc n) above → MarksUsed ts n p)

-- What the making of up to c levels' marks answered, each by a file. Damage is of a pair that points outside, and over a disk that
-- tells no tables have it whose pairs point inside.
pub record IsMarkAnswer {X : Type 0} (k c : ℕ) (t : TablesState) (result : Result X WorkFault) (s s' : ScratchState) (old new : View) : Type 0 where
  pub ended : HasEnded (λ fault. fault) c s.made Nothing result s s' old new
  pub damage : (d : ScratchDamage) → IsErrOf result (Scratch d) → (n : ℕ) × (n < 6) × IsPairDamage t n d
  pub never : (d : ScratchDamage) (ts : TableLists) → IsErrOf result (Scratch d) → TablesStand k t ts old → old.tells ≡ true → PairsInside ts 6 → ⊥

-- The marks of c levels were made, and all stands for the next.
pub record AreLevelsMade (k c : ℕ) (t u : TablesState) (s s' : ScratchState) (old new : View) : Type 0 where
  pub worked : HasWorked c s.made Nothing s s' old new
  pub lists : SameLists t u
  pub stands : (ts : TableLists) → TablesStand k t ts old → TablesStand k u ts new
  pub files : StandsOn s' new
  pub left : (f : ℕ) → IsTablesFile u f → IsLeft s' f
  pub more : (f : ℕ) → IsLeft s f → IsLeft s' f

-- Marks of levels 5 to 3 stand.
pub record UpperStand (s : ScratchState) (m4 m5 m6 : Marks) (ts : TableLists) (view : View) : Type 0 where
  pub of_table_4 : MarksStand s m4 3 ts view
  pub of_table_5 : MarksStand s m5 4 ts view
  pub of_table_6 : MarksStand s m6 5 ts view

-- The marks of levels 5 to 3 were made.
pub record AreUpperMade (k : ℕ) (t u : TablesState) (m4 m5 m6 : Marks) (s s' : ScratchState) (old new : View) : Type 0 where
  pub levels : AreLevelsMade k 3 t u s s' old new
  pub upper : (ts : TableLists) → TablesStand k t ts old → (old.tells ≡ true → PairsInside ts 6) → UpperStand s' m4 m5 m6 ts new

-- The marks of levels 2 and 1 were made, by those of level 3, which stand for what they did.
pub record AreLowerMade (k : ℕ) (t u : TablesState) (above asked m2 m3 : Marks) (s s' : ScratchState) (old new : View) : Type 0 where
  pub levels : AreLevelsMade k 2 t u s s' old new
  pub lower : (ts : TableLists) → TablesStand k t ts old → (old.tells ≡ true → PairsInside ts 6) → MarksStand s above 3 ts old →
      MarksStand s' m2 1 ts new × MarksStand s' m3 2 ts new × MarksStand s' asked 3 ts new

-- The marks of levels 5 to 1 were made: the tables have their lists, and all stand for what was kept.
pub record AreMarksKept (k : ℕ) (t u : TablesState) (m2 m3 m4 m5 m6 : Marks) (s s' : ScratchState) (old new : View) : Type 0 where
  pub worked : HasWorked 5 s.made Nothing s s' old new
  pub lists : SameLists t u
  pub kept : (ts : TableLists) → TablesStand k t ts old → (old.tells ≡ true → PairsInside ts 6) → KeptStand k s' u m2 m3 m4 m5 m6 ts new
