-- One table after another: the rows of the table below are read and given up, and the drafts of the next one are made.
use Rattle.std.specs.Prelude.{ℕ, ◌+◌, ◌-◌, ◌≡◌, ◌≤◌, Bool, true, List, length, map}
use Rattle.pos_edge.specs.View.{View}
use Rattle.pos_edge.specs.Frame.{Just}
use Rattle.pos_edge.specs.ScratchNames.{ScratchState, without_file, IsLeft, StandsOn}
use Rattle.pos_edge.specs.ScratchWork.{HasWorked}
use Rattle.pos_tuple.specs.declared.entry.Entry.{Entry}
use Rattle.pos_runs.specs.Pages.{ListPages, ListHolds}
use Rattle.pos_forward.specs.declared.drafts.Draft.{Draft}
use Rattle.pos_forward.specs.declared.gather.Room.{Room}
use Rattle.pos_forward.specs.Matched.{IsReady}
use Rattle.pos_forward.specs.Tables.{IsSortedTable}

-- A sealed list that stands, with the file of the scratch name that was made last.
pub record IsLastList (s : ScratchState) (rows : ListPages) (view : View) : Type 0 where
  pub standing : StandsOn s view
  pub sealed : rows.is_sealed ≡ true
  pub left : IsLeft s rows.file
  pub last : rows.number + 1 ≡ s.made

-- The rows were read and given up: their file is gone, and the `Scratch` has no more of it.
pub record HasGivenRows (s u : ScratchState) (rows : ListPages) (old new : View) : Type 0 where
  pub left : u ≡ without_file s rows.file
  pub worked : HasWorked 0 rows.number (Just rows.file) s u old new

-- what is kept from table to table is ready for the next one
pub record IsReadyRoom (old new : Room) : Type 0 where
  pub matcher : IsReady new.matcher
  pub capacity : new.capacity ≡ old.capacity

-- The drafts of table t in the order of y, made of entries that rise, which are those of the rows where the disk tells.
pub record AreDrafted {R : Type 0} (k t c : ℕ) (entry : R → Entry) (read : List Bool → R) (w : ℕ) (rows : ListPages) (drafts : List Draft) (old : View) : Type 0 where
  pub es : List Entry
  pub count : length es ≡ rows.count
  pub sorted : IsSortedTable k (t - 2) es drafts
  pub same : (xs : List R) → ListHolds read w rows xs old → old.tells ≡ true → es ≡ map entry xs
  pub within : length drafts ≤ c
