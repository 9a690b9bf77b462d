-- What a caller leaves who only reads tables. Source: this project's own.
use Rattle.std.specs.Prelude.{ℕ}
use Rattle.pos_edge.specs.View.{View}
use Rattle.pos_edge.specs.Frame.{ReadsOnly}
use Rattle.pos_lists.specs.TableLists.{TableLists}
use Rattle.pos_runs.specs.Runs.{TablesState, TablesStand}
use Rattle.pos_prune.specs.Passes.{SameLists}

-- the disk was only read, and the tables stand for what they did, on the same lists
pub record HasRead (k : ℕ) (t u : TablesState) (old new : View) : Type 0 where
  pub only : ReadsOnly old new
  pub stands : (ts : TableLists) → TablesStand k t ts old → TablesStand k u ts new
  pub lists : SameLists t u
