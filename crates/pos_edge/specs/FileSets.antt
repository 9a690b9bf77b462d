-- Sets of open files, by their FileIds: those that a value owns, beside those that a call may change.
use Rattle.std.specs.Prelude.{ℕ, ◌≡◌, true, List}
use Rattle.pos_edge.specs.View.{View}
use Rattle.pos_edge.specs.Frame.{NameOf}

-- No FileId of the set is among the ids, and none's name among the names.
pub record IsOutside (files : ℕ → Type 0) (names : List ℕ → Type 0) (ids : ℕ → Type 0) (view : View) : Type 0 where
  pub not_ids : (file : ℕ) → files file → ids file → ⊥
  pub not_names : (file : ℕ) (name : List ℕ) → files file → NameOf file view name → names name → ⊥

-- Each FileId of the set is live, and no two are of one file.
pub record AreTogether (own : ℕ → Type 0) (view : View) : Type 0 where
  pub live : (file : ℕ) → own file → view.is_live file ≡ true
  pub one : (f g : ℕ) (name : List ℕ) → own f → own g → NameOf f view name → NameOf g view name → f ≡ g
