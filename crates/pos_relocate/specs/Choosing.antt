-- Which entries of a table are numbered. Places count from 0.
use Rattle.std.specs.Prelude.{◌≡◌, ℕ, ◌<◌, Bool, true}
use Rattle.pos_edge.specs.View.{View}
use Rattle.pos_marks.specs.Marks.{Marked, AreSealed, place_count}
use Rattle.pos_relocate.specs.declared.chosen.Chosen.{Chosen}
use Rattle.pos_relocate.specs.declared.chosen.Chosen.TheVariants.{Each, Those}

-- of a table of n entries this test of places gives those that are numbered: each, or those that sealed marks stand for
abbrev pub Chooses : Chosen → ℕ → (ℕ → Bool) → View → Type 0
Chooses Each n p view = (i : ℕ) → i < n → p i ≡ true
Chooses (Those m) n p view = Marked m p view × AreSealed m × (place_count m ≡ n)
