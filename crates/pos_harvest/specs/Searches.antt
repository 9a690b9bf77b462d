-- How far a search among the parks of table 7 has come. This is for private functions; no public clause speaks of it.
use Rattle.std.specs.Prelude.{◌≡◌, ℕ, zero, suc, ◌-◌, ◌*◌, ◌^◌, ◌<◌, ◌≤◌, List, Ok}
use Rattle.pos_layout.specs.declared.header.Header.{Header}
use Rattle.pos_layout.specs.Fields.{count_of}
use Rattle.pos_layout.specs.declared.layout.Layout.{Layout}
use Rattle.pos_layout.specs.Layouts.{full_of}
use Rattle.pos_layout.specs.Reading.{under}
use Rattle.pos_reader.specs.Spans.{BeginsBelow, BeginsFrom, Bound, last_parks}

-- the last of the first parks begins below f, so many as low says, and the park at high, if there is one, does not
pub record IsBetween (l : Layout) (b : List ℕ) (f low high : ℕ) : Type 0 where
  pub below : 0 < low → BeginsBelow l b f (low - 1)
  pub from : high < last_parks l b → BeginsFrom l b f high

-- how many places a table from 1 to 6 has; of values there are 2 ^ k
abbrev pub places_of : Header → ℕ → ℕ
places_of h zero = 2 ^ h.size
places_of h (suc t) = count_of h (suc t)

-- the numbers with an f7 of f or above begin at this place, and so many parks come first that begin below f
pub record IsStart (l : Layout) (b : List ℕ) (f parks place : ℕ) : Type 0 where
  pub between : IsBetween l b f parks parks
  pub bound : Bound l b f place
  pub none : parks ≡ 0 → place ≡ 0
  pub counts : 0 < parks → under l b (parks - 1) f ≡ Ok (place - (full_of l) * (parks - 1))
  pub from : (full_of l) * (parks - 1) ≤ place
  pub to : place ≤ (full_of l) * parks
