-- What is proved of table 7 of a file that stores a plot: its heads and counts show the span of the plot's list, and no damage.
-- Source: this project's plot file format. Places count from 0.
use Rattle.std.specs.Prelude.{◌≡◌, ℕ, ◌↔◌, List}
use Rattle.pos_lists.specs.PlotLists.{PlotLists}
use Rattle.pos_laws.specs.Listing.{IsBound, IsSpan}
use Rattle.pos_layout.specs.declared.damage.Damage.{Damage}
use Rattle.pos_layout.specs.Rules.{Stores}
use Rattle.pos_layout.specs.Fields.{layout_in}
use Rattle.pos_reader.specs.Spans.{Bound, Span, IsLastDamage}

-- the bound that the reads show for an f7 is that of the plot's list
abbrev pub BoundIsOfTheList : Type 0
BoundIsOfTheList = (b : List ℕ) (p : PlotLists) (f i : ℕ) → Stores (layout_in b) b p → Bound (layout_in b) b f i ↔ IsBound p f i

-- and so is the span that they show for a challenge
abbrev pub SpanIsOfTheList : Type 0
SpanIsOfTheList = (b : List ℕ) (p : PlotLists) (c : List ℕ) (first second : ℕ) → Stores (layout_in b) b p →
    Span (layout_in b) b c first second ↔ IsSpan p c first second

-- this span, and no other
pub record IsTheSpan (b c : List ℕ) (first second : ℕ) : Type 0 where
  pub span : Span (layout_in b) b c first second
  pub only : (m n : ℕ) → Span (layout_in b) b c m n → (m ≡ first) × (n ≡ second)

-- there is just one
abbrev pub OneSpan : Type 0
OneSpan = (b : List ℕ) (p : PlotLists) (c : List ℕ) → Stores (layout_in b) b p → (first : ℕ) × (second : ℕ) × IsTheSpan b c first second

-- and no damage
abbrev pub NoLastDamage : Type 0
NoLastDamage = (b : List ℕ) (p : PlotLists) (d : Damage) → Stores (layout_in b) b p → IsLastDamage (layout_in b) b d → ⊥
