-- What is proved of the damages that reading answers, in any file that opens: each comes exactly where its cause holds.
-- Source: this project's plot file format. Tables count from 1 to 7, parks and places from 0.
use Rattle.std.specs.Prelude.{◌≡◌, ℕ, ◌↔◌, List, Err}
use Rattle.pos_layout.specs.declared.damage.Damage.{Damage}
use Rattle.pos_layout.specs.declared.layout.Layout.{Layout}
use Rattle.pos_layout.specs.Reading.{num, head, under}
use Rattle.pos_layout.specs.Rules.{Opens}
use Rattle.pos_reader.specs.ReadingCauses.{EntryCause, ParkCause, NumberCause}

-- the damage of a number
abbrev pub NumberDamageHasItsCause : Type 0
NumberDamageHasItsCause = (l : Layout) (b : List ℕ) (t i : ℕ) (d : Damage) → Opens l b → (num l b t i ≡ Err d) ↔ NumberCause l b t i d

-- of a head of table 7
abbrev pub HeadDamageHasItsCause : Type 0
HeadDamageHasItsCause = (l : Layout) (b : List ℕ) (park : ℕ) (d : Damage) → (head l b park ≡ Err d) ↔ EntryCause l b 7 park d

-- and of a count of one of its parks, whatever is counted
abbrev pub CountDamageHasItsCause : Type 0
CountDamageHasItsCause = (l : Layout) (b : List ℕ) (park f7 : ℕ) (d : Damage) → Opens l b →
    (under l b park f7 ≡ Err d) ↔ ParkCause l b 7 park d
