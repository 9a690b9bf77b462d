-- What is proved of lists of names: bytes list names in one way and have one first bad line, and never both.
-- Source: this project's own.
use Rattle.std.specs.Prelude.{◌≡◌, ℕ, List}
use Rattle.pos_farm.specs.NameLists.{HasBadLine, IsNameList}

abbrev pub OneNameList : Type 0
OneNameList = (b : List ℕ) (names others : List (List ℕ)) → IsNameList b names → IsNameList b others → names ≡ others

abbrev pub OneBadLine : Type 0
OneBadLine = (b : List ℕ) (line other : ℕ) → HasBadLine b line → HasBadLine b other → line ≡ other

abbrev pub ListOrBadLine : Type 0
ListOrBadLine = (b : List ℕ) (names : List (List ℕ)) (line : ℕ) → IsNameList b names → HasBadLine b line → ⊥
