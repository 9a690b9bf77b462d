-- A list of names as a file: each name is UTF-8 of 1 to 1024 bytes and ends with a newline, and there are at most 256.
-- Source: this project's own. Lines count from 0, lengths are in bytes.
use Rattle.std.specs.Prelude.{◌≡◌, ℕ, ◌≤◌, ◌⊎◌, All, List, [], ◌∷◌, ◌++◌, length, map}
use Rattle.std.specs.List.{concat}
use Rattle.std.specs.Str.{IsUtf8}
use Rattle.pos_farm.specs.declared.list.TheConstants.{LONGEST_NAME, MOST_NAMES, NEWLINE}

-- a name that may stand in a list
pub record IsListedName (name : List ℕ) : Type 0 where
  pub text : IsUtf8 name
  pub some : 1 ≤ length name
  pub short : length name ≤ LONGEST_NAME
  pub one_line : All (λ x. x ≡ NEWLINE → ⊥) name

-- the lines of names
abbrev pub name_line : List ℕ → List ℕ
name_line name = name ++ NEWLINE ∷ []

abbrev pub name_lines : List (List ℕ) → List ℕ
name_lines names = concat (map name_line names)

-- these bytes list these names, and no more
pub record IsNameList (b : List ℕ) (names : List (List ℕ)) : Type 0 where
  pub lines : b ≡ name_lines names
  pub good : All IsListedName names
  pub few : length names ≤ MOST_NAMES

-- these bytes begin with the line of a name
abbrev pub BeginsWithName : List ℕ → Type 0
BeginsWithName b = (name rest : List ℕ) × (b ≡ name ++ NEWLINE ∷ rest) × IsListedName name

-- The lines before this one are names; something stands behind them, and it is no line of a name, or one too many.
pub record HasBadLine (b : List ℕ) (line : ℕ) : Type 0 where
  pub names : List (List ℕ)
  pub rest : List ℕ
  pub lines : b ≡ name_lines names ++ rest
  pub good : All IsListedName names
  pub number : line ≡ length names
  pub few : line ≤ MOST_NAMES
  pub goes_on : 1 ≤ length rest
  pub bad : (line ≡ MOST_NAMES) ⊎ (BeginsWithName rest → ⊥)
