-- The names of scratch files, and the files of a `Scratch` that are left.
use Rattle.std.specs.Prelude.{ℕ, ◌+◌, ◌<◌, ◌≤◌, ◌≡◌, ◌≢◌, ◌⊎◌, ◌==◌, not, true, List, [], ◌∷◌, ◌++◌, None, All, Any, filter}
use Rattle.std.specs.Fmt.{decimal}
use Rattle.pos_edge.specs.View.{View}
use Rattle.pos_edge.specs.Frame.{NameOf}
use Rattle.pos_edge.specs.declared.scratch.ScratchFile.{ScratchFile}

-- the base, a full stop, and the number in decimal
abbrev pub scratch_name : List ℕ → ℕ → List ℕ
scratch_name base n = base ++ 46 ∷ decimal n

-- a name of a scratch file of this base
abbrev pub IsScratchName : List ℕ → List ℕ → Type 0
IsScratchName base name = (n : ℕ) × (name ≡ scratch_name base n)

-- A `Scratch`: the base of its names, how many files it made, and those that are left, from the first made on.
pub record ScratchState : Type 0 where
  pub base : List ℕ
  pub made : ℕ
  pub left : List ScratchFile

-- the name of one of these scratch files
abbrev pub IsNameIn : List ℕ → List ScratchFile → List ℕ → Type 0
IsNameIn base files name = Any (λ kept. name ≡ scratch_name base kept.number) files

-- no file was made yet
abbrev pub fresh_scratch : List ℕ → ScratchState
fresh_scratch base = record { base = base; made = 0; left = [] }

-- the name of the file that is made next
abbrev pub next_name : ScratchState → List ℕ
next_name scratch = scratch_name scratch.base scratch.made

-- with one more file, of this FileId
abbrev pub with_file : ScratchState → ℕ → ScratchState
with_file scratch file = record { base = scratch.base; made = scratch.made + 1; left = scratch.left ++ record { number = scratch.made; file = record { 0 = file } } ∷ [] }

-- without the file of this FileId
abbrev pub without_file : ScratchState → ℕ → ScratchState
without_file scratch file = record { base = scratch.base; made = scratch.made; left = filter (λ kept. not (kept.file.0 == file)) scratch.left }

-- none is left
abbrev pub without_files : ScratchState → ScratchState
without_files scratch = record { base = scratch.base; made = scratch.made; left = [] }

-- the FileId is that of a file that is left
abbrev pub IsLeft : ScratchState → ℕ → Type 0
IsLeft scratch file = Any (λ kept. kept.file.0 ≡ file) scratch.left

-- the first was made before the second, and has another FileId
pub record IsMadeBefore (first second : ScratchFile) : Type 0 where
  pub earlier : first.number < second.number
  pub ids : first.file.0 ≢ second.file.0

-- each was made before those behind it, and no two are one
abbrev pub AllApart : List ScratchFile → Type 0
AllApart [] = Unit {0}
AllApart (first ∷ others) = All (IsMadeBefore first) others × AllApart others

-- A list of scratch files is on a disk: each is live and has the name of its number, and no two are one.
pub record Stand (base : List ℕ) (made : ℕ) (left : List ScratchFile) (view : View) : Type 0 where
  pub few : made ≤ 10000
  pub below : All (λ kept. kept.number < made) left
  pub apart : AllApart left
  pub live : All (λ kept. view.is_live kept.file.0 ≡ true) left
  pub named : view.tells ≡ true → All (λ kept. NameOf kept.file.0 view (scratch_name base kept.number)) left

-- the files of this `Scratch` that are left are on this disk
abbrev pub StandsOn : ScratchState → View → Type 0
StandsOn scratch view = Stand scratch.base scratch.made scratch.left view

-- each file is as it was, or gone
abbrev pub SameOrGone : View → View → Type 0
SameOrGone old new = (name : List ℕ) → (new.contents name ≡ old.contents name) ⊎ (new.contents name ≡ None)

-- none of these files is on the disk
abbrev pub AreGone : ScratchState → View → Type 0
AreGone scratch view = All (λ kept. view.contents (scratch_name scratch.base kept.number) ≡ None) scratch.left

-- these FileIds have ended, and each other one stays
pub record EndsAll (scratch : ScratchState) (old new : View) : Type 0 where
  pub ended : (file : ℕ) → IsLeft scratch file → (new.is_live file ≡ true → ⊥)
  pub others : (file : ℕ) → (IsLeft scratch file → ⊥) → new.is_live file ≡ old.is_live file
