-- What a piece of work on scratch files did: which names it may have changed, and which files it made and left.
use Rattle.std.specs.Prelude.{ℕ, ◌+◌, ◌<◌, ◌≤◌, ◌≡◌, ◌⊎◌, ◌^◌, ◌↔◌, false, List, Any, Option, None, Result, IsErrOf, IsSome}
use Rattle.pos_edge.specs.declared.scratch.WorkFault.{WorkFault}
use Rattle.pos_edge.specs.declared.scratch.WorkFault.TheVariants.{DiskFailed, Exists}
use Rattle.pos_edge.specs.Calls.{WasThere}
use Rattle.pos_edge.specs.Faults.{Rose}
use Rattle.pos_edge.specs.View.{View}
use Rattle.pos_edge.specs.Frame.{ChangesOnly, SameFaults, SameFaultsBut}
use Rattle.pos_edge.specs.ScratchNames.{ScratchState, scratch_name, IsLeft, StandsOn}

-- the name of a scratch file with a number from `low` to below `high`
abbrev pub IsNameBetween : List ℕ → ℕ → ℕ → List ℕ → Type 0
IsNameBetween base low high name = (m : ℕ) × (low ≤ m) × (m < high) × (name ≡ scratch_name base m)

-- each file that this `Scratch` made is left, or not on the disk
abbrev pub AreLeftOrGone : ScratchState → View → Type 0
AreLeftOrGone scratch view = (m : ℕ) → m < scratch.made → Any (λ kept. kept.number ≡ m) scratch.left ⊎ (view.contents (scratch_name scratch.base m) ≡ None)

-- this name has the contents that it had, and at each moment from old to new its images
pub record IsSpared (name : List ℕ) (old new : View) : Type 0 where
  pub contents : new.contents name ≡ old.contents name
  pub images : (t : ℕ) (image : Option (List ℕ)) → old.clock ≤ t → t ≤ new.clock → new.image name t image ↔ old.image name old.clock image

-- A file of others, under the scratch name of a number that was not made yet, is as it was, and its number was not passed over.
abbrev pub SparesOthers : ScratchState → ScratchState → View → View → Type 0
SparesOthers s t old new = (m : ℕ) → s.made ≤ m → m < 2 ^ 64 → IsSome (old.contents (scratch_name s.base m)) → IsSpared (scratch_name s.base m) old new × (t.made ≤ m)

-- Work that made at most 40 files, whatever it answered: it changed files of these names and these FileIds alone, but
-- no file of others, and those of the `Scratch` that are left then were left before or had no live FileId.
pub record IsScratchWork (names : List ℕ → Type 0) (ids : ℕ → Type 0) (s t : ScratchState) (old new : View) : Type 0 where
  pub base : t.base ≡ s.base
  pub more : s.made ≤ t.made
  pub most : t.made ≤ s.made + 40
  pub kept : ChangesOnly names ids old new
  pub stands : StandsOn s old → StandsOn t new
  pub left : (file : ℕ) → IsLeft t file → IsLeft s file ⊎ (old.is_live file ≡ false)
  pub spares : StandsOn s old → SparesOthers s t old new

-- Work that went well: no file of a name that it made was there before, and each that it did not leave is gone.
pub record IsScratchDone (names : List ℕ → Type 0) (ids : ℕ → Type 0) (s t : ScratchState) (old new : View) : Type 0 where
  pub kept : ChangesOnly names ids old new
  pub absent : (m : ℕ) → s.made ≤ m → m < t.made → old.contents (scratch_name s.base m) ≡ None
  pub gone : AreLeftOrGone s old → AreLeftOrGone t new

-- Work that went well and made c files, as far as the next piece of it has to know. The names that it may have changed are
-- those of numbers from `low` on.
pub record HasWorked (c low : ℕ) (ids : ℕ → Type 0) (s t : ScratchState) (old new : View) : Type 0 where
  pub work : IsScratchWork (IsNameBetween s.base low (t.made + 1)) ids s t old new
  pub done : IsScratchDone (IsNameBetween s.base low t.made) ids s t old new
  pub made : t.made ≡ s.made + c
  pub quiet : SameFaults old new

-- Work that made at most c files, with its answer: which name was there, and whether the disk failed. `of_work` says how the
-- answer tells a fault of the work.
pub record HasEnded {X E : Type 0} (of_work : WorkFault → E) (c low : ℕ) (ids : ℕ → Type 0) (result : Result X E) (s t : ScratchState) (old new : View) : Type 0 where
  pub work : IsScratchWork (IsNameBetween s.base low (t.made + 1)) ids s t old new
  pub few : t.made ≤ s.made + c
  pub exists : (file : ℕ) → IsErrOf result (of_work (Exists file)) → (file ≡ t.made) × WasThere (scratch_name s.base file) old
  pub failed : IsErrOf result (of_work DiskFailed) → Rose old.faults new.faults
  pub quiet : SameFaultsBut (of_work DiskFailed) result old new
