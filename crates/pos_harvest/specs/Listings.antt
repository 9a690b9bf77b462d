-- The proofs, or the qualities, of the places of a span in order, or the first place that has none.
-- Places count from 0.
use Rattle.std.specs.Prelude.{◌≡◌, ℕ, ◌+◌, ◌-◌, ◌<◌, ◌≤◌, ◌⊎◌, List, [], length, slice_index_or, Result, Ok, Err}
use Rattle.pos_layout.specs.declared.damage.Damage.{Damage}
use Rattle.pos_layout.specs.declared.layout.Layout.{Layout}
use Rattle.pos_edge.specs.View.{View}
use Rattle.pos_reader.specs.Plots.{PlotState}
use Rattle.pos_reader.specs.Readings.{CountsFaults, LeavesPlot}
use Rattle.pos_reader.specs.Spans.{IsLastDamage, Span}
use Rattle.pos_harvest.specs.declared.refusal.ListRefusal.{ListRefusal}
use Rattle.pos_harvest.specs.declared.refusal.ListRefusal.TheVariants.{DiskFailed}
use Rattle.pos_harvest.specs.Places.{quality_in, ShowsProof, FailsAsProof}
use Rattle.pos_harvest.specs.Sources.{Source, LeavesSource}

-- out has, for each place from first up to, not with, second and in their order, the proof that it shows
pub record AreProofsOf (l : Layout) (b c : List ℕ) (first second : ℕ) (out : List (List ℕ)) : Type 0 where
  pub as_long : length out ≡ second - first
  pub each : (j : ℕ) → j < length out → ShowsProof l b c (first + j) (slice_index_or out j [])

-- or the quality of its branch
pub record AreQualitiesOf (l : Layout) (b c : List ℕ) (first second : ℕ) (out : List (List ℕ)) : Type 0 where
  pub as_long : length out ≡ second - first
  pub each : (j : ℕ) → j < length out → quality_in l b c (first + j) ≡ Ok (slice_index_or out j [])

-- Of the places from first up to, not with, second the first that is not good is bad.
pub record StopsAtFirst (Good Bad : ℕ → Type 0) (first second : ℕ) : Type 0 where
  pub place : ℕ
  pub from : first ≤ place
  pub to : place < second
  pub before : (i : ℕ) → first ≤ i → i < place → Good i
  pub here : Bad place

-- this damage is what the first place without a proof shows
abbrev pub StopsListing : Layout → List ℕ → List ℕ → ℕ → ℕ → Damage → Type 0
StopsListing l b c first second d =
    StopsAtFirst (λ i. (xs : List ℕ) × ShowsProof l b c i xs) (λ i. FailsAsProof l b c i d) first second

-- or the first place without a quality
abbrev pub StopsQualities : Layout → List ℕ → List ℕ → ℕ → ℕ → Damage → Type 0
StopsQualities l b c first second d =
    StopsAtFirst (λ i. (q : List ℕ) × (quality_in l b c i ≡ Ok q)) (λ i. quality_in l b c i ≡ Err d) first second

-- ---- of a challenge, over a span

-- out has the proofs of a span's places
pub record ListsProofs (l : Layout) (b c : List ℕ) (out : List (List ℕ)) : Type 0 where
  pub first : ℕ
  pub second : ℕ
  pub span : Span l b c first second
  pub proofs : AreProofsOf l b c first second out

-- or their qualities
pub record ListsQualities (l : Layout) (b c : List ℕ) (out : List (List ℕ)) : Type 0 where
  pub first : ℕ
  pub second : ℕ
  pub span : Span l b c first second
  pub qualities : AreQualitiesOf l b c first second out

-- the places of a span stop a list
pub record StopsInSpan (l : Layout) (b c : List ℕ) (Stops : ℕ → ℕ → Type 0) : Type 0 where
  pub first : ℕ
  pub second : ℕ
  pub span : Span l b c first second
  pub stops : Stops first second

-- what there is in place of the list of proofs: a damage that the search for the span shows, or what the first place of a
-- span shows that has no proof
abbrev pub IsProofListDamage : Layout → List ℕ → List ℕ → Damage → Type 0
IsProofListDamage l b c d =
    IsLastDamage l b d ⊎ StopsInSpan l b c (λ first second. StopsListing l b c first second d)

-- and in place of the list of qualities
abbrev pub IsQualityListDamage : Layout → List ℕ → List ℕ → Damage → Type 0
IsQualityListDamage l b c d =
    IsLastDamage l b d ⊎ StopsInSpan l b c (λ first second. StopsQualities l b c first second d)

-- ---- what a listing leaves

-- The plot is as it was, the disk was only read, at most so often, and it failed exactly where that is answered.
pub record IsListing {X : Type 0} (most : ℕ) (result : Result X ListRefusal) (p q : PlotState) (old new : View) : Type 0 where
  pub left : LeavesPlot most p q old new
  pub faults : CountsFaults DiskFailed result old new

-- The same of a source of numbers.
pub record IsSourceListing {S E X : Type 0} (s : Source S E) (most : ℕ) (result : Result X ListRefusal) (p q : S) (old new : View) : Type 0 where
  pub left : LeavesSource s most p q old new
  pub faults : CountsFaults DiskFailed result old new
