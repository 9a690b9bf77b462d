-- What a survey did: the plot of a number was made in the second layout with no memo, opened and checked.
-- Source: this project's own. Sizes are k, challenges count from 0.
use Rattle.std.specs.Prelude.{ℕ, ◌+◌, ◌^◌, ◌<◌, ◌≤◌, ◌≡◌, true, List, [], length, Some, None, IsSome, Result, Ok, Err, IfErr, IfOk}
use Rattle.pos_edge.specs.Faults.{Rose}
use Rattle.pos_edge.specs.View.{View}
use Rattle.pos_edge.specs.Frame.{ChangesOnly, Nothing, SameFaults}
use Rattle.pos_edge.specs.Images.{EachImage}
use Rattle.pos_edge.specs.ScratchNames.{scratch_name}
use Rattle.pos_edge.specs.ScratchWork.{IsSpared}
use Rattle.pos_laws.specs.Making.{IsAbove}
use Rattle.pos_layout.specs.Damages.{opening}
use Rattle.pos_layout.specs.declared.layout.Layout.TheVariants.{Two}
use Rattle.pos_layout.specs.Rules.{Opens}
use Rattle.pos_layout.specs.Fields.{layout_in}
use Rattle.pos_plot.specs.declared.fault.PlotFault.TheVariants.{DiskFailed as PlottingFailed}
use Rattle.pos_plot.specs.declared.run.Counts.{Counts}
use Rattle.pos_plot.specs.declared.run.TheConstants.{SCRATCH_FILES}
use Rattle.pos_plot.specs.PlotFiles.{IsLeftPlot, OpensAs}
use Rattle.pos_plot.specs.PlotRuns.{IsPlotCause, IsRunName, IsStopped}
use Rattle.pos_reader.specs.declared.refusal.OpenRefusal.TheVariants.{Absent, DiskFailed as OpeningFailed, Damage as OpensDamaged, Memory}
use Rattle.pos_reader.specs.declared.refusal.ReadRefusal.TheVariants.{DiskFailed as ReadingFailed, Damage as ReadsDamaged}
use Rattle.pos_check.specs.declared.summary.Summary.{Summary}
use Rattle.pos_check.specs.declared.surveying.SurveyFault.{SurveyFault}
use Rattle.pos_check.specs.declared.surveying.SurveyFault.TheVariants.{Plot, Open, Read}
use Rattle.pos_check.specs.Challenges.{survey_id}
use Rattle.pos_check.specs.Summaries.{IsSummary, StopsCheck}
use Rattle.pos_check.specs.SummaryLaws.{SumsUp}

-- the disk failed
abbrev pub IsDiskFault : SurveyFault → Type 0
IsDiskFault (Plot PlottingFailed) = Unit {0}
IsDiskFault (Open OpeningFailed) = Unit {0}
IsDiskFault (Read ReadingFailed) = Unit {0}
IsDiskFault _ = ⊥

-- this is answered
abbrev pub FailsOnDisk : {X : Type 0} → Result X SurveyFault → Type 0
FailsOnDisk (Ok x) = ⊥
FailsOnDisk (Err fault) = IsDiskFault fault

-- over a disk that tells, the file of this name has bytes of which this holds
abbrev pub TellsOf : List ℕ → View → (List ℕ → Type 0) → Type 0
TellsOf name disk Holds = disk.tells ≡ true → (b : List ℕ) × (disk.contents name ≡ Some b) × Holds b

-- ---- the check of a file; this is for a private function

-- Why the file of a name was not checked: there is none, the disk failed, or its bytes have this damage. Want of memory is free.
abbrev pub IsCheckCause : List ℕ → ℕ → SurveyFault → View → View → Type 0
IsCheckCause name n (Plot fault) old new = ⊥
IsCheckCause name n (Open Absent) old new = old.contents name ≡ None
IsCheckCause name n (Open OpeningFailed) old new = Rose old.faults new.faults
IsCheckCause name n (Open (OpensDamaged d)) old new = TellsOf name old (λ b. opening (layout_in b) b (length b) ≡ Some d)
IsCheckCause name n (Open Memory) old new = Unit {0}
IsCheckCause name n (Read ReadingFailed) old new = Rose old.faults new.faults
IsCheckCause name n (Read (ReadsDamaged d)) old new = TellsOf name old (λ b. Opens (layout_in b) b × StopsCheck (layout_in b) b n d)

-- The file of a name was opened and checked by n challenges, or was not; nothing was changed.
pub record IsFileCheck (name : List ℕ) (n : ℕ) (result : Result Summary SurveyFault) (old new : View) : Type 0 where
  pub kept : ChangesOnly Nothing Nothing old new
  pub quiet : (FailsOnDisk result → ⊥) → SameFaults old new
  pub challenges : IfOk result (λ s. s.challenges ≡ n)
  pub summed : IfOk result (λ s. TellsOf name old (λ b. Opens (layout_in b) b × IsSummary (layout_in b) b n s))
  pub cause : IfErr result (λ fault. IsCheckCause name n fault old new)

-- ---- a survey

-- no plot was made; or one was, and its check went well or did not
abbrev pub HasSurveyPlotted : Result (Counts × Summary) SurveyFault → Type 0
HasSurveyPlotted (Err (Plot fault)) = ⊥
HasSurveyPlotted _ = Unit {0}

-- the answers of a survey that finds its file's name there
abbrev pub StopsAtOnce : Result (Counts × Summary) SurveyFault → Type 0
StopsAtOnce (Err (Plot fault)) = IsStopped (Err fault)
StopsAtOnce _ = ⊥

-- Why a survey has no summary: why no plot was made, a fault of the disk, or want of memory. Over a disk that tells, the file
-- that was made is neither absent nor damaged.
abbrev pub IsSurveyCause : ℕ → ℕ → List ℕ → List ℕ → SurveyFault → View → View → Type 0
IsSurveyCause number k name base (Plot fault) old new = IsPlotCause (survey_id number) k (2 ^ (k + 1)) name base fault old new
IsSurveyCause number k name base (Open Absent) old new = old.tells ≡ true → ⊥
IsSurveyCause number k name base (Open OpeningFailed) old new = Rose old.faults new.faults
IsSurveyCause number k name base (Open (OpensDamaged d)) old new = old.tells ≡ true → ⊥
IsSurveyCause number k name base (Open Memory) old new = Unit {0}
IsSurveyCause number k name base (Read ReadingFailed) old new = Rose old.faults new.faults
IsSurveyCause number k name base (Read (ReadsDamaged d)) old new = old.tells ≡ true → ⊥

-- over a disk that tells, the plot of the number stands, with these counts, and this is the summary of all its proofs
pub record HasSurveyed (number k n : ℕ) (name : List ℕ) (counts : Counts) (s : Summary) (new : View) : Type 0 where
  pub left : IsLeftPlot Two [] (survey_id number) k name counts new
  pub sums_up : SumsUp (survey_id number) k n s

-- The plot of a number was made, with as many entries in a table as its size allows, and then checked by n challenges, or was
-- not.
pub record IsSurvey (number k n : ℕ) (name base : List ℕ) (result : Result (Counts × Summary) SurveyFault) (old new : View) : Type 0 where
  -- it wrote no name but that of its file and those of scratch files, and no file that was open
  pub others : ChangesOnly (IsRunName name base) Nothing old new
  -- where its file's name was there, it changed and made nothing, and answered so
  pub there : IsSome (old.contents name) → ChangesOnly Nothing Nothing old new
  pub stops : IsSome (old.contents name) → StopsAtOnce result
  -- each other name that was there, a scratch name among them, keeps what it held and what a crash would leave of it
  pub spares : (m : List ℕ) → (m ≡ name → ⊥) → IsSome (old.contents m) → IsSpared m old new
  -- where that name was absent, at each moment what opens under it is the file of the plot of the number
  pub images : old.contents name ≡ None → EachImage name (OpensAs Two [] (survey_id number) k) old new
  pub cause : IfErr result (λ fault. IsSurveyCause number k name base fault old new)
  pub quiet : (FailsOnDisk result → ⊥) → SameFaults old new
  -- where a plot was made, no table has more entries than the size allows, each other name holds what it held, and the plot stands
  pub within : HasSurveyPlotted result → old.tells ≡ true → (m : ℕ) → 0 < m → m ≤ 6 → IsAbove (survey_id number) k m (2 ^ (k + 1)) → ⊥
  pub same : HasSurveyPlotted result → (other : List ℕ) → (other ≡ name → ⊥) → new.contents other ≡ old.contents other
  -- and the scratch names that it took were absent
  pub absent : HasSurveyPlotted result → (m : ℕ) → m < SCRATCH_FILES → old.contents (scratch_name base m) ≡ None
  pub left : HasSurveyPlotted result → old.tells ≡ true → (counts : Counts) × IsLeftPlot Two [] (survey_id number) k name counts new
  -- where all went well, this is its summary
  pub challenges : IfOk result (λ both. both.1.challenges ≡ n)
  pub summed : IfOk result (λ both. old.tells ≡ true → HasSurveyed number k n name both.0 both.1 new)
