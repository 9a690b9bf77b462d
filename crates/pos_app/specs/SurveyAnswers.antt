-- The answer of `survey K NUMBER N FILE SCRATCH`. Tables count from 1 to 7, challenges from 0.
use Rattle.std.specs.Prelude.{ℕ, ◌<◌, ◌≡◌, ◌≢◌, ◌++◌, List, Some, None, Result, Ok, Err}
use Rattle.pos_edge.specs.Faults.{Rose}
use Rattle.pos_edge.specs.Images.{IsOnlyImage}
use Rattle.pos_edge.specs.ScratchNames.{scratch_name}
use Rattle.pos_edge.specs.Sinks.{Heard, followed_by}
use Rattle.pos_edge.specs.View.{View}
use Rattle.pos_plot.specs.declared.run.Counts.{Counts}
use Rattle.pos_plot.specs.declared.run.TheConstants.{SCRATCH_FILES}
use Rattle.pos_plot.specs.PlotFiles.{IsNew}
use Rattle.pos_reader.specs.declared.refusal.OpenRefusal.TheVariants.{Absent, DiskFailed as OpeningFailed, Damage as OpensDamaged, Memory}
use Rattle.pos_reader.specs.declared.refusal.ReadRefusal.TheVariants.{DiskFailed as ReadingFailed, Damage as ReadsDamaged}
use Rattle.pos_check.specs.declared.summary.Summary.{Summary}
use Rattle.pos_check.specs.declared.surveying.SurveyFault.{SurveyFault}
use Rattle.pos_check.specs.declared.surveying.SurveyFault.TheVariants.{Plot, Open, Read}
use Rattle.pos_check.specs.Challenges.{survey_id}
use Rattle.pos_check.specs.SummaryLaws.{SumsUp}
use Rattle.pos_check.specs.Surveys.{IsSurvey}
use Rattle.pos_app.specs.Statuses.{done_status, refused_status, usage_status, disk_fault_status, damage_status, name_status, scratch_status, list_status}
use Rattle.pos_app.specs.Answers.{EndsWith, IsUnsaid, Says, Speaks}
use Rattle.pos_app.specs.PlottingAnswers.{CanPlot, SaysPlotFault, TellsFullTable, TellsNames, counts_of}
use Rattle.pos_app.specs.Texts.{absent_line, checked_line, damage_line, disk_fault_line, plotted_line}

-- ---- a survey, and what is said of it

-- the line of a plot that was made, and that of its summary
abbrev pub survey_text : ℕ → List ℕ → Summary → List ℕ
survey_text k counts s = plotted_line k counts ++ checked_line s.challenges s.proofs s.digest

-- what is said of why there is no summary, and with which status
abbrev pub SaysSurveyFault : List ℕ → List ℕ → SurveyFault → ℕ → Heard → Heard → Type 0
SaysSurveyFault file base (Plot fault) result old new = SaysPlotFault file base fault result old new
SaysSurveyFault file base (Open Absent) result old new = Says name_status (absent_line file) result old new
SaysSurveyFault file base (Open OpeningFailed) result old new = Speaks disk_fault_status disk_fault_line result old new
SaysSurveyFault file base (Open (OpensDamaged d)) result old new = Says damage_status (damage_line d) result old new
SaysSurveyFault file base (Open Memory) result old new = IsUnsaid result old new
SaysSurveyFault file base (Read ReadingFailed) result old new = Speaks disk_fault_status disk_fault_line result old new
SaysSurveyFault file base (Read (ReadsDamaged d)) result old new = Says damage_status (damage_line d) result old new

-- and of a plot that was made and checked
abbrev pub SaysSurveyEnd : ℕ → List ℕ → List ℕ → Result (Counts × Summary) SurveyFault → ℕ → Heard → Heard → Type 0
SaysSurveyEnd k file base (Ok both) result old new = Says done_status (survey_text k both.0.tables both.1) result old new
SaysSurveyEnd k file base (Err fault) result old new = SaysSurveyFault file base fault result old new

-- the answer of `survey K NUMBER N FILE SCRATCH`: one survey was made, and how it ended is said
pub record SaysSurvey (k number n : ℕ) (file base : List ℕ) (before after : View) (result : ℕ) (old new : Heard) : Type 0 where
  pub answer : Result (Counts × Summary) SurveyFault
  pub run : IsSurvey number k n file base answer before after
  pub said : SaysSurveyEnd k file base answer result old new

-- ---- what follows, over a disk that tells

-- The plot of the number is made: under the name stands its new file, and a crash leaves just it. Each other name holds what it
-- held, none of the scratch names was there, and the counts of the file's tables are said, and the summary of all its proofs for the first n challenges.
pub record HasSurveyedPlot (k number n : ℕ) (file base : List ℕ) (before after : View) (old new : Heard) : Type 0 where
  pub bytes : List ℕ
  pub contents : after.contents file ≡ Some bytes
  pub only : IsOnlyImage file (Some bytes) after
  pub is_plot : IsNew bytes (survey_id number) k
  pub others : (name : List ℕ) → (name ≡ file → ⊥) → after.contents name ≡ before.contents name
  pub scratch : (m : ℕ) → m < SCRATCH_FILES → before.contents (scratch_name base m) ≡ None
  pub summary : Summary
  pub sums_up : SumsUp (survey_id number) k n summary
  pub text : new.text ≡ followed_by old.text (survey_text k (counts_of is_plot.of_plot.plot) summary)

-- All that the status tells over a disk that tells: a plot that is made and checked, names, a full table; neither a scratch file
-- nor the plot file is damaged; and where the plot can be made and the disk doesn't fail it is made and checked, but for a fault
-- of the sink and want of memory.
pub record TellsSurvey (k number n : ℕ) (file base : List ℕ) (before after : View) (result : ℕ) (old new : Heard) : Type 0 where
  pub surveyed : result ≡ done_status → HasSurveyedPlot k number n file base before after old new
  pub names : TellsNames file base before after result old new
  pub full : TellsFullTable (survey_id number) k result old new
  pub undamaged : result ≢ scratch_status
  pub unbroken : result ≢ damage_status
  pub complete : CanPlot (survey_id number) k file base before → (Rose before.faults after.faults → ⊥) → EndsWith done_status result

-- a status of this command, over every disk
pub record IsSurveyStatus (result : ℕ) : Type 0 where
  pub not_refused : result ≢ refused_status
  pub not_usage : result ≢ usage_status
  pub not_list : result ≢ list_status
