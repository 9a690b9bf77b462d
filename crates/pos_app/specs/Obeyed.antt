-- The answer to a command, whichever it is. This is for private functions; no public clause speaks of it.
use Rattle.std.specs.Prelude.{ℕ}
use Rattle.pos_edge.specs.View.{View}
use Rattle.pos_app.specs.Command.{Command, Verify, MakePlot, Prove, Quality, Inspect, CheckPlot, Survey, Farm}
use Rattle.pos_edge.specs.Sinks.{Heard}
use Rattle.pos_app.specs.VerifyAnswers.{SaysVerdict, TellsProofs}
use Rattle.pos_app.specs.PlottingAnswers.{SaysPlotting}
use Rattle.pos_app.specs.InspectAnswers.{SaysInspection}
use Rattle.pos_app.specs.ListAnswers.{SaysProofs, SaysQualities}
use Rattle.pos_app.specs.CheckAnswers.{SaysCheck}
use Rattle.pos_app.specs.SurveyAnswers.{SaysSurvey}
use Rattle.pos_app.specs.FarmAnswers.{SaysFarm}

-- what it says,
abbrev pub SaysAnswer : Command → View → View → ℕ → Heard → Heard → Type 0
SaysAnswer (Verify id k challenge proof) before after result old new = SaysVerdict id k challenge proof result old new
SaysAnswer (MakePlot id k file base) before after result old new = SaysPlotting id k file base before after result old new
SaysAnswer (Prove file c) before after result old new = SaysProofs file c before after result old new
SaysAnswer (Quality file c) before after result old new = SaysQualities file c before after result old new
SaysAnswer (Inspect file) before after result old new = SaysInspection file before after result old new
SaysAnswer (CheckPlot file n) before after result old new = SaysCheck file n before after result old new
SaysAnswer (Survey k number n file base) before after result old new = SaysSurvey k number n file base before after result old new
SaysAnswer (Farm list c) before after result old new = SaysFarm list c before after result old new

-- and what its status tells
abbrev pub TellsAnswer : Command → ℕ → Type 0
TellsAnswer (Verify id k challenge proof) result = TellsProofs id k challenge proof result
TellsAnswer (MakePlot id k file base) result = Unit {0}
TellsAnswer (Prove file c) result = Unit {0}
TellsAnswer (Quality file c) result = Unit {0}
TellsAnswer (Inspect file) result = Unit {0}
TellsAnswer (CheckPlot file n) result = Unit {0}
TellsAnswer (Survey k number n file base) result = Unit {0}
TellsAnswer (Farm list c) result = Unit {0}
