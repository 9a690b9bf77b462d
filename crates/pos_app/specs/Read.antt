-- A command as the program holds it. This is for private functions; no public clause speaks of it.
use Rattle.std.specs.Prelude.{◌≡◌, ◌≢◌, ◌≤◌, List, [], ℕ, length, slice_index, Option, Some, None, IsSome, unwrap_or}
use Rattle.std.specs.Bool.{IsFalse}
use Rattle.pos_app.specs.Words.{begins_as_scratch, bytes_word}
use Rattle.pos_app.specs.Command.{Command as Meant, Verify as MeantVerify, MakePlot as MeantPlot, Prove as MeantProve, Quality as MeantQuality, Inspect as MeantInspect, CheckPlot as MeantCheck, Survey as MeantSurvey, Farm as MeantFarm}
use Rattle.pos_app.specs.declared.command.Command.{Command}
use Rattle.pos_app.specs.declared.command.Names.{Names}
use Rattle.pos_app.specs.declared.command.Surveyed.{Surveyed}
use Rattle.pos_app.specs.declared.command.Command.TheVariants.{Verify, MakePlot, Prove, Quality, Inspect, CheckPlot, Survey, Farm}

-- the bytes that hexadecimal digits write
abbrev pub digits_bytes : List ℕ → List ℕ
digits_bytes digits = unwrap_or (bytes_word digits) []

-- the command that the program holds
abbrev pub meant : Command → Meant
meant (Verify judged) = MeantVerify judged.id.0 judged.size judged.challenge.0 (digits_bytes judged.proof.now)
meant (MakePlot making) = MeantPlot making.id.0 making.size making.names.file.now making.names.base.now
meant (Prove question) = MeantProve question.file.now question.challenge.0
meant (Quality question) = MeantQuality question.file.now question.challenge.0
meant (Inspect file) = MeantInspect file.now
meant (CheckPlot test) = MeantCheck test.file.now test.challenges
meant (Survey made) = MeantSurvey made.size made.number made.challenges made.names.file.now made.names.base.now
meant (Farm question) = MeantFarm question.file.now question.challenge.0

-- the name of the file does not begin as those of the scratch files do
abbrev pub AreOutputNames : Names → Type 0
AreOutputNames names = IsFalse (begins_as_scratch names.base.now names.file.now)

-- the challenges are not too many, and the two names are apart
pub record IsSurveyable (made : Surveyed) : Type 0 where
  pub few : made.challenges ≤ 1000000
  pub apart : AreOutputNames made.names

-- its proof is an even number of digits, its names are those of a plot that can be made, its challenges are not too many
abbrev pub IsObeyable : Command → Type 0
IsObeyable (Verify judged) = IsSome (bytes_word judged.proof.now)
IsObeyable (MakePlot making) = AreOutputNames making.names
IsObeyable (Prove question) = Unit {0}
IsObeyable (Quality question) = Unit {0}
IsObeyable (Inspect file) = Unit {0}
IsObeyable (CheckPlot test) = test.challenges ≤ 1000000
IsObeyable (Survey made) = IsSurveyable made
IsObeyable (Farm question) = Unit {0}

-- it is the one that the words are, or there is none
abbrev pub Reads : Option Command → Option Meant → Type 0
Reads None command = command ≡ None
Reads (Some held) command = IsObeyable held × (command ≡ Some (meant held))

-- no sign stands in front (43 is a plus), and no zero (48) before other digits
abbrev pub IsPlain : List ℕ → Type 0
IsPlain word = (slice_index word 0 ≢ 43) × (slice_index word 0 ≡ 48 → length word ≡ 1)
