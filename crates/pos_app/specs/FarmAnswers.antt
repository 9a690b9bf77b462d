-- The answer of `farm LIST CHALLENGE`: what each plot of the list answers, and the best of their proofs, or why there is no list.
-- Plots and lines count from 0.
use Rattle.std.specs.Prelude.{ℕ, ◌+◌, ◌≤◌, ◌≡◌, ◌⊎◌, true, All, List, length, Option, Some, None, IfSome}
use Rattle.pos_edge.specs.Faults.{Rose, RoseBy}
use Rattle.pos_edge.specs.Frame.{SameFaults}
use Rattle.pos_edge.specs.Sinks.{AppendsPartOf, Heard, followed_by}
use Rattle.pos_edge.specs.View.{View}
use Rattle.pos_farm.specs.declared.list.ListFault.{ListFault}
use Rattle.pos_farm.specs.declared.list.ListFault.TheVariants.{Absent, DiskFailed, Line, Memory}
use Rattle.pos_farm.specs.declared.list.TheConstants.{MOST_NAMES}
use Rattle.pos_farm.specs.declared.offer.Answer.{Answer}
use Rattle.pos_farm.specs.declared.offer.Offer.{Offer}
use Rattle.pos_farm.specs.NameLists.{HasBadLine, IsNameList}
use Rattle.pos_farm.specs.Offers.{IsFirstOf}
use Rattle.pos_farm.specs.PlotAnswers.{AreAnswers, IsTrueOffer, OffersTruly, bests_from, failures}
use Rattle.pos_app.specs.Statuses.{disk_fault_status, list_status, name_status}
use Rattle.pos_app.specs.Answers.{IsUnsaid, Says, Speaks}
use Rattle.pos_app.specs.FarmTexts.{bad_line, farm_text}
use Rattle.pos_app.specs.FileAnswers.{SaysUnlessFault, ShowsAbsence, ShowsDiskFault, ShowsText}
use Rattle.pos_app.specs.Texts.{absent_line, disk_fault_line}

-- The text says what the plots of these names answer for the challenge, and names the first of all their offers. Each offer is
-- a true one, over every disk. The disk's faults rose as often as the text names one, and are as they were where it names none.
pub record IsAnswersText (names : List (List ℕ)) (c : List ℕ) (before after : View) (text : List ℕ) : Type 0 where
  pub answers : List Answer
  pub best : Option (ℕ × Offer)
  pub lines : text ≡ farm_text answers best
  pub right : AreAnswers names c before answers
  pub true_ones : All (OffersTruly c) answers
  pub first : IsFirstOf (bests_from 0 answers) best
  pub rose : RoseBy (failures answers) before.faults after.faults
  pub quiet : failures answers ≡ 0 → SameFaults before after

-- the file of this name lists these names
pub record HasNames (list : List ℕ) (disk : View) (names : List (List ℕ)) : Type 0 where
  pub bytes : List ℕ
  pub contents : disk.contents list ≡ Some bytes
  pub listed : IsNameList bytes names

-- the text is that of the plots of at most 256 names: over a disk that tells, of those that the file lists
pub record IsFarmText (list c : List ℕ) (before after : View) (text : List ℕ) : Type 0 where
  pub names : List (List ℕ)
  pub few : length names ≤ MOST_NAMES
  pub answered : IsAnswersText names c before after text
  pub told : before.tells ≡ true → HasNames list before names

-- the file has a bad line, and this is the first
pub record HasFirstBadLine (list : List ℕ) (disk : View) (number : ℕ) : Type 0 where
  pub bytes : List ℕ
  pub contents : disk.contents list ≡ Some bytes
  pub bad : HasBadLine bytes number

-- or a bad line of the list is said: over a disk that tells, the first
pub record ShowsBadLine (list : List ℕ) (before after : View) (result : ℕ) (old new : Heard) : Type 0 where
  pub number : ℕ
  pub said : Speaks list_status (bad_line number) result old new
  pub told : before.tells ≡ true → HasFirstBadLine list before number
  pub quiet : SameFaults before after

-- or that there is no list
pub record ShowsNoList (list : List ℕ) (before after : View) (result : ℕ) (old new : Heard) : Type 0 where
  pub absence : ShowsAbsence list before result old new
  pub quiet : SameFaults before after

-- or that the disk failed as the list was read, by at most 256 reads; one that fails at a plot ends nothing
pub record ShowsListFault (before after : View) (result : ℕ) (old new : Heard) : Type 0 where
  pub fault : ShowsDiskFault before after result old new
  pub reads : after.reads ≤ before.reads + 256

-- the answer of `farm LIST CHALLENGE`, but for want of memory
abbrev pub SaysFarm : List ℕ → List ℕ → View → View → ℕ → Heard → Heard → Type 0
SaysFarm list c before after result old new =
    (ShowsText (IsFarmText list c before after) result old new
    ⊎ (ShowsBadLine list before after result old new
    ⊎ (ShowsNoList list before after result old new ⊎ ShowsListFault before after result old new)))
    ⊎ IsUnsaid result old new

-- ---- what follows, over every disk

-- the line of a refusal
abbrev pub IsListRefusalLine : List ℕ → List ℕ → Type 0
IsListRefusalLine list text = (text ≡ absent_line list) ⊎ ((text ≡ disk_fault_line) ⊎ ((number : ℕ) × (text ≡ bad_line number)))

-- Whatever `farm` answers: what it has written is a front part of the lines of some answers and of a best proof that is one for
-- the challenge, with its quality, or of the line of a refusal.
abbrev pub NamesNoFalseProof : List ℕ → List ℕ → Heard → Heard → Type 0
NamesNoFalseProof list c old new =
    ((answers : List Answer) × (best : Option (ℕ × Offer)) × IfSome best (λ (x : ℕ × Offer). IsTrueOffer c x.1)
    × AppendsPartOf (farm_text answers best) old.text new.text)
    ⊎ ((text : List ℕ) × IsListRefusalLine list text × AppendsPartOf text old.text new.text)

-- ---- and over a disk that tells

-- the plots of these names are asked and what they answer is said, but for a fault of the disk or of the sink and want of memory
abbrev pub SaysAnswersUnlessFault : List (List ℕ) → List ℕ → View → View → ℕ → Heard → Heard → Type 0
SaysAnswersUnlessFault names c before after result old new =
    ShowsText (IsAnswersText names c before after) result old new ⊎ (ShowsDiskFault before after result old new ⊎ IsUnsaid result old new)

-- the bad line that was said is the first of the file
pub record NamesBadLine (list : List ℕ) (disk : View) (old new : Heard) : Type 0 where
  pub number : ℕ
  pub text : new.text ≡ followed_by old.text (bad_line number)
  pub has : HasFirstBadLine list disk number

-- The list decides: of one that is not there it is said that it is absent, of one with a bad line which is the first, and of any
-- other what the plots of its names answer. The status of a bad line comes only where there is one.
pub record TellsList (list c : List ℕ) (before after : View) (result : ℕ) (old new : Heard) : Type 0 where
  pub absent : before.contents list ≡ None → SaysUnlessFault name_status (absent_line list) before after result old new
  pub bad : (number : ℕ) → HasFirstBadLine list before number → SaysUnlessFault list_status (bad_line number) before after result old new
  pub good : (names : List (List ℕ)) → HasNames list before names → SaysAnswersUnlessFault names c before after result old new
  pub named : result ≡ list_status → NamesBadLine list before old new

-- ---- for private functions; no public clause speaks of it

-- the plots of these names were asked, and what they answer is said, but for want of memory
abbrev pub SaysAnswers : List (List ℕ) → List ℕ → View → View → ℕ → Heard → Heard → Type 0
SaysAnswers names c before after result old new = ShowsText (IsAnswersText names c before after) result old new ⊎ IsUnsaid result old new

-- when each reason comes for which there is no list
abbrev pub IsListRefused : List ℕ → View → View → ListFault → Type 0
IsListRefused list before after Absent = (before.contents list ≡ None) × SameFaults before after
IsListRefused list before after DiskFailed = Rose before.faults after.faults × (after.reads ≤ before.reads + 256)
IsListRefused list before after (Line number) = (before.tells ≡ true → HasFirstBadLine list before number) × SameFaults before after
IsListRefused list before after Memory = Unit {0}

-- what is said of each, and with which status
abbrev pub SaysListFault : List ℕ → ListFault → ℕ → Heard → Heard → Type 0
SaysListFault list Absent result old new = Says name_status (absent_line list) result old new
SaysListFault list DiskFailed result old new = Speaks disk_fault_status disk_fault_line result old new
SaysListFault list (Line number) result old new = Says list_status (bad_line number) result old new
SaysListFault list Memory result old new = IsUnsaid result old new
