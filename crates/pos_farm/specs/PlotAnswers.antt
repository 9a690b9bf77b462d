-- The answers of plots for a challenge: of one file by its name, and of the files of a list of names.
-- Source: this project's own. Names count from 0.
use Rattle.std.specs.Prelude.{◌≡◌, ℕ, suc, ◌^◌, ◌<◌, Bool, true, false, All, List, [], ◌∷◌, ◌++◌, length, count_by, slice_index_or, Option, Some, None, IfSome, Result, Ok, Err}
use Rattle.pos_edge.specs.Faults.{Rose}
use Rattle.pos_edge.specs.Frame.{SameFaults}
use Rattle.pos_edge.specs.View.{View}
use Rattle.pos_edge.specs.declared.Memory.{Memory}
use Rattle.pos_tuple.specs.Proof.{Proof}
use Rattle.pos_order.specs.Quality.{quality_of}
use Rattle.pos_harvest.specs.PlotDamage.{IsProveDamage}
use Rattle.pos_farm.specs.declared.offer.Answer.{Answer}
use Rattle.pos_farm.specs.declared.offer.Answer.TheVariants.{Absent, DiskFailed, Damaged, Proofs}
use Rattle.pos_farm.specs.declared.offer.Offer.{Offer}
use Rattle.pos_farm.specs.Offers.{HasOffers}

-- ---- of one name

-- The right answer for a file, of which a disk that may tell holds these bytes: no file is there; or, where the disk tells, the
-- damage that the bytes show, or how many offers they have and the first. Of a failure of the disk nothing is said.
abbrev pub IsAnswerOf : Bool → Option (List ℕ) → List ℕ → Answer → Type 0
IsAnswerOf tells held c Absent = held ≡ None
IsAnswerOf tells held c DiskFailed = Unit {0}
IsAnswerOf tells held c (Damaged d) = tells ≡ true → (b : List ℕ) × (held ≡ Some b) × IsProveDamage c b d
IsAnswerOf tells held c (Proofs number best) = tells ≡ true → (b : List ℕ) × (held ≡ Some b) × HasOffers b c number best

-- the right answer for the file of a name
abbrev pub IsPlotAnswer : List ℕ → List ℕ → View → Answer → Type 0
IsPlotAnswer name c disk answer = IsAnswerOf disk.tells (disk.contents name) c answer

-- the offer is a proof of its size for the challenge, of some id, with its quality
pub record IsTrueOffer (c : List ℕ) (offer : Offer) : Type 0 where
  pub id : List ℕ
  pub proof : Proof id offer.size c offer.proof
  pub small : All (λ x. x < 2 ^ offer.size) offer.proof
  pub quality_is : offer.quality ≡ quality_of offer.size c offer.proof

-- the best offer of an answer
abbrev pub best_in : Answer → Option Offer
best_in Absent = None
best_in DiskFailed = None
best_in (Damaged d) = None
best_in (Proofs number best) = best

-- it is true, if there is one
abbrev pub OffersTruly : List ℕ → Answer → Type 0
OffersTruly c answer = IfSome (best_in answer) (IsTrueOffer c)

-- ---- failures of the disk

abbrev pub is_failed : Answer → Bool
is_failed Absent = false
is_failed DiskFailed = true
is_failed (Damaged d) = false
is_failed (Proofs number best) = false

abbrev pub failures : List Answer → ℕ
failures answers = count_by is_failed answers

-- the count of faults rose where the answer is a failure of the disk, and else stays
pub record CountsFailure (answer : Answer) (old new : View) : Type 0 where
  pub failed : is_failed answer ≡ true → Rose old.faults new.faults
  pub quiet : is_failed answer ≡ false → SameFaults old new

abbrev pub CountsAnswer : Result Answer Memory → View → View → Type 0
CountsAnswer (Ok answer) = CountsFailure answer
CountsAnswer (Err e) = SameFaults

-- ---- of several names

-- these are the right answers for these names, in their order
pub record AreAnswers (names : List (List ℕ)) (c : List ℕ) (disk : View) (answers : List Answer) : Type 0 where
  pub as_many : length answers ≡ length names
  pub each : (i : ℕ) → i < length names → IsPlotAnswer (slice_index_or names i []) c disk (slice_index_or answers i Absent)

-- an offer with the number of its plot, if there is one
abbrev pub numbered : ℕ → Option Offer → List (ℕ × Offer)
numbered plot None = []
numbered plot (Some offer) = (plot, offer) ∷ []

-- the best offers of answers, of which the first has this number
abbrev pub bests_from : ℕ → List Answer → List (ℕ × Offer)
bests_from plot [] = []
bests_from plot (answer ∷ answers) = numbered plot (best_in answer) ++ bests_from (suc plot) answers
