-- How the first of several offers is kept, and what a part of a list of names says. This is for private functions; no public
-- clause speaks of it.
use Rattle.std.specs.Prelude.{◌≡◌, ℕ, Bool, if◌then◌else◌, All, List, ◌∷◌, ◌++◌, drop, length, Option, Some, None, IfSome}
use Rattle.std.specs.Cmp.Lexicographic.{slice_cmp}
use Rattle.std.specs.Ordering.{is_le, nat_cmp}
use Rattle.pos_edge.specs.View.{View}
use Rattle.pos_layout.specs.Fields.{header_in, layout_in}
use Rattle.pos_reader.specs.Plots.{IsPlotFile, PlotState}
use Rattle.pos_harvest.specs.Listings.{IsProofListDamage}
use Rattle.pos_harvest.specs.Places.{ShowsProof}
use Rattle.pos_farm.specs.declared.list.TheConstants.{NEWLINE}
use Rattle.pos_farm.specs.declared.offer.Answer.{Answer}
use Rattle.pos_farm.specs.declared.offer.Answer.TheVariants.{Absent, DiskFailed, Damaged, Proofs}
use Rattle.pos_farm.specs.declared.offer.Offer.{Offer}
use Rattle.pos_farm.specs.NameLists.{IsListedName, name_lines}
use Rattle.pos_farm.specs.Offers.{HasOffers, offer_of}
use Rattle.pos_farm.specs.PlotAnswers.{IsTrueOffer}

-- the quality of the first is at most that of the other
abbrev pub is_no_worse : Offer → Offer → Bool
is_no_worse offer other = is_le (slice_cmp nat_cmp offer.quality other.quality)

-- the offer that is kept, and the next one where it is better
abbrev pub first_or : Option Offer → Offer → Offer
first_or None offer = offer
first_or (Some kept) offer = if is_no_worse kept offer then kept else offer

-- the same of offers with the numbers of their plots
abbrev pub plot_first_or : Option (ℕ × Offer) → ℕ × Offer → ℕ × Offer
plot_first_or None x = x
plot_first_or (Some kept) x = if is_no_worse (kept.1) (x.1) then kept else x

-- and where a plot may have no offer
abbrev pub best_or : Option (ℕ × Offer) → ℕ → Option Offer → Option (ℕ × Offer)
best_or best plot None = best
best_or best plot (Some offer) = Some (plot_first_or best (plot, offer))

-- ---- an open plot

-- the place shows a proof, and this is its offer
pub record IsOfferAt (b c : List ℕ) (place : ℕ) (offer : Offer) : Type 0 where
  pub shown : ShowsProof (layout_in b) b c place offer.proof
  pub is : offer ≡ offer_of c (header_in b).size place offer.proof

-- the offer is true, if there is one
abbrev pub OffersTrulyAt : List ℕ → Option Offer → Type 0
OffersTrulyAt c best = IfSome best (IsTrueOffer c)

-- the right answer of an open plot, which is not absent
abbrev pub IsOpenAnswer : PlotState → List ℕ → View → Answer → Type 0
IsOpenAnswer p c disk Absent = ⊥
IsOpenAnswer p c disk DiskFailed = Unit {0}
IsOpenAnswer p c disk (Damaged d) = (b : List ℕ) → IsPlotFile p b disk → IsProofListDamage (layout_in b) b c d
IsOpenAnswer p c disk (Proofs number best) = (b : List ℕ) → IsPlotFile p b disk → HasOffers b c number best

-- ---- a list of names

-- the bytes up to, not with, this place are the lines of these names
pub record IsReadTo (b : List ℕ) (at : ℕ) (names : List (List ℕ)) : Type 0 where
  pub lines : b ≡ name_lines names ++ drop at b
  pub place : at ≡ length (name_lines names)
  pub good : All IsListedName names

-- the line of this name stands at the beginning of these bytes
pub record BeginsWith (name bytes : List ℕ) : Type 0 where
  pub rest : List ℕ
  pub line : bytes ≡ name ++ NEWLINE ∷ rest
  pub good : IsListedName name

-- the line of this name stands at this place
abbrev pub StandsAt : List ℕ → ℕ → List ℕ → Type 0
StandsAt b at name = BeginsWith name (drop at b)
