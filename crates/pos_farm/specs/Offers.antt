-- What a plot offers for a challenge, and which of several offers comes first: that of the least quality, then of the plot
-- with the least number, then of the least place.
-- Source: this project's own; the quality is the Construction document's. Plots and places count from 0.
use Rattle.std.specs.Prelude.{◌≡◌, ℕ, suc, ◌⊎◌, All, Contains, List, [], ◌∷◌, length, Option, Some, None, option_map}
use Rattle.std.specs.Cmp.Lexicographic.{slice_cmp}
use Rattle.std.specs.Ordering.{nat_cmp, ordering_then}
use Rattle.std.specs.declared.cmp.Ordering.{Ordering}
use Rattle.std.specs.declared.cmp.Ordering.TheVariants.{Less}
use Rattle.pos_order.specs.Quality.{quality_of}
use Rattle.pos_layout.specs.declared.layout.Layout.{Layout}
use Rattle.pos_layout.specs.Fields.{header_in, layout_in}
use Rattle.pos_layout.specs.Rules.{Opens}
use Rattle.pos_reader.specs.Spans.{Span}
use Rattle.pos_harvest.specs.Listings.{AreProofsOf}
use Rattle.pos_farm.specs.declared.offer.Offer.{Offer}

-- the offer of a proof xs of size k at a place
abbrev pub offer_of : List ℕ → ℕ → ℕ → List ℕ → Offer
offer_of c k place xs = record { place = place; quality = quality_of k c xs; size = k; proof = xs }

-- those of proofs at a place and the ones behind it, each with the number of the plot
abbrev pub offers_from : List ℕ → ℕ → ℕ → ℕ → List (List ℕ) → List (ℕ × Offer)
offers_from c k plot place [] = []
offers_from c k plot place (xs ∷ more) = (plot, offer_of c k place xs) ∷ offers_from c k plot (suc place) more

-- ---- the order of offers, each with the number of its plot

abbrev pub offer_cmp : ℕ × Offer → ℕ × Offer → Ordering
offer_cmp x y =
    ordering_then (slice_cmp nat_cmp x.1.quality y.1.quality) (ordering_then (nat_cmp x.0 y.0) (nat_cmp x.1.place y.1.place))

abbrev pub IsBefore : ℕ × Offer → ℕ × Offer → Type 0
IsBefore x y = offer_cmp x y ≡ Less

-- x is among these offers and before each other one; there is none only where there are no offers
abbrev pub IsFirstOf : List (ℕ × Offer) → Option (ℕ × Offer) → Type 0
IsFirstOf offers None = offers ≡ []
IsFirstOf offers (Some x) = Contains offers x × All (λ y. (y ≡ x) ⊎ IsBefore x y) offers

-- ---- what a file offers

-- the places from first up to, not with, second show so many proofs, and this is the first of their offers, whatever the number
-- of the plot is
pub record AreOffered (l : Layout) (b c : List ℕ) (first second number : ℕ) (best : Option Offer) : Type 0 where
  pub proofs : List (List ℕ)
  pub shown : AreProofsOf l b c first second proofs
  pub counted : number ≡ length proofs
  pub best_is : (plot : ℕ) → IsFirstOf (offers_from c (header_in b).size plot first proofs) (option_map {U = ℕ × Offer} (λ offer. (plot, offer)) best)

-- the bytes open, and so many offers, of which this is the first, are those of a span
pub record HasOffers (b c : List ℕ) (number : ℕ) (best : Option Offer) : Type 0 where
  pub opens : Opens (layout_in b) b
  pub first : ℕ
  pub second : ℕ
  pub span : Span (layout_in b) b c first second
  pub offered : AreOffered (layout_in b) b c first second number best
