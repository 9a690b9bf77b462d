-- What is proved of answers: over a whole file there is one, whatever the other files are, and the best of the bests of plots
-- is the first of all their offers.
-- Source: this project's own. Plots count from 0.
use Rattle.std.specs.Prelude.{◌≡◌, ℕ, suc, false, true, List, [], ◌∷◌, ◌++◌, Option, Some, option_map}
use Rattle.pos_lists.specs.PlotLists.{PlotLists}
use Rattle.pos_layout.specs.Fields.{layout_in}
use Rattle.pos_layout.specs.Rules.{Well}
use Rattle.pos_farm.specs.declared.offer.Answer.{Answer}
use Rattle.pos_farm.specs.declared.offer.Offer.{Offer}
use Rattle.pos_farm.specs.Offers.{IsFirstOf}
use Rattle.pos_farm.specs.PlotAnswers.{IsAnswerOf, best_in, bests_from, is_failed}

-- Where a disk tells that a file holds these bytes, which are whole, two right answers that are no failure are one, whatever the
-- file's name is and what else the disk holds.
abbrev pub OneAnswer : Type 0
OneAnswer = (b c : List ℕ) (p : PlotLists) (x y : Answer) → Well (layout_in b) b p → IsAnswerOf true (Some b) c x → IsAnswerOf true (Some b) c y →
    is_failed x ≡ false → is_failed y ≡ false → x ≡ y

-- for each answer, of which the first has this number, all offers of its plot, of which it names the first
abbrev pub AreBestsOf : ℕ → List Answer → List (List (ℕ × Offer)) → Type 0
AreBestsOf plot [] [] = Unit {0}
AreBestsOf plot [] (offers ∷ lists) = ⊥
AreBestsOf plot (answer ∷ answers) [] = ⊥
AreBestsOf plot (answer ∷ answers) (offers ∷ lists) =
    IsFirstOf offers (option_map {U = ℕ × Offer} (λ offer. (plot, offer)) (best_in answer)) × AreBestsOf (suc plot) answers lists

abbrev pub all_offers : List (List (ℕ × Offer)) → List (ℕ × Offer)
all_offers [] = []
all_offers (offers ∷ lists) = offers ++ all_offers lists

-- the first of the plots' first offers is the first of all offers
abbrev pub BestIsOfAllOffers : Type 0
BestIsOfAllOffers = (plot : ℕ) (answers : List Answer) (lists : List (List (ℕ × Offer))) (best : Option (ℕ × Offer)) →
    AreBestsOf plot answers lists → IsFirstOf (bests_from plot answers) best → IsFirstOf (all_offers lists) best
