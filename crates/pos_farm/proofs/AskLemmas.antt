-- The offers of an open plot, a place after another, and what they say of the file of the plot's name.
use Rattle.std.proofs.Common.{◌≡◌, ℕ, ◌+◌, ◌-◌, ◌<◌, ◌≤◌, inl, inr, Bool, true, false, if◌then◌else◌, List, [], ◌∷◌, ◌++◌, length, slice_index_or, Option, Some, None, Err, option_map, refl, sym, ap, ◌∙◌, subst, arith}
use Rattle.std.proofs.lemmas.Bool.{cases_lt}
use Rattle.std.proofs.lemmas.List.{get_or_push, get_or_append_left, length_push}
use Rattle.pos_edge.specs.Frame.{ChangesOnly, Nothing}
use Rattle.pos_edge.specs.View.{View}
use Rattle.pos_layout.specs.declared.damage.Damage.{Damage}
use Rattle.pos_layout.specs.Fields.{header_in, layout_in}
use Rattle.pos_layout.specs.Rules.{Opens}
use Rattle.pos_reader.proofs.AnswerLemmas.{layout_said}
use Rattle.pos_reader.specs.Plots.{IsPlotFile, PlotState}
use Rattle.pos_reader.specs.Readings.{IsPlotOpened}
use Rattle.pos_harvest.specs.Listings.{AreProofsOf, StopsListing}
use Rattle.pos_harvest.specs.Places.{AnswersProof, FailsAsProof, ShowsProof}
use Rattle.pos_layout.specs.declared.layout.Layout.{Layout}
use Rattle.pos_reader.specs.declared.refusal.ReadRefusal.{ReadRefusal}
use Rattle.pos_reader.specs.declared.refusal.ReadRefusal.TheVariants.{Damage as Found}
use Rattle.pos_farm.specs.declared.offer.Answer.{Answer}
use Rattle.pos_farm.specs.declared.offer.Answer.TheVariants.{Absent, DiskFailed, Damaged, Proofs}
use Rattle.pos_farm.specs.declared.offer.Offer.{Offer}
use Rattle.pos_farm.specs.Offers.{AreOffered, IsFirstOf, offer_of, offers_from}
use Rattle.pos_farm.specs.PlotAnswers.{IsPlotAnswer, IsTrueOffer}
use Rattle.pos_farm.specs.Steps.{IsOfferAt, IsOpenAnswer, OffersTrulyAt, first_or, is_no_worse}
use Rattle.pos_farm.proofs.OfferLemmas.{all_earlier, first_more, numbered_first, offers-push}

-- ---- places

pub offered_none : (b c : List ℕ) (first : ℕ) → AreOffered (layout_in b) b c first first (first - first) None
offered_none b c first = record {
  proofs = [];
  shown = record { as_long = omega arith; each = λ j inside. absurd (omega arith) };
  counted = omega arith;
  best_is = λ plot. refl;
}

shown_more : (b c : List ℕ) (first place : ℕ) (proofs : List (List ℕ)) (xs : List ℕ) → first ≤ place
    → AreProofsOf (layout_in b) b c first place proofs → ShowsProof (layout_in b) b c place xs
    → AreProofsOf (layout_in b) b c first (place + 1) (proofs ++ xs ∷ [])
shown_more b c first place proofs xs from h shows =
    let long = h.as_long in
    let len = length_push proofs xs in
    record {
      as_long = omega arith;
      each = λ j inside.
          elim (cases_lt j (length proofs)) as (λ _. ShowsProof (layout_in b) b c (first + j) (slice_index_or (proofs ++ xs ∷ []) j [])) [
            | inl less ↦ subst (λ y. ShowsProof (layout_in b) b c (first + j) y) (sym (get_or_append_left proofs (xs ∷ []) [] j less)) (h.each j less)
            | inr more ↦
                let same : j ≡ length proofs = omega arith in
                let at : place ≡ first + j = omega arith in
                subst (λ y. ShowsProof (layout_in b) b c (first + j) y) (sym (get_or_push proofs xs [] j (sym same)))
                (subst (λ i. ShowsProof (layout_in b) b c i xs) at shows)
          ];
    }

pub offered_more : (b c : List ℕ) (first place : ℕ) (best : Option Offer) (offer : Offer) → first ≤ place
    → AreOffered (layout_in b) b c first place (place - first) best → IsOfferAt b c place offer
    → AreOffered (layout_in b) b c first (place + 1) (place + 1 - first) (Some (first_or best offer))
offered_more b c first place best offer from h at =
    let long = h.shown.as_long in
    let len = length_push h.proofs offer.proof in
    let stands : first + length h.proofs ≡ place = omega arith in
    let k = (header_in b).size in
    record {
      proofs = h.proofs ++ offer.proof ∷ [];
      shown = shown_more b c first place h.proofs offer.proof from h.shown at.shown;
      counted = omega arith;
      best_is = λ plot.
          let here : offer_of c k (first + length h.proofs) offer.proof ≡ offer = ap (λ i. offer_of c k i offer.proof) stands ∙ sym at.is in
          let there : offer.place ≡ place = ap (λ o. o.place) at.is in
          let all : offers_from c k plot first (h.proofs ++ offer.proof ∷ []) ≡ offers_from c k plot first h.proofs ++ (plot, offer) ∷ [] =
          offers-push c k plot first h.proofs offer.proof ∙ ap (λ o. offers_from c k plot first h.proofs ++ (plot, o) ∷ []) here in
          subst (λ offers. IsFirstOf offers (option_map {U = ℕ × Offer} (λ o. (plot, o)) (Some (first_or best offer)))) (sym all)
          (subst (λ kept. IsFirstOf (offers_from c k plot first h.proofs ++ (plot, offer) ∷ []) kept) (numbered_first plot best offer)
          (first_more (offers_from c k plot first h.proofs) (option_map {U = ℕ × Offer} (λ o. (plot, o)) best) (plot, offer)
          (all_earlier c k plot first place h.proofs offer (omega arith) there) (h.best_is plot)));
    }

-- the first place that shows no proof
pub offers_stop : (b c : List ℕ) (first place second number : ℕ) (best : Option Offer) (d : Damage) → first ≤ place → place < second
    → AreOffered (layout_in b) b c first place number best → FailsAsProof (layout_in b) b c place d → StopsListing (layout_in b) b c first second d
offers_stop b c first place second number best d from to h fails = record {
  place = place;
  from = from;
  to = to;
  before = λ i low high.
      let l = h.shown.as_long in
      let inside : i - first < length h.proofs = omega arith in
      let at : first + (i - first) ≡ i = omega arith in
      (slice_index_or h.proofs (i - first) [], subst (λ m. ShowsProof (layout_in b) b c m (slice_index_or h.proofs (i - first) [])) at (h.shown.each (i - first) inside));
  here = fails;
}

pub truly_more : (c : List ℕ) (best : Option Offer) (offer : Offer) → OffersTrulyAt c best → IsTrueOffer c offer → IsTrueOffer c (first_or best offer)
truly_more c None offer all one = one
truly_more c (Some kept) offer all one = either (is_no_worse kept offer)
  where
    either : (no_worse : Bool) → IsTrueOffer c (if no_worse then kept else offer)
    either true = all
    either false = one

-- ---- the file of a name

-- what an open plot's file holds opens in its own layout
pub opens_in : (b : List ℕ) (p : PlotState) (view : View) → IsPlotFile p b view → Opens (layout_in b) b
opens_in b p view holds = subst (λ l. Opens l b) (layout_said p.header b holds.header) holds.opens

pub opened_answer : (name c : List ℕ) (p : PlotState) (old new : View) (answer : Answer) → IsPlotOpened name p old new → IsOpenAnswer p c new answer
    → IsPlotAnswer name c old answer
opened_answer name c p old new Absent opened right = absurd right
opened_answer name c p old new DiskFailed opened right = tt
opened_answer name c p old new (Damaged d) opened right = λ tells.
    let h = opened.holds tells in
    (h.0, h.1, inr (opens_in h.0 p new h.2, right h.0 h.2))
opened_answer name c p old new (Proofs number best) opened right = λ tells.
    let h = opened.holds tells in
    (h.0, h.1, right h.0 h.2)

-- what was so before calls that changed no file
pub answer_before : (name c : List ℕ) (old new : View) (answer : Answer) → ChangesOnly Nothing Nothing old new → IsPlotAnswer name c new answer → IsPlotAnswer name c old answer
answer_before name c old new Absent kept right = sym (kept.contents name (λ x. x)) ∙ right
answer_before name c old new DiskFailed kept right = tt
answer_before name c old new (Damaged d) kept right = λ tells.
    let h = right (kept.tells ∙ tells) in
    (h.0, sym (kept.contents name (λ x. x)) ∙ h.1, h.2)
answer_before name c old new (Proofs number best) kept right = λ tells.
    let h = right (kept.tells ∙ tells) in
    (h.0, sym (kept.contents name (λ x. x)) ∙ h.1, h.2)

-- the damage of a place, by its refusal
pub fails_there : (l : Layout) (b c : List ℕ) (place : ℕ) (refusal : ReadRefusal) (d : Damage) → refusal ≡ Found d → AnswersProof l b c place (Err refusal)
    → FailsAsProof l b c place d
fails_there l b c place refusal d is answers = let P : ReadRefusal → Type 0 = λ r. AnswersProof l b c place (Err r) in subst P is answers
