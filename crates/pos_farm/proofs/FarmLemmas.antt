-- Answers of several plots, one after another, and the first of their offers.
use Rattle.std.proofs.Common.{◌≡◌, ℕ, suc, cond, ◌+◌, ◌-◌, ◌^◌, ◌<◌, ◌≤◌, ◌⊎◌, inl, inr, min, Bool, true, false, All, Contains, List, [], ◌∷◌, ◌++◌, length, map, take, slice_index_or, String, Global, string_bytes, Option, Some, None, option_map, refl, sym, ap, ◌∙◌, subst, arith}
use Rattle.std.proofs.lemmas.Bool.{cases_lt}
use Rattle.std.proofs.lemmas.List.{append-nil, append_assoc, get_or_push, get_or-map, get_or_append_left, length-take-le, length_push, take_more}
use Rattle.std.proofs.lemmas.List.Elements.{All-append, All-cons, All-contains, All-contains_itself, All-nil, All-weaker, Contains-append_cases, Contains-append_left, Contains-append_right}
use Rattle.std.proofs.lemmas.List.Sums.{sum_by_push}
use Rattle.pos_edge.specs.Faults.{RoseBy}
use Rattle.pos_edge.specs.Frame.{ChangesOnly, Nothing, SameFaults}
use Rattle.pos_edge.proofs.Frames.{frame_then}
use Rattle.pos_edge.specs.View.{View}
use Rattle.pos_farm.specs.declared.offer.Answer.{Answer}
use Rattle.pos_farm.specs.declared.offer.Answer.TheVariants.{Absent}
use Rattle.pos_farm.specs.declared.offer.Offer.{Offer}
use Rattle.pos_farm.specs.FarmLaws.{AreBestsOf, BestIsOfAllOffers, all_offers}
use Rattle.pos_farm.specs.Offers.{IsBefore, IsFirstOf}
use Rattle.pos_farm.specs.PlotAnswers.{CountsFailure, IsPlotAnswer, best_in, bests_from, failures, is_failed, numbered}
use Rattle.pos_farm.specs.Steps.{best_or}
use Rattle.pos_farm.proofs.OfferLemmas.{IsEarlier, earlier_plot, first_more, offers_total}

-- ---- one answer more

pub answers_more : (names : List (List ℕ)) (c : List ℕ) (disk : View) (answers : List Answer) (answer : Answer)
    → ((j : ℕ) → j < length answers → IsPlotAnswer (slice_index_or names j []) c disk (slice_index_or answers j Absent))
    → IsPlotAnswer (slice_index_or names (length answers) []) c disk answer
    → (j : ℕ) → j < length (answers ++ answer ∷ []) → IsPlotAnswer (slice_index_or names j []) c disk (slice_index_or (answers ++ answer ∷ []) j Absent)
answers_more names c disk answers answer each here j inside =
    let len = length_push answers answer in
    elim (cases_lt j (length answers)) as (λ _. IsPlotAnswer (slice_index_or names j []) c disk (slice_index_or (answers ++ answer ∷ []) j Absent)) [
      | inl less ↦ subst (λ y. IsPlotAnswer (slice_index_or names j []) c disk y) (sym (get_or_append_left answers (answer ∷ []) Absent j less)) (each j less)
      | inr more ↦
          let same : length answers ≡ j = omega arith in
          subst (λ y. IsPlotAnswer (slice_index_or names j []) c disk y) (sym (get_or_push answers answer Absent j same))
          (subst (λ i. IsPlotAnswer (slice_index_or names i []) c disk answer) same here)
    ]

failures-push : (answers : List Answer) (answer : Answer) → failures (answers ++ answer ∷ []) ≡ failures answers + cond (is_failed answer) 1 0
failures-push answers answer = sum_by_push (λ x. cond (is_failed x) 1 0) answers answer

rose_by : (n m a b c : ℕ) → RoseBy n a b → min (b + 1) (2 ^ 64 - 1) ≤ c → m ≡ n + 1 → RoseBy m a c
rose_by n m a b c far step more = omega arith

rose_still : (n m a b c : ℕ) → RoseBy n a b → c ≡ b → m ≡ n + 0 → RoseBy m a c
rose_still n m a b c far same still = omega arith

pub rose_more : (answers : List Answer) (answer : Answer) (u v w : View) → RoseBy (failures answers) u.faults v.faults → CountsFailure answer v w
    → RoseBy (failures (answers ++ answer ∷ [])) u.faults w.faults
rose_more answers answer u v w far step = by (is_failed answer) refl
  where
    by : (failed : Bool) → is_failed answer ≡ failed → RoseBy (failures (answers ++ answer ∷ [])) u.faults w.faults
    by true is = rose_by (failures answers) _ u.faults v.faults w.faults far (step.failed is) (failures-push answers answer ∙ ap (λ b. failures answers + cond b 1 0) is)
    by false is = rose_still (failures answers) _ u.faults v.faults w.faults far (step.quiet is) (failures-push answers answer ∙ ap (λ b. failures answers + cond b 1 0) is)

pub quiet_more : (answers : List Answer) (answer : Answer) (u v w : View) → (failures answers ≡ 0 → SameFaults u v) → CountsFailure answer v w
    → failures (answers ++ answer ∷ []) ≡ 0 → SameFaults u w
quiet_more answers answer u v w far step none = by (is_failed answer) refl
  where
    by : (failed : Bool) → is_failed answer ≡ failed → SameFaults u w
    by true is =
        let more : failures (answers ++ answer ∷ []) ≡ failures answers + 1 = failures-push answers answer ∙ ap (λ b. failures answers + cond b 1 0) is in
        absurd (omega (arith, more, none))
    by false is =
        let more : failures (answers ++ answer ∷ []) ≡ failures answers + 0 = failures-push answers answer ∙ ap (λ b. failures answers + cond b 1 0) is in
        step.quiet is ∙ far (omega (arith, more, none))

-- ---- the best of the answers

bests-push : (plot : ℕ) (answers : List Answer) (answer : Answer)
    → bests_from plot (answers ++ answer ∷ []) ≡ bests_from plot answers ++ numbered (plot + length answers) (best_in answer)
bests-push plot [] answer = append-nil (numbered plot (best_in answer)) ∙ ap (λ n. numbered n (best_in answer)) (omega arith)
bests-push plot (first ∷ answers) answer =
    let at : suc plot + length answers ≡ plot + length (first ∷ answers) = omega arith in
    ap (λ more. numbered plot (best_in first) ++ more) (bests-push (suc plot) answers answer ∙ ap (λ n. bests_from (suc plot) answers ++ numbered n (best_in answer)) at)
    ∙ sym (append_assoc (numbered plot (best_in first)) (bests_from (suc plot) answers) (numbered (plot + length (first ∷ answers)) (best_in answer)))

numbered_earlier : (plot at : ℕ) (kept : Option Offer) (offer : Offer) → plot < at → All (λ y. IsEarlier y (at, offer)) (numbered plot kept)
numbered_earlier plot at None offer less = All-nil (λ y. IsEarlier y (at, offer))
numbered_earlier plot at (Some kept) offer less =
    All-cons (λ y. IsEarlier y (at, offer)) (plot, kept) [] (earlier_plot plot at kept offer less) (All-nil (λ y. IsEarlier y (at, offer)))

bests_earlier : (plot at : ℕ) (answers : List Answer) (offer : Offer) → plot + length answers ≤ at → All (λ y. IsEarlier y (at, offer)) (bests_from plot answers)
bests_earlier plot at [] offer far = All-nil (λ y. IsEarlier y (at, offer))
bests_earlier plot at (answer ∷ answers) offer far =
    All-append (λ y. IsEarlier y (at, offer)) (numbered plot (best_in answer)) (bests_from (suc plot) answers)
    (numbered_earlier plot at (best_in answer) offer (omega arith)) (bests_earlier (suc plot) at answers offer (omega arith))

with_offer : (answers : List Answer) (best : Option (ℕ × Offer)) (offered : Option Offer) → IsFirstOf (bests_from 0 answers) best
    → IsFirstOf (bests_from 0 answers ++ numbered (0 + length answers) offered) (best_or best (length answers) offered)
with_offer answers best None first = subst (λ offers. IsFirstOf offers best) (sym (append-nil (bests_from 0 answers))) first
with_offer answers best (Some offer) first =
    let at : length answers ≡ 0 + length answers = omega arith in
    subst (λ n. IsFirstOf (bests_from 0 answers ++ (n, offer) ∷ []) (best_or best (length answers) (Some offer))) at
    (first_more (bests_from 0 answers) best (length answers, offer) (bests_earlier 0 (length answers) answers offer (omega arith)) first)

pub best_more : (answers : List Answer) (best : Option (ℕ × Offer)) (answer : Answer) → IsFirstOf (bests_from 0 answers) best
    → IsFirstOf (bests_from 0 (answers ++ answer ∷ [])) (best_or best (length answers) (best_in answer))
best_more answers best answer first =
    subst (λ offers. IsFirstOf offers (best_or best (length answers) (best_in answer))) (sym (bests-push 0 answers answer))
    (with_offer answers best (best_in answer) first)

pub best_taken : (answers : List Answer) (i : ℕ) (best result : Option (ℕ × Offer)) (answer : Answer) (offered : Option Offer) → i < length answers
    → answer ≡ slice_index_or answers i answer → offered ≡ best_in answer → result ≡ best_or best i offered
    → IsFirstOf (bests_from 0 (take i answers)) best → IsFirstOf (bests_from 0 (take (i + 1) answers)) result
best_taken answers i best result answer offered inside at its is first =
    let long : length (take i answers) ≡ i = length-take-le i answers (omega arith) in
    let all : take (i + 1) answers ≡ take i answers ++ answer ∷ [] = take_more answers i answer inside ∙ ap (λ a. take i answers ++ a ∷ []) (sym at) in
    let so : result ≡ best_or best (length (take i answers)) (best_in answer) =
    is ∙ ap (λ o. best_or best i o) its ∙ ap (λ n. best_or best n (best_in answer)) (sym long) in
    subst (λ taken. IsFirstOf (bests_from 0 taken) result) (sym all)
    (subst (λ r. IsFirstOf (bests_from 0 (take i answers ++ answer ∷ [])) r) (sym so) (best_more (take i answers) best answer first))

-- ---- the first of the plots' first offers

abbrev IsLedBy : List (ℕ × Offer) → ℕ × Offer → Type 0
IsLedBy bests y = (x : ℕ × Offer) × Contains bests x × ((y ≡ x) ⊎ IsBefore x y)

nothing_in : {X : Type 0} (x : X) → Contains [] x → ⊥
nothing_in x at = let l : at.0 < 0 = at.1 in absurd (omega arith)

led_here : (plot : ℕ) (offers : List (ℕ × Offer)) (o : Option Offer) → IsFirstOf offers (option_map {U = ℕ × Offer} (λ offer. (plot, offer)) o)
    → (y : ℕ × Offer) → Contains offers y → IsLedBy (numbered plot o) y
led_here plot offers None none y at = absurd (nothing_in y (subst (λ offers. Contains offers y) none at))
led_here plot offers (Some o) first y at =
    ((plot, o), (0, omega arith, refl), All-contains (λ y. (y ≡ (plot, o)) ⊎ IsBefore (plot, o) y) offers y first.1 at)

led : (plot : ℕ) (answers : List Answer) (lists : List (List (ℕ × Offer))) → AreBestsOf plot answers lists
    → (y : ℕ × Offer) → Contains (all_offers lists) y → IsLedBy (bests_from plot answers) y
led plot [] [] are y at = absurd (nothing_in y at)
led plot [] (offers ∷ lists) are y at = absurd are
led plot (answer ∷ answers) [] are y at = absurd are
led plot (answer ∷ answers) (offers ∷ lists) are y at =
    elim (Contains-append_cases offers (all_offers lists) y at) as (λ _. IsLedBy (bests_from plot (answer ∷ answers)) y) [
      | inl here ↦
          let h = led_here plot offers (best_in answer) are.0 y here in
          (h.0, Contains-append_left (numbered plot (best_in answer)) (bests_from (suc plot) answers) h.0 h.1, h.2)
      | inr later ↦
          let h = led (suc plot) answers lists are.1 y later in
          (h.0, Contains-append_right (numbered plot (best_in answer)) (bests_from (suc plot) answers) h.0 h.1, h.2)
    ]

among_here : (plot : ℕ) (offers : List (ℕ × Offer)) (o : Option Offer) → IsFirstOf offers (option_map {U = ℕ × Offer} (λ offer. (plot, offer)) o)
    → (x : ℕ × Offer) → Contains (numbered plot o) x → Contains offers x
among_here plot offers None none x at = absurd (nothing_in x at)
among_here plot offers (Some o) first x at =
    let same : x ≡ (plot, o) = All-contains (λ y. y ≡ (plot, o)) ((plot, o) ∷ []) x (All-cons (λ y. y ≡ (plot, o)) (plot, o) [] refl (All-nil (λ y. y ≡ (plot, o)))) at in
    subst (λ y. Contains offers y) (sym same) first.0

among : (plot : ℕ) (answers : List Answer) (lists : List (List (ℕ × Offer))) → AreBestsOf plot answers lists
    → (x : ℕ × Offer) → Contains (bests_from plot answers) x → Contains (all_offers lists) x
among plot [] [] are x at = at
among plot [] (offers ∷ lists) are x at = absurd are
among plot (answer ∷ answers) [] are x at = absurd are
among plot (answer ∷ answers) (offers ∷ lists) are x at =
    elim (Contains-append_cases (numbered plot (best_in answer)) (bests_from (suc plot) answers) x at) as (λ _. Contains (all_offers (offers ∷ lists)) x) [
      | inl here ↦ Contains-append_left offers (all_offers lists) x (among_here plot offers (best_in answer) are.0 x here)
      | inr later ↦ Contains-append_right offers (all_offers lists) x (among (suc plot) answers lists are.1 x later)
    ]

-- what is before an offer that leads another is before that, too
before_led : (x z y : ℕ × Offer) → (z ≡ x) ⊎ IsBefore x z → (y ≡ z) ⊎ IsBefore z y → (y ≡ x) ⊎ IsBefore x y
before_led x z y (inl same) (inl is) = inl (is ∙ same)
before_led x z y (inl same) (inr later) = inr (subst (λ z. IsBefore z y) same later)
before_led x z y (inr before) (inl is) = inr (subst (λ y. IsBefore x y) (sym is) before)
before_led x z y (inr before) (inr later) = inr (offers_total.trans x z y before later)

empty : {X : Type 0} (xs : List X) → ((x : X) → Contains xs x → ⊥) → xs ≡ []
empty [] none = refl
empty (x ∷ xs) none = absurd (none x (0, omega arith, refl))

pub best_is_of_all_offers : BestIsOfAllOffers
best_is_of_all_offers plot answers lists None are none =
    empty (all_offers lists) (λ y at.
    let h = led plot answers lists are y at in
    nothing_in h.0 (subst (λ bests. Contains bests h.0) none h.1))
best_is_of_all_offers plot answers lists (Some x) are first = (
  among plot answers lists are x first.0,
  All-weaker (Contains (all_offers lists)) (λ y. (y ≡ x) ⊎ IsBefore x y) (λ y at.
      let h = led plot answers lists are y at in
      before_led x h.0 y (All-contains (λ z. (z ≡ x) ⊎ IsBefore x z) (bests_from plot answers) h.0 first.1 h.1) h.2)
      (all_offers lists) (All-contains_itself (all_offers lists)),
)

-- ---- the plot whose turn it is

pub name_at : (names : List (String Global)) (i many : ℕ) (name : String Global) → i < length names → many ≡ i → name ≡ slice_index_or names i name
    → slice_index_or (map (string_bytes {Z = Global}) names) many [] ≡ string_bytes name
name_at names i many name inside count at =
    ap (λ n. slice_index_or (map (string_bytes {Z = Global}) names) n []) count ∙ get_or-map (string_bytes {Z = Global}) names i name [] inside ∙ ap (string_bytes {Z = Global}) (sym at)

pub both_kept : (u v w : View) → ChangesOnly Nothing Nothing u v → ChangesOnly Nothing Nothing v w → ChangesOnly Nothing Nothing u w
both_kept u v w = frame_then Nothing Nothing Nothing Nothing Nothing Nothing u v w (λ x k. k) (λ x k. k) (λ f l k. k) (λ f l k. k)
