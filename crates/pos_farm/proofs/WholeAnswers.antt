-- Over a whole file there is one answer.
use Rattle.std.proofs.Common.{◌≡◌, ℕ, ◌+◌, ◌-◌, ◌<◌, ◌⊎◌, inl, inr, true, false, List, [], length, slice_index_or, Option, Some, None, Result, Ok, IsSome, Contains, option_map, refl, sym, ap, ◌∙◌, subst, arith}
use Rattle.std.proofs.lemmas.Bool.{cases_order, false≢true}
use Rattle.std.proofs.lemmas.List.{ext_get_or}
use Rattle.std.proofs.lemmas.List.Elements.{All-contains}
use Rattle.std.specs.declared.cmp.Ordering.TheVariants.{Less, Greater}
use Rattle.std.specs.Ordering.{ordering_reverse}
use Rattle.pos_tuple.specs.Node.{node}
use Rattle.pos_order.specs.Order.{Turning}
use Rattle.pos_order.proofs.Turnings.{one_turning}
use Rattle.pos_lists.specs.PlotLists.{PlotLists}
use Rattle.pos_layout.specs.declared.damage.Damage.{Damage}
use Rattle.pos_layout.specs.declared.damage.Damage.TheVariants.{NotAProof}
use Rattle.pos_layout.specs.Fields.{header_in, layout_in}
use Rattle.pos_layout.specs.Damages.{opening}
use Rattle.pos_layout.specs.Rules.{Opens, Well}
use Rattle.pos_layout.proofs.FileOpening.{nothing_where_opens}
use Rattle.pos_reader.specs.Spans.{Span}
use Rattle.pos_harvest.specs.Listings.{AreProofsOf}
use Rattle.pos_harvest.specs.ListLaws.{IsFirstWithoutProof}
use Rattle.pos_harvest.specs.Places.{ShowsNoProof, ShowsProof}
use Rattle.pos_harvest.specs.PlotDamage.{IsProveDamage}
use Rattle.pos_harvest.proofs.TupleLemmas.{proof_node}
use Rattle.pos_harvest.proofs.WholeLists.{only_a_place_without_proof}
use Rattle.pos_harvest.proofs.WholeSpans.{one_span, span_is_of_the_list}
use Rattle.pos_farm.specs.declared.offer.Answer.{Answer}
use Rattle.pos_farm.specs.declared.offer.Answer.TheVariants.{Absent, DiskFailed, Damaged, Proofs}
use Rattle.pos_farm.specs.declared.offer.Offer.{Offer}
use Rattle.pos_farm.specs.FarmLaws.{OneAnswer}
use Rattle.pos_farm.specs.Offers.{HasOffers, IsBefore, IsFirstOf, offer_cmp, offers_from}
use Rattle.pos_farm.specs.PlotAnswers.{IsAnswerOf, is_failed}
use Rattle.pos_farm.proofs.OfferLemmas.{offers_total}

-- ---- one proof at a place, or none

same_values : (xs ys : List ℕ) → ◌≡◌ {A = Result (List ℕ) Damage} (Ok xs) (Ok ys) → xs ≡ ys
same_values xs ys e = cc

some_is : {X : Type 0} (o : Option X) (x : X) → o ≡ Some x → IsSome o
some_is o x e = subst IsSome (sym e) refl

one_proof : (b c : List ℕ) (i : ℕ) (xs ys : List ℕ) → ShowsProof (layout_in b) b c i xs → ShowsProof (layout_in b) b c i ys → xs ≡ ys
one_proof b c i xs ys x y =
    let id = (header_in b).id.0 in
    let k = (header_in b).size in
    let same : x.values ≡ y.values = same_values x.values y.values (sym x.read ∙ y.read) in
    let n = proof_node id k c xs x.proof in
    let m = proof_node id k c ys y.proof in
    one_turning id k 6 xs ys y.values (subst (λ vs. Turning 6 xs vs) same x.turned) y.turned
    (some_is (node id k 6 xs) n.0 n.1) (some_is (node id k 6 ys) m.0 m.1)

proof_or_none : (b c : List ℕ) (i : ℕ) (xs : List ℕ) → ShowsProof (layout_in b) b c i xs → ShowsNoProof (layout_in b) b c i → ⊥
proof_or_none b c i xs x y =
    let same : x.values ≡ y.values = same_values x.values y.values (sym x.read ∙ y.read) in
    y.never xs (subst (λ vs. Turning 6 xs vs) same x.turned) x.proof

-- ---- one damage, or offers

never_opens : (b : List ℕ) (d : Damage) → Opens (layout_in b) b → opening (layout_in b) b (length b) ≡ Some d → ⊥
never_opens b d opens finds = let both : ◌≡◌ {A = Option Damage} None (Some d) = sym (nothing_where_opens (layout_in b) b opens) ∙ finds in cc

module _ (b c : List ℕ) (p : PlotLists) (well : Well (layout_in b) b p) where
  one_first : (m n m' n' : ℕ) → Span (layout_in b) b c m n → Span (layout_in b) b c m' n' → (m ≡ m') × (n ≡ n')
  one_first m n m' n' x y =
      let one = one_span b p c well.stores in
      let at = one.2.only m n x in
      let also = one.2.only m' n' y in
      (at.0 ∙ sym also.0, at.1 ∙ sym also.1)

  stops_at : (d : Damage) → IsProveDamage c b d → IsFirstWithoutProof b p c d
  stops_at d (inl finds) = absurd (never_opens b d well.stores.opens finds)
  stops_at d (inr stops) = only_a_place_without_proof b p c d well stops.1

  same_start : (d e : Damage) (x : IsFirstWithoutProof b p c d) (y : IsFirstWithoutProof b p c e) → x.first ≡ y.first
  same_start d e x y =
      (one_first x.first x.second y.first y.second ((span_is_of_the_list b p c x.first x.second well.stores).1 x.span)
      ((span_is_of_the_list b p c y.first y.second well.stores).1 y.span)).0

  -- of two first places without a proof none comes before the other
  not_before : (d e : Damage) (x : IsFirstWithoutProof b p c d) (y : IsFirstWithoutProof b p c e) → x.place < y.place → ⊥
  not_before d e x y less =
      let start = same_start d e x y in
      let low = x.from in
      let shown = y.before x.place (omega arith) less in
      proof_or_none b c x.place shown.0 shown.1 x.never

  one_damage : (d e : Damage) → IsProveDamage c b d → IsProveDamage c b e → d ≡ e
  one_damage d e stops also =
      let x = stops_at d stops in
      let y = stops_at e also in
      elim (cases_order x.place y.place) as (λ _. d ≡ e) [
        | inl same ↦ x.named ∙ ap (λ i. NotAProof i) same ∙ sym y.named
        | inr (inl less) ↦ absurd (not_before d e x y less)
        | inr (inr more) ↦ absurd (not_before e d y x more)
      ]

  never_both : (d : Damage) (number : ℕ) (best : Option Offer) → IsProveDamage c b d → HasOffers b c number best → ⊥
  never_both d number best stops h =
      let x = stops_at d stops in
      let one = one_first x.first x.second h.first h.second ((span_is_of_the_list b p c x.first x.second well.stores).1 x.span) h.span in
      let long = h.offered.shown.as_long in
      let low = x.from in
      let high = x.to in
      let start = one.0 in
      let end = one.1 in
      let inside : x.place - h.first < length h.offered.proofs = omega arith in
      let at : h.first + (x.place - h.first) ≡ x.place = omega arith in
      let proof = slice_index_or h.offered.proofs (x.place - h.first) [] in
      proof_or_none b c x.place proof (subst (λ i. ShowsProof (layout_in b) b c i proof) at (h.offered.shown.each (x.place - h.first) inside)) x.never

  -- ---- one first offer

  same_proofs : (first second m n : ℕ) (proofs others : List (List ℕ)) → first ≡ m → second ≡ n → AreProofsOf (layout_in b) b c first second proofs
      → AreProofsOf (layout_in b) b c m n others → proofs ≡ others
  same_proofs first second m n proofs others start end x y =
      let long = x.as_long in
      let so_long = y.as_long in
      ext_get_or [] proofs others (omega arith) (λ j inside.
      one_proof b c (first + j) _ _ (x.each j inside)
      (subst (λ m. ShowsProof (layout_in b) b c (m + j) (slice_index_or others j [])) (sym start) (y.each j (omega arith))))

less_or_greater : Less ≡ Greater → ⊥
less_or_greater e = cc

never_round : (x y : ℕ × Offer) → IsBefore x y → IsBefore y x → ⊥
never_round x y before after =
    let turned : offer_cmp x y ≡ Greater = offers_total.antisymm x y ∙ ap ordering_reverse after in
    less_or_greater (sym before ∙ turned)

one_of : (x y : ℕ × Offer) → (x ≡ y) ⊎ IsBefore y x → (y ≡ x) ⊎ IsBefore x y → x ≡ y
one_of x y (inl same) other = same
one_of x y (inr before) (inl same) = sym same
one_of x y (inr before) (inr after) = absurd (never_round x y after before)

some_of : (plot : ℕ) (x y : Offer) → ◌≡◌ {A = ℕ × Offer} (plot, x) (plot, y) → x ≡ y
some_of plot x y same = ap (λ (z : ℕ × Offer). z.1) same

contained : {X : Type 0} (xs : List X) (x : X) → xs ≡ [] → Contains xs x → ⊥
contained xs x none at = let l : at.0 < 0 = subst (λ ys. at.0 < length ys) none at.1 in absurd (omega arith)

one_first_offer : (offers : List (ℕ × Offer)) (x y : Option Offer) → IsFirstOf offers (option_map {U = ℕ × Offer} (λ o. (0, o)) x)
    → IsFirstOf offers (option_map {U = ℕ × Offer} (λ o. (0, o)) y) → x ≡ y
one_first_offer offers None None none also = refl
one_first_offer offers None (Some y) none first = absurd (contained offers (0, y) none first.0)
one_first_offer offers (Some x) None first none = absurd (contained offers (0, x) none first.0)
one_first_offer offers (Some x) (Some y) first also =
    ap (λ o. Some o) (some_of 0 x y
    (one_of (0, x) (0, y)
    (All-contains (λ z. (z ≡ (0, y)) ⊎ IsBefore (0, y) z) offers (0, x) also.1 first.0)
    (All-contains (λ z. (z ≡ (0, x)) ⊎ IsBefore (0, x) z) offers (0, y) first.1 also.0)))

same_offers : (b c : List ℕ) (p : PlotLists) → Well (layout_in b) b p → (m n : ℕ) (x y : Option Offer) → HasOffers b c m x → HasOffers b c n y → Proofs m x ≡ Proofs n y
same_offers b c p well m n x y h g =
    let k = (header_in b).size in
    let one = one_first b c p well h.first h.second g.first g.second h.span g.span in
    let same = same_proofs b c p well h.first h.second g.first g.second h.offered.proofs g.offered.proofs one.0 one.1 h.offered.shown g.offered.shown in
    let count : m ≡ n = h.offered.counted ∙ ap length same ∙ sym g.offered.counted in
    let all : offers_from c k 0 h.first h.offered.proofs ≡ offers_from c k 0 g.first g.offered.proofs =
    ap (λ first. offers_from c k 0 first h.offered.proofs) one.0 ∙ ap (λ proofs. offers_from c k 0 g.first proofs) same in
    let best : x ≡ y =
    one_first_offer (offers_from c k 0 g.first g.offered.proofs) x y
    (subst (λ offers. IsFirstOf offers (option_map {U = ℕ × Offer} (λ o. (0, o)) x)) all (h.offered.best_is 0)) (g.offered.best_is 0) in
    ap (λ n. Proofs n x) count ∙ ap (λ best. Proofs n best) best

-- ---- one answer

one_bytes : (b b' : List ℕ) → ◌≡◌ {A = Option (List ℕ)} (Some b) (Some b') → b' ≡ b
one_bytes b b' same = cc

-- what an answer that is no failure says of the bytes
abbrev SaysOf : List ℕ → List ℕ → Answer → Type 0
SaysOf b c Absent = ⊥
SaysOf b c DiskFailed = ⊥
SaysOf b c (Damaged d) = IsProveDamage c b d
SaysOf b c (Proofs number best) = HasOffers b c number best

says_of : (b c : List ℕ) (answer : Answer) → IsAnswerOf true (Some b) c answer → is_failed answer ≡ false → SaysOf b c answer
says_of b c Absent right well = (let same : ◌≡◌ {A = Option (List ℕ)} (Some b) None = right in cc)
says_of b c DiskFailed right well = absurd (false≢true (sym well))
says_of b c (Damaged d) right well = let told = right refl in subst (λ b. IsProveDamage c b d) (one_bytes b told.0 told.1) told.2
says_of b c (Proofs number best) right well = let told = right refl in subst (λ b. HasOffers b c number best) (one_bytes b told.0 told.1) told.2

one_said : (b c : List ℕ) (p : PlotLists) → Well (layout_in b) b p → (x y : Answer) → SaysOf b c x → SaysOf b c y → x ≡ y
one_said b c p well Absent y says also = absurd says
one_said b c p well DiskFailed y says also = absurd says
one_said b c p well (Damaged d) Absent says also = absurd also
one_said b c p well (Damaged d) DiskFailed says also = absurd also
one_said b c p well (Damaged d) (Damaged e) says also = ap (λ d. Damaged d) (one_damage b c p well d e says also)
one_said b c p well (Damaged d) (Proofs number best) says also = absurd (never_both b c p well d number best says also)
one_said b c p well (Proofs number best) Absent says also = absurd also
one_said b c p well (Proofs number best) DiskFailed says also = absurd also
one_said b c p well (Proofs number best) (Damaged e) says also = absurd (never_both b c p well e number best also says)
one_said b c p well (Proofs m x) (Proofs n y) says also = same_offers b c p well m n x y says also

pub one_answer : OneAnswer
one_answer b c p x y well right also went went_too = one_said b c p well x y (says_of b c x right went) (says_of b c y also went_too)
