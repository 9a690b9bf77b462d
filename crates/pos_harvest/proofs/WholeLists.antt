-- Over a whole file the places of a span show the plot's trees, and over the plot of an id the lists are its proofs and their
-- qualities.
use Rattle.std.proofs.Common.{◌≡◌, ℕ, ◌+◌, ◌-◌, ◌^◌, ◌<◌, ◌≤◌, ⊎_elim, inl, inr, List, [], length, map, Result, Ok, Err, sym, ap, ◌∙◌, subst, arith}
use Rattle.std.specs.Prelude.{slice_index_or}
use Rattle.std.proofs.lemmas.List.{ext_get_or, get_or-map, length-map}
use Rattle.pos_tuple.specs.Proof.{Proof}
use Rattle.pos_order.specs.Order.{plot_order, Turning}
use Rattle.pos_order.specs.Quality.{pair_quality, quality_index, quality_of}
use Rattle.pos_order.proofs.PlotOrderLemmas.{plot_order-turning}
use Rattle.pos_lists.specs.PlotLists.{PlotLists, count, number_at, place_in}
use Rattle.pos_lists.specs.Trees.{tree, branch}
use Rattle.pos_lists.specs.Walk.{walk_from, limb_from}
use Rattle.pos_laws.specs.Listing.{listing, AreTurned, IsSpan}
use Rattle.pos_laws.specs.PlotOf.{PlotOf}
use Rattle.pos_laws.proofs.AnyFile.{trees_have_their_length, trees_are_plot_ordered}
use Rattle.pos_laws.proofs.Branches.{branch_gives_the_quality}
use Rattle.pos_laws.proofs.Listed.{listing_turns, turned_listing_is_the_list, one_list}
use Rattle.pos_laws.proofs.ListThere.{list_is_there}
use Rattle.pos_laws.proofs.Qualities.{pairs_give_the_qualities}
use Rattle.pos_laws.proofs.Spans.{listing_by_span, pairs_by_span, span_is_ordered}
use Rattle.pos_laws.proofs.WalkedTrees.{walk_from_the_top, limb_from_the_top}
use Rattle.pos_layout.specs.declared.damage.Damage.{Damage}
use Rattle.pos_layout.specs.declared.damage.Damage.TheVariants.{NotAProof}
use Rattle.pos_layout.specs.Fields.{header_in, layout_in}
use Rattle.pos_layout.specs.Reading.{num, then_read}
use Rattle.pos_layout.specs.Rules.{Well}
use Rattle.pos_layout.proofs.StoredLemmas.{shown_lists}
use Rattle.pos_reader.specs.Spans.{Span}
use Rattle.pos_harvest.specs.ListLaws.{TupleIsTheTree, QualityIsOfTheBranch, QualityIsOfTheProof, ListedAreTheProofs, ListedAreTheQualities, EachPlaceHasAProof, EachPlaceHasAQuality, OnlyAPlaceWithoutProof}
use Rattle.pos_harvest.specs.Listings.{ListsProofs}
use Rattle.pos_harvest.specs.Places.{tuple_at, quality_in, ShowsProof, ShowsNoProof}
use Rattle.pos_harvest.proofs.WholeSpans.{never_both, span_is_of_the_list, no_last_damage}

ok_list : (xs ys : List ℕ) → ◌≡◌ {A = Result (List ℕ) Damage} (Ok xs) (Ok ys) → xs ≡ ys
ok_list xs ys e = cc

-- ---- a place

pub tuple_is_the_tree : TupleIsTheTree
unfolding tuple_at
tuple_is_the_tree b p i well inside =
    let shown = shown_lists (layout_in b) b p well in
    ap (λ k. walk_from (num (layout_in b) b) k i) (sym well.stores.size) ∙ walk_from_the_top (num (layout_in b) b) p i shown.in_range shown.reads inside

pub quality_is_of_the_branch : QualityIsOfTheBranch
unfolding quality_in
quality_is_of_the_branch b p c i well inside =
    let shown = shown_lists (layout_in b) b p well in
    let said : ℕ → Result (ℕ × ℕ) Damage → Result (List ℕ) Damage = λ k r. then_read r (λ (pair : ℕ × ℕ). Ok (pair_quality k c pair.0 pair.1)) in
    ap (λ k. said k (limb_from (num (layout_in b) b) k (quality_index c) i)) (sym well.stores.size)
    ∙ ap (said p.k) (limb_from_the_top (num (layout_in b) b) p (quality_index c) i shown.in_range shown.reads inside)

-- the proof of a place has the place's tree as its plot order
proof_ordered : (b : List ℕ) (p : PlotLists) (c : List ℕ) (i : ℕ) (xs : List ℕ) → Well (layout_in b) b p → i < count p 7 → ShowsProof (layout_in b) b c i xs
    → tree p 6 (place_in p.k (number_at p 7 i)) ≡ plot_order 6 xs
proof_ordered b p c i xs well inside shows =
    let shown = shown_lists (layout_in b) b p well in
    let t = tree p 6 (place_in p.k (number_at p 7 i)) in
    let same : shows.values ≡ t = ok_list _ _ (sym shows.read ∙ tuple_is_the_tree b p i well inside) in
    let turned : Turning 6 xs t = subst (λ v. Turning 6 xs v) same shows.turned in
    sym (plot_order-turning 6 xs t (trees_have_their_length p 6 (place_in p.k (number_at p 7 i))) turned
    ∙ trees_are_plot_ordered p 5 (place_in p.k (number_at p 7 i)) shown.rise shown.in_range (omega arith) (shown.in_range.places i inside))

pub quality_is_of_the_proof : QualityIsOfTheProof
quality_is_of_the_proof b p c i xs well inside shows =
    quality_is_of_the_branch b p c i well inside
    ∙ ap (λ q. Ok q) (branch_gives_the_quality p p.k c (place_in p.k (number_at p 7 i)) xs (proof_ordered b p c i xs well inside shows))

-- ---- the lists of a challenge

plots_span : (b : List ℕ) (p : PlotLists) (c : List ℕ) (first second : ℕ) → Well (layout_in b) b p → Span (layout_in b) b c first second → IsSpan p c first second
plots_span b p c first second well span = (span_is_of_the_list b p c first second well.stores).0 span

listed_are_turned : (b : List ℕ) (p : PlotLists) (c : List ℕ) (out : List (List ℕ)) → Well (layout_in b) b p → ListsProofs (layout_in b) b c out → AreTurned p c out
listed_are_turned b p c out well h =
    let span = plots_span b p c h.first h.second well h.span in
    let order = span_is_ordered p c h.first h.second span in
    let by = listing_by_span p c h.first h.second span in
    let long = h.proofs.as_long in
    record {
      as_long = long ∙ sym by.0;
      turned = λ j inside.
          let shows = h.proofs.each j inside in
          let at : h.first + j < count p 7 = omega arith in
          let same : shows.values ≡ slice_index_or (listing p c) j [] =
          ok_list _ _ (sym shows.read ∙ tuple_is_the_tree b p (h.first + j) well at) ∙ sym (by.1 j (omega arith)) in
          subst (λ v. Turning 6 (slice_index_or out j []) v) same shows.turned;
      proofs = λ j inside.
          let shows = h.proofs.each j inside in
          subst (λ id. Proof id p.k c (slice_index_or out j [])) (sym well.stores.id)
          (subst (λ k. Proof (header_in b).id.0 k c (slice_index_or out j [])) (sym well.stores.size) shows.proof);
    }

few_in_table : (b : List ℕ) (p : PlotLists) (id : List ℕ) (k : ℕ) → Well (layout_in b) b p → PlotOf p id k → count p 6 ≤ 2 ^ (k + 1)
few_in_table b p id k well plot = subst (λ k. count p 6 ≤ 2 ^ (k + 1)) plot.same_size (shown_lists (layout_in b) b p well).few

pub listed_are_the_proofs : ListedAreTheProofs
listed_are_the_proofs b p id k c out well plot h =
    turned_listing_is_the_list p id k c out plot (few_in_table b p id k well plot) (listed_are_turned b p c out well h)

pub listed_are_the_qualities : ListedAreTheQualities
listed_are_the_qualities b p id k c proofs out well plot lists h =
    let shown = shown_lists (layout_in b) b p well in
    let there = list_is_there p id k c plot (few_in_table b p id k well plot) in
    let same : there.0 ≡ proofs = one_list id k c there.0 proofs there.2 lists in
    let turned : AreTurned p c proofs = subst (λ (out : List (List ℕ)). AreTurned p c out) same there.1 in
    let span = plots_span b p c h.first h.second well h.span in
    let order = span_is_ordered p c h.first h.second span in
    let by = listing_by_span p c h.first h.second span in
    let pairs = pairs_by_span p c h.first h.second span in
    let long : length out ≡ length proofs = h.qualities.as_long ∙ sym by.0 ∙ sym turned.as_long in
    let many : length out ≡ h.second - h.first = h.qualities.as_long in
    ext_get_or [] out (map (quality_of k c) proofs) (long ∙ sym (length-map proofs (quality_of k c))) (λ j inside.
    let at : h.first + j < count p 7 = omega arith in
    let in_proofs : j < length proofs = omega arith in
    let q : slice_index_or out j [] ≡ pair_quality p.k c (branch p 5 (quality_index c) (place_in p.k (number_at p 7 (h.first + j)))).0 (branch p 5 (quality_index c) (place_in p.k (number_at p 7 (h.first + j)))).1 =
    ok_list _ _ (sym (h.qualities.each j inside) ∙ quality_is_of_the_branch b p c (h.first + j) well at) in
    q
    ∙ ap (λ (pair : ℕ × ℕ). pair_quality p.k c pair.0 pair.1) (sym (pairs.1 j (omega arith)))
    ∙ sym (pairs_give_the_qualities p c proofs j shown.rise shown.in_range turned in_proofs)
    ∙ ap (λ k. quality_of k c (slice_index_or proofs j [])) plot.same_size
    ∙ sym (get_or-map (quality_of k c) proofs j [] [] in_proofs))

-- ---- no damage

pub only_a_place_without_proof : OnlyAPlaceWithoutProof
only_a_place_without_proof b p c d well (inl damage) = absurd (no_last_damage b p d well.stores damage)
only_a_place_without_proof b p c d well (inr h) =
    let span = plots_span b p c h.first h.second well h.span in
    let order = span_is_ordered p c h.first h.second span in
    let stops = h.stops in
    let from = stops.from in
    let to = stops.to in
    let at : stops.place < count p 7 = omega arith in
    let none = ⊎_elim
    (λ (e : tuple_at (layout_in b) b stops.place ≡ Err d). absurd (never_both _ _ d (tuple_is_the_tree b p stops.place well at) e))
    (λ (n : (d ≡ NotAProof stops.place) × ShowsNoProof (layout_in b) b c stops.place). n)
    stops.here in
    record {
      first = h.first;
      second = h.second;
      span = span;
      place = stops.place;
      from = from;
      to = to;
      before = stops.before;
      named = none.0;
      never = none.1;
    }

pub each_place_has_a_proof : EachPlaceHasAProof
each_place_has_a_proof b p id k c d well plot (inl damage) = no_last_damage b p d well.stores damage
each_place_has_a_proof b p id k c d well plot (inr h) =
    let span = plots_span b p c h.first h.second well h.span in
    let order = span_is_ordered p c h.first h.second span in
    let by = listing_by_span p c h.first h.second span in
    let stops = h.stops in
    let i = stops.place in
    let from = stops.from in
    let to = stops.to in
    let at : i < count p 7 = omega arith in
    let back : h.first + (i - h.first) ≡ i = omega arith in
    let listed : slice_index_or (listing p c) (i - h.first) [] ≡ tree p 6 (place_in p.k (number_at p 7 i)) =
    by.1 (i - h.first) (omega arith) ∙ ap (λ j. tree p 6 (place_in p.k (number_at p 7 j))) back in
    let long : length (listing p c) ≡ h.second - h.first = by.0 in
    let turns = listing_turns p id k c (i - h.first) plot (few_in_table b p id k well plot) (omega arith) in
    ⊎_elim
    (λ (e : tuple_at (layout_in b) b i ≡ Err d). never_both _ _ d (tuple_is_the_tree b p i well at) e)
    (λ (n : (d ≡ NotAProof i) × ShowsNoProof (layout_in b) b c i).
    let none = n.1 in
    let same : slice_index_or (listing p c) (i - h.first) [] ≡ none.values = listed ∙ ok_list _ _ (sym (tuple_is_the_tree b p i well at) ∙ none.read) in
    none.never turns.0 (subst (λ v. Turning 6 turns.0 v) same turns.1)
    (subst (λ id. Proof id (header_in b).size c turns.0) (sym plot.same_id ∙ well.stores.id)
    (subst (λ k. Proof id k c turns.0) (sym plot.same_size ∙ well.stores.size) turns.2)))
    stops.here

pub each_place_has_a_quality : EachPlaceHasAQuality
each_place_has_a_quality b p c d well (inl damage) = no_last_damage b p d well.stores damage
each_place_has_a_quality b p c d well (inr h) =
    let span = plots_span b p c h.first h.second well h.span in
    let order = span_is_ordered p c h.first h.second span in
    let stops = h.stops in
    let from = stops.from in
    let to = stops.to in
    let at : stops.place < count p 7 = omega arith in
    never_both _ _ d (quality_is_of_the_branch b p c stops.place well at) stops.here
