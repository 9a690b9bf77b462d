-- The quality of each listed proof is that of the listing's pair of values.
use Rattle.std.proofs.Common.{◌≡◌, ℕ, ◌^◌, ◌<◌, List, [], length, slice_index, slice_index_or, sym, ap, ◌∙◌, subst, arith}
use Rattle.pos_order.specs.Order.{plot_order}
use Rattle.pos_order.specs.Quality.{pair_quality}
use Rattle.pos_order.proofs.PlotOrderLemmas.{plot_order-turning}
use Rattle.pos_lists.specs.PlotLists.{PlotLists, numbers, count, place_in, NumbersRise}
use Rattle.pos_lists.specs.Trees.{IsInRange}
use Rattle.pos_laws.specs.Listing.{asked, listing, AreTurned}
use Rattle.pos_laws.specs.ListingLaws.{PairsGiveTheQualities}
use Rattle.pos_laws.proofs.AnyFile.{trees_have_their_length, trees_are_plot_ordered}
use Rattle.pos_laws.proofs.Listed.{length-listing, at-listing, asked_in_table}
use Rattle.pos_laws.proofs.Branches.{quality_of-pair_in, at-quality_pairs}
use Rattle.pos_laws.proofs.SameLists.{at_contained}

-- a turned tuple of the listing has the listed tree as its plot order
turned_order : (p : PlotLists) (c : List ℕ) (out : List (List ℕ)) (i : ℕ) → NumbersRise p → IsInRange p → AreTurned p c out →
    i < length out → plot_order 6 (slice_index_or out i []) ≡ slice_index_or (listing p c) i []
turned_order p c out i rise range t l =
    let g : i < length (asked p c) = omega (arith, t.as_long, length-listing p c) in
    let s = slice_index (asked p c) i in
    let j = at_contained (numbers p 7) s 0 (asked_in_table p c i g) in
    let inside : place_in p.k s < count p 6 = subst (λ q. place_in p.k q < count p 6) j.2 (range.places j.0 j.1) in
    let listed = at-listing p c i [] g in
    let turned = t.turned i l in
    let e : length (slice_index_or (listing p c) i []) ≡ 2 ^ 6 = ap length listed ∙ trees_have_their_length p 6 _ in
    plot_order-turning 6 _ _ e turned
    ∙ ap (plot_order 6) listed ∙ trees_are_plot_ordered p 5 (place_in p.k s) rise range (omega arith) inside ∙ sym listed

pub pairs_give_the_qualities : PairsGiveTheQualities
pairs_give_the_qualities p c out i rise range t l =
    quality_of-pair_in p.k c _ _ (turned_order p c out i rise range t l)
    ∙ ap (λ (q : ℕ × ℕ). pair_quality p.k c q.0 q.1) (sym (at-quality_pairs p c i (omega (arith, t.as_long))))
