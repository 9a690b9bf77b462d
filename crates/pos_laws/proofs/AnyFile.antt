-- The trees of any plot in range whose numbers rise: they rise by place and stand in plot order.
use Rattle.std.proofs.Common.{◌≡◌, ℕ, zero, suc, ◌+◌, ◌^◌, ◌<◌, ◌≤◌, [], ◌∷◌, ◌++◌, All, slice_index_or, sym, refl, ap₂, ◌∙◌, arith, length-append}
use Rattle.std.proofs.lemmas.List.Elements.{All-append}
use Rattle.pos_lists.specs.Pairs.{greater, lesser}
use Rattle.pos_order.specs.Order.{lesser_first, plot_order}
use Rattle.pos_lists.specs.PlotLists.{PlotLists, count, number_at, NumbersRise}
use Rattle.pos_lists.specs.Trees.{limit, tree, IsInRange}
use Rattle.pos_laws.specs.OrderLaws.{TreesRise}
use Rattle.pos_laws.specs.PlotLaws.{TreesRiseByPlace, TreesArePlotOrdered, TreesHaveTheirLength, TreeValuesAreBelow}
use Rattle.pos_laws.proofs.LinePoints.{point_of_a_pair}
use Rattle.pos_order.proofs.PlotOrderLemmas.{double}
use Rattle.pos_order.proofs.NodeParts.{take-half, drop-half}
use Rattle.pos_order.proofs.OrderLemmas.{under_one_way, lesser_first-kept}
use Rattle.pos_laws.proofs.Trees.{trees_under, points_rise_as_trees}
use Rattle.pos_laws.proofs.Relocation.{values_rise}

pub trees_have_their_length : TreesHaveTheirLength
unfolding tree
trees_have_their_length p zero i = refl
trees_have_their_length p (suc n) i =
    length-append _ _
    ∙ ap₂ (λ a b. a + b) (trees_have_their_length p n _) (trees_have_their_length p n _)
    ∙ sym (double n)

pub tree-suc : (p : PlotLists) (n i : ℕ) →
    tree p (suc n) i ≡ tree p n (lesser (number_at p (suc n) i)) ++ tree p n (greater (number_at p (suc n) i))
unfolding tree
tree-suc p n i = refl

pub lesser_below_greater : (s : ℕ) → lesser s < greater s
lesser_below_greater s = (point_of_a_pair s).0

-- the places that are named are in range, for a table or the values below
pub limit-suc : (p : PlotLists) (n : ℕ) → limit p (suc n) ≡ count p (suc n)
unfolding limit
limit-suc p n = refl

pub all_trees_rise : (p : PlotLists) → NumbersRise p → IsInRange p → (n : ℕ) → n ≤ 6 → TreesRise (tree p n) (limit p n)
unfolding limit tree
all_trees_rise p rise range zero l = values_rise p (2 ^ p.k)
all_trees_rise p rise range (suc n) l = λ i j h g.
    points_rise_as_trees (tree p n) (limit p n) _ _ (all_trees_rise p rise range n (omega arith))
    (range.points n j l g) (rise n (omega arith) i j 0 h g)

pub trees_rise_by_place : TreesRiseByPlace
unfolding limit
trees_rise_by_place p n i j rise range l h g = all_trees_rise p rise range (suc n) l i j h g

pub all_plot_ordered : (p : PlotLists) → NumbersRise p → IsInRange p → (n i : ℕ) → n ≤ 6 → i < limit p n →
    plot_order n (tree p n i) ≡ tree p n i
unfolding plot_order limit tree
all_plot_ordered p rise range zero i l h = refl
all_plot_ordered p rise range (suc n) i l h =
    let a = lesser (number_at p (suc n) i) in
    let b = greater (number_at p (suc n) i) in
    let g = range.points n i l h in
    let o = lesser_below_greater (number_at p (suc n) i) in
    let e = trees_have_their_length p n a in
    ap₂ (λ x y. lesser_first (plot_order n x) (plot_order n y)) (take-half n _ _ e) (drop-half n _ _ e)
    ∙ ap₂ lesser_first (all_plot_ordered p rise range n a (omega arith) (omega arith)) (all_plot_ordered p rise range n b (omega arith) g)
    ∙ lesser_first-kept _ _ (under_one_way _ _ (trees_under (tree p n) (limit p n) (all_trees_rise p rise range n (omega arith)) a b o g))

pub trees_are_plot_ordered : TreesArePlotOrdered
unfolding limit
trees_are_plot_ordered p n i rise range l h = all_plot_ordered p rise range (suc n) i l h

all_values_below : (p : PlotLists) → IsInRange p → (n i : ℕ) → n ≤ 6 → i < limit p n → All (λ x. x < 2 ^ p.k) (tree p n i)
unfolding limit tree
all_values_below p range zero i l h = only
  where
    only : (j d : ℕ) → j < 1 → slice_index_or (i ∷ []) j d < 2 ^ p.k
    only zero d g = h
    only (suc j) d g = absurd (omega arith)
all_values_below p range (suc n) i l h =
    let g = range.points n i l h in
    let o = lesser_below_greater (number_at p (suc n) i) in
    All-append (λ x. x < 2 ^ p.k) _ _
    (all_values_below p range n _ (omega arith) (omega arith))
    (all_values_below p range n _ (omega arith) g)

pub tree_values_are_below : TreeValuesAreBelow
unfolding limit
tree_values_are_below p n i range l h = all_values_below p range (suc n) i l h
