-- The tables of an id, renumbered level by level, are the plot of the id.
use Rattle.std.proofs.Common.{◌≡◌, ◌≢◌, ℕ, zero, suc, ◌+◌, ◌*◌, ◌/◌, ◌^◌, ◌<◌, ◌≤◌, inr, ⊎_elim, List, [], ◌∷◌, slice_index, Some, option_map, sym, refl, ap, ap₂, ◌∙◌, subst, arith}
use Rattle.std.proofs.lemmas.Bool.{cases_order}
use Rattle.std.proofs.lemmas.List.{get_or_default}
use Rattle.std.proofs.lemmas.Nat.{div-mul-add, mod-mul-add, shr_below}
use Rattle.pos_points.specs.Points.{point_of}
use Rattle.pos_lists.specs.Pairs.{greater}
use Rattle.pos_tuple.specs.Proof.{f7, f7_of}
use Rattle.pos_order.specs.Order.{lesser_first, plot_order}
use Rattle.pos_laws.specs.Tables.{Describes}
use Rattle.pos_lists.specs.TableLists.{TableLists, entries, tuple}
use Rattle.pos_lists.specs.Used.{IsUsed}
use Rattle.pos_lists.specs.PlotLists.{PlotLists, numbers, count, number_at, f7_in, place_in}
use Rattle.pos_lists.specs.Trees.{limit, tree}
use Rattle.pos_laws.specs.PlotOf.{IsLastNumber}
use Rattle.pos_laws.specs.OrderLaws.{TreesRise, joined_tree}
use Rattle.pos_laws.specs.Renumbering.{point_at, IsRelocated, IsOneToOne}
use Rattle.pos_laws.specs.PlotLaws.{RelocatedIsThePlot, RelocatedIsInRange}
use Rattle.pos_laws.proofs.LinePoints.{point_has_its_pair}
use Rattle.pos_order.proofs.OrderLemmas.{Under, below_from_under}
use Rattle.pos_order.proofs.NodeParts.{some_entry, value_of_node, node_parts}
use Rattle.pos_laws.proofs.NodeParts.{y_of-node, next_y_below}
use Rattle.pos_laws.proofs.Trees.{points_rise_as_trees, points_are_plot_ordered}
use Rattle.pos_lists.proofs.UsedLemmas.{used_is_inside, used_at_top, inside_at_top}
use Rattle.pos_laws.proofs.Described.{plot_order-tuple}
use Rattle.pos_laws.proofs.KeptParts.{used_is_kept}
use Rattle.pos_laws.proofs.Apart.{left_used, right_used, values_are_apart, pairs_differ, renumbered_is_apart}

-- the greater number of a point of two different numbers below w is below w
pub greater_below : (x y w : ℕ) → x ≢ y → x < w → y < w → greater (point_of x y) < w
greater_below x y w n h l =
    ⊎_elim
    (λ (e : x ≡ y). absurd (n e))
    (⊎_elim
    (λ (g : x < y). let p = point_has_its_pair x y g in omega (arith, p.1))
    (λ (g : y < x). let p = point_has_its_pair y x g in omega (arith, p.1, ap greater p.2)))
    (cases_order x y)

-- the trees of single values rise
pub values_rise : (p : PlotLists) (m : ℕ) → TreesRise (tree p 0) m
unfolding tree Under
values_rise p m i j h l = below_from_under _ _ (inr (refl, h))

-- what stands after a level is renumbered
record Level (ts : TableLists) (p : PlotLists) (place : ℕ → ℕ → ℕ) (n : ℕ) : Type 0 where
  rise : TreesRise (tree p n) (limit p n)
  below : (i : ℕ) → IsUsed ts n i → place n i < limit p n
  trees : (i : ℕ) → IsUsed ts n i → tree p n (place n i) ≡ plot_order n (tuple ts n i)
  apart : IsOneToOne ts n (place n)

module _ (ts : TableLists) (id : List ℕ) (k : ℕ) (p : PlotLists) (place : ℕ → ℕ → ℕ) (t : Describes ts id k) (r : IsRelocated ts p place) where
  level_zero : p.k ≡ k → Level ts p place 0
  unfolding tree limit plot_order tuple
  level_zero size = record {
    rise = values_rise p (2 ^ p.k);
    below = λ i u.
        let v = value_of_node id k _ (t.nodes 0 i (omega arith) (used_is_inside ts 0 i (omega arith) t.inside u)) in
        let e : slice_index ts.values i ≡ v.0 = let f : slice_index ts.values i ∷ [] ≡ v.0 ∷ [] = v.1 in cc in
        let g : place 0 i ≡ v.0 = r.values i ∙ e in
        subst (λ q. place 0 i < 2 ^ q) (sym size) (omega (arith, v.2));
    trees = λ i u. ap (λ x. x ∷ []) (r.values i);
    apart = λ i j u v e. values_are_apart ts id k t i j u v (sym (r.values i) ∙ e ∙ r.values j);
  }

  -- the pair of each number of the next table is in range
  greater_in_range : (n : ℕ) → n < 6 → Level ts p place n → (s : ℕ) → s < count p (suc n) → greater (number_at p (suc n) s) < limit p n
  greater_in_range n l level s g =
      let i = (r.six n l).filled s g in
      let e : number_at p (suc n) s ≡ point_at ts n (place n) i.0 = ap (number_at p (suc n)) (sym i.2) ∙ (r.six n l).pointed i.0 i.1 in
      subst (λ q. greater q < limit p n) (sym e)
      (greater_below _ _ _ (pairs_differ ts id k n (place n) i.0 t l level.apart i.1)
      (level.below _ (left_used ts n i.0 l i.1)) (level.below _ (right_used ts n i.0 l i.1)))

  next_trees : (n : ℕ) → n < 6 → Level ts p place n → (i : ℕ) → IsUsed ts (suc n) i →
      tree p (suc n) (place (suc n) i) ≡ plot_order (suc n) (tuple ts (suc n) i)
  unfolding tree
  next_trees n l level i u =
      let lu = left_used ts n i l u in
      let ru = right_used ts n i l u in
      ap (joined_tree (tree p n)) ((r.six n l).pointed i u)
      ∙ points_are_plot_ordered (tree p n) (limit p n) _ _ level.rise (level.below _ lu) (level.below _ ru)
      (pairs_differ ts id k n (place n) i t l level.apart u)
      ∙ ap₂ lesser_first (level.trees _ lu) (level.trees _ ru)
      ∙ sym (plot_order-tuple ts id k n i t l (used_is_inside ts (suc n) i l t.inside u))

  level_suc : (n : ℕ) → n < 6 → Level ts p place n → Level ts p place (suc n)
  unfolding tree limit
  level_suc n l level = record {
    rise = λ a b h g.
        points_rise_as_trees (tree p n) (limit p n) _ _ level.rise (greater_in_range n l level b g)
        ((r.six n l).rise a b 0 h g);
    below = (r.six n l).placed;
    trees = next_trees n l level;
    apart = renumbered_is_apart ts id k n (place n) (place (suc n)) (numbers p (suc n)) t l level.apart (r.six n l);
  }

  level_at : p.k ≡ k → (n : ℕ) → n ≤ 6 → Level ts p place n
  level_at size zero l = level_zero size
  level_at size (suc n) l = level_suc n l (level_at size n (omega arith))

  -- the tree of a place of a level from 1 on, and the place of a kept tuple
  kept_tree : p.k ≡ k → (n s : ℕ) → n < 6 → s < count p (suc n) →
      (i : ℕ) × IsUsed ts (suc n) i × (tree p (suc n) s ≡ plot_order (suc n) (tuple ts (suc n) i)) × (place (suc n) i ≡ s)
  kept_tree size n s l g =
      let i = (r.six n l).filled s g in
      (i.0, i.1, ap (tree p (suc n)) (sym i.2) ∙ (level_at size (suc n) l).trees i.0 i.1, i.2)

  -- the f7 of a place of level 6
  last_f7 : (i : ℕ) → i < entries ts 6 → f7 id k (tuple ts 6 i) ≡ Some (slice_index ts.last i / 64)
  unfolding f7
  last_f7 i l =
      let e = some_entry _ (t.nodes 6 i (omega arith) l) in
      ap (option_map f7_of) e.1 ∙ ap (λ y. Some (y / 64)) (sym (y_of-node id k 6 _ e.0 e.1) ∙ sym (t.last_y i l))

  last_below : (i : ℕ) → i < entries ts 6 → slice_index ts.last i / 64 < 2 ^ k
  last_below i l =
      let e = some_entry _ (t.nodes 6 i (omega arith) l) in
      let q = node_parts id k 5 _ e.0 e.1 in
      let b : (e.0).y < 2 ^ (k + 6) = subst (λ v. v.y < 2 ^ (k + 6)) (sym q.made) (next_y_below k 7 q.left q.right) in
      let y : slice_index ts.last i ≡ (e.0).y = t.last_y i l ∙ y_of-node id k 6 _ e.0 e.1 in
      shr_below (slice_index ts.last i) k 6 (subst (λ v. v < 2 ^ (k + 6)) (sym y) b)

  last_number : p.k ≡ k → (i s : ℕ) → IsUsed ts 6 i → place 6 i ≡ s →
      IsLastNumber p id k s (slice_index ts.last i / 64 * 2 ^ (p.k + 1) + place 6 i)
  last_number size i s u e = (
    tuple ts 6 i,
    slice_index ts.last i / 64,
    ap (tree p 6) (sym e) ∙ (level_at size 6 (omega arith)).trees i u,
    last_f7 i (inside_at_top ts i u),
    ap₂ (λ q b. slice_index ts.last i / 64 * 2 ^ (q + 1) + b) size e,
  )

pub relocated_is_the_plot : RelocatedIsThePlot
unfolding limit
relocated_is_the_plot ts id k p place t r same size seven = record {
  same_id = same;
  same_size = size;
  seven = seven;
  trees_rise = λ n. λ i j l. (level_at ts id k p place t r size (suc n) l).rise i j;
  kept = λ n s l g.
      let q = kept_tree ts id k p place t r size n s l g in
      (tuple ts (suc n) q.0, (used_is_kept ts id k (suc n) _ l t).1 (q.0, q.1, refl), q.2);
  all = λ n xs l h.
      let i = (used_is_kept ts id k (suc n) xs l t).0 h in (
        place (suc n) i.0,
        (level_at ts id k p place t r size (suc n) l).below i.0 i.1,
        (level_at ts id k p place t r size (suc n) l).trees i.0 i.1 ∙ ap (plot_order (suc n)) i.2,
      );
  numbers_rise = r.seventh.rise;
  each_place = λ s g.
      let q = kept_tree ts id k p place t r size 5 s (omega arith) g in (
        slice_index ts.last q.0 / 64 * 2 ^ (p.k + 1) + place 6 q.0,
        r.seventh.placed q.0 (inside_at_top ts q.0 q.1),
        last_number ts id k p place t r size q.0 s q.1 q.3,
      );
  each_number = λ s c.
      let i = r.seventh.filled s c in
      let u = used_at_top ts i.0 i.1 in (
        place 6 i.0,
        (level_at ts id k p place t r size 6 (omega arith)).below i.0 u,
        subst (IsLastNumber p id k (place 6 i.0)) (sym i.2) (last_number ts id k p place t r size i.0 _ u refl),
      );
}

pub relocated_is_in_range : RelocatedIsInRange
unfolding limit
relocated_is_in_range ts id k p place t r size c = record {
  points = λ n i l. greater_in_range ts id k p place t r n l (level_at ts id k p place t r size n (omega arith)) i;
  answers = λ i l.
      let q = last_of i l in
      subst (λ s. f7_in p.k s < 2 ^ p.k) (sym q.2)
      (rw (div-mul-add (slice_index ts.last q.0 / 64) (2 ^ (p.k + 1)) (place 6 q.0) q.3)
      (subst (λ b. slice_index ts.last q.0 / 64 < 2 ^ b) (sym size) (last_below ts id k p place t r q.0 q.1)));
  places = λ i l.
      let q = last_of i l in
      subst (λ s. place_in p.k s < count p 6) (sym q.2)
      (rw (mod-mul-add (slice_index ts.last q.0 / 64) (2 ^ (p.k + 1)) (place 6 q.0) q.3) (top.below q.0 (used_at_top ts q.0 q.1)));
}
  where
    top : Level ts p place 6
    top = level_at ts id k p place t r size 6 (omega arith)

    last_of : (i : ℕ) → i < count p 7 →
        (j : ℕ) × (j < entries ts 6) × (number_at p 7 i ≡ slice_index ts.last j / 64 * 2 ^ (p.k + 1) + place 6 j) × (place 6 j < 2 ^ (p.k + 1))
    last_of i l =
        let j = r.seventh.filled (number_at p 7 i) (i, l, get_or_default (numbers p 7) i (number_at p 7 i) 0 l) in
        let b = top.below j.0 (used_at_top ts j.0 j.1) in
        (j.0, j.1, j.2, subst (λ q. place 6 j.0 < 2 ^ (q + 1)) (sym size) (omega arith))
