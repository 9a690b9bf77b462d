-- An id and a size have one plot at most, and no number of it is dead.
use Rattle.std.proofs.Common.{◌≡◌, ℕ, zero, suc, ◌+◌, ◌-◌, ◌*◌, ◌^◌, ◌<◌, ◌≤◌, ◌⊎◌, inl, inr, ⊎_elim, List, [], ◌++◌, length, take, drop, slice_index, AllPairs, Contains, Option, Some, None, option_map, IsSome, sym, refl, ap, ap₂, ◌∙◌, subst, arith, ext_get_or}
use Rattle.std.proofs.lemmas.Bool.{cases_order, cases_lt}
use Rattle.std.proofs.lemmas.List.{get_or_default}
use Rattle.pos_points.specs.Points.{line_point}
use Rattle.pos_lists.specs.Pairs.{greater, lesser}
use Rattle.pos_tuple.specs.declared.entry.Entry.{Entry}
use Rattle.pos_tuple.specs.Node.{node}
use Rattle.pos_tuple.specs.Proof.{f7, f7_of}
use Rattle.pos_order.specs.Order.{Below, lesser_first, plot_order}
use Rattle.pos_laws.specs.Tables.{HasNode}
use Rattle.pos_laws.specs.Kept.{IsKept, IsHalved}
use Rattle.pos_lists.specs.PlotLists.{PlotLists, numbers, count, number_at}
use Rattle.pos_lists.specs.Trees.{limit, tree, IsInRange}
use Rattle.pos_laws.specs.PlotOf.{PlotOf}
use Rattle.pos_laws.specs.OrderLaws.{TreesRise}
use Rattle.pos_laws.specs.PlotLaws.{NoneIsDead, OnePlot, PlotNumbersRise}
use Rattle.pos_laws.proofs.LinePoints.{point_of_a_pair}
use Rattle.pos_order.proofs.NodeParts.{node_parts, some_entry, some_is, nodes_have_their_length}
use Rattle.pos_order.proofs.OrderLemmas.{Under, under_one_way, under_from_below, lesser_first_cases}
use Rattle.pos_laws.proofs.Trees.{trees_apart, points_rise_as_trees}
use Rattle.pos_order.proofs.PlotOrderLemmas.{length_first_half, length_second_half, length-plot_order}
use Rattle.pos_order.proofs.Turnings.{same_parts, plot_order_is_exact}
use Rattle.pos_laws.proofs.KeptParts.{kept_is_halved}
use Rattle.pos_laws.proofs.Relocation.{values_rise}
use Rattle.pos_laws.proofs.AnyFile.{trees_have_their_length, tree-suc, limit-suc, lesser_below_greater}
use Rattle.pos_laws.proofs.SameLists.{same_rising, contains_at, at_contained}

-- ---- kept tuples have a node

halved_has_node : (id : List ℕ) (k d n : ℕ) (xs : List ℕ) → IsHalved id k d n xs → HasNode id k n xs
unfolding IsHalved
halved_has_node id k zero n xs h = h
halved_has_node id k (suc d) n xs h =
    let e = some_entry _ (halved_has_node id k d (suc n) h.0 h.1) in
    let p = node_parts id k n h.0 e.0 e.1 in
    ⊎_elim
    (λ (f : xs ≡ take (2 ^ n) h.0). subst (HasNode id k n) (sym f) (some_is _ _ p.left_node))
    (λ (f : xs ≡ drop (2 ^ n) h.0). subst (HasNode id k n) (sym f) (some_is _ _ p.right_node))
    h.2

pub kept_has_node : (id : List ℕ) (k n : ℕ) (xs : List ℕ) → n ≤ 6 → IsKept id k n xs → HasNode id k n xs
kept_has_node id k n xs l h = halved_has_node id k (6 - n) n xs ((kept_is_halved id k n xs l).0 h)

-- a kept tuple of a level below 6 is a half of a kept one of the next
halved_from : (id : List ℕ) (k d n : ℕ) (xs : List ℕ) → IsHalved id k (suc d) n xs →
    (ys : List ℕ) × IsHalved id k d (suc n) ys × ((xs ≡ take (2 ^ n) ys) ⊎ (xs ≡ drop (2 ^ n) ys))
unfolding IsHalved
halved_from id k d n xs h = h

kept_from_next : (id : List ℕ) (k n : ℕ) (xs : List ℕ) → n < 6 → IsKept id k n xs →
    (ys : List ℕ) × IsKept id k (suc n) ys × ((xs ≡ take (2 ^ n) ys) ⊎ (xs ≡ drop (2 ^ n) ys))
kept_from_next id k n xs l h =
    let e : 6 - n ≡ suc (6 - suc n) = omega arith in
    let g = halved_from id k (6 - suc n) n xs (subst (λ d. IsHalved id k d n xs) e ((kept_is_halved id k n xs (omega arith)).0 h)) in
    (g.0, (kept_is_halved id k (suc n) g.0 l).1 g.1, g.2)

-- an f7 is that of a node
pub f7_has_node : (id : List ℕ) (k : ℕ) (xs : List ℕ) (v : ℕ) → f7 id k xs ≡ Some v → HasNode id k 6 xs
unfolding f7
f7_has_node id k xs v e = from (node id k 6 xs) e
  where
    from : (o : Option Entry) → option_map f7_of o ≡ Some v → IsSome o
    from None h = cc
    from (Some a) h = refl

-- ---- the trees of a plot rise

pub plot_trees_rise : (p : PlotLists) (id : List ℕ) (k n : ℕ) → PlotOf p id k → n ≤ 6 → TreesRise (tree p n) (limit p n)
unfolding limit
plot_trees_rise p id k zero h l = values_rise p (2 ^ p.k)
plot_trees_rise p id k (suc n) h l = λ i j. h.trees_rise n i j l

-- a lesser number has the lesser tree
numbers_to_trees : (p : PlotLists) (id : List ℕ) (k n a b : ℕ) → PlotOf p id k → IsInRange p → n < 6 → b < count p (suc n) →
    number_at p (suc n) a < number_at p (suc n) b → Below (tree p (suc n) a) (tree p (suc n) b)
unfolding tree
numbers_to_trees p id k n a b h range l g o =
    points_rise_as_trees (tree p n) (limit p n) _ _ (plot_trees_rise p id k n h (omega arith)) (range.points n b l g) o

same_number_same_tree : (p : PlotLists) (n a b : ℕ) → number_at p (suc n) a ≡ number_at p (suc n) b → tree p (suc n) a ≡ tree p (suc n) b
unfolding tree
same_number_same_tree p n a b e = ap (λ s. tree p n (lesser s) ++ tree p n (greater s)) e

table_rises : (p : PlotLists) (id : List ℕ) (k n i j : ℕ) → PlotOf p id k → IsInRange p → n < 6 → i < j → j < count p (suc n) →
    number_at p (suc n) i < number_at p (suc n) j
table_rises p id k n i j h range l o g =
    let u = under_from_below _ _ (h.trees_rise n i j l o g) in
    ⊎_elim
    (λ (e : number_at p (suc n) i ≡ number_at p (suc n) j).
    let t = same_number_same_tree p n i j e in
    absurd (under_one_way _ _ u (subst (λ v. Under v (tree p (suc n) i)) t (subst (Under (tree p (suc n) i)) (sym t) u))))
    (⊎_elim
    (λ (e : number_at p (suc n) i < number_at p (suc n) j). e)
    (λ (e : number_at p (suc n) j < number_at p (suc n) i).
    absurd (under_one_way _ _ u (under_from_below _ _ (numbers_to_trees p id k n j i h range l (omega arith) e)))))
    (cases_order (number_at p (suc n) i) (number_at p (suc n) j))

pub plot_numbers_rise : PlotNumbersRise
plot_numbers_rise p id k h range n l =
    ⊎_elim
    (λ (m : n < 6).
    λ i j d o g.
    let a = get_or_default (numbers p (suc n)) i d 0 (omega arith) in
    let b = get_or_default (numbers p (suc n)) j d 0 g in
    let c = table_rises p id k n i j h range m o g in
    omega arith)
    (λ (m : 6 ≤ n). let e : 6 ≡ n = omega arith in subst (λ q. AllPairs ◌<◌ (numbers p (suc q))) e h.numbers_rise)
    (cases_lt n 6)

-- ---- no number is dead

named_by : (p : PlotLists) (id : List ℕ) (k n i j : ℕ) (ys : List ℕ) → PlotOf p id k → IsInRange p → n < 5 →
    i < count p (suc n) → j < count p (suc (suc n)) → HasNode id k (suc (suc n)) ys →
    tree p (suc (suc n)) j ≡ plot_order (suc (suc n)) ys →
    (tree p (suc n) i ≡ plot_order (suc n) (take (2 ^ suc n) ys)) ⊎ (tree p (suc n) i ≡ plot_order (suc n) (drop (2 ^ suc n) ys)) →
    (i ≡ lesser (number_at p (suc (suc n)) j)) ⊎ (i ≡ greater (number_at p (suc (suc n)) j))
unfolding plot_order
named_by p id k n i j ys h range l g o node e half =
    let s = number_at p (suc (suc n)) j in
    let a = plot_order (suc n) (take (2 ^ suc n) ys) in
    let b = plot_order (suc n) (drop (2 ^ suc n) ys) in
    let w = nodes_have_their_length id k (suc (suc n)) ys node in
    let la : length a ≡ 2 ^ suc n = length-plot_order (suc n) _ ∙ length_first_half (suc n) ys w in
    let lb : length b ≡ 2 ^ suc n = length-plot_order (suc n) _ ∙ length_second_half (suc n) ys w in
    let up : greater s < count p (suc n) = subst (λ q. greater s < q) (limit-suc p n) (range.points (suc n) j (omega arith) o) in
    let below = lesser_below_greater s in
    let rise : TreesRise (tree p (suc n)) (count p (suc n)) = λ x y. h.trees_rise n x y (omega arith) in
    let lesser_is : (t : List ℕ) → tree p (suc n) (lesser s) ≡ t → tree p (suc n) i ≡ t → i ≡ lesser s =
    λ t f q. trees_apart (tree p (suc n)) (count p (suc n)) rise i (lesser s) g (omega arith) (q ∙ sym f) in
    let greater_is : (t : List ℕ) → tree p (suc n) (greater s) ≡ t → tree p (suc n) i ≡ t → i ≡ greater s =
    λ t f q. trees_apart (tree p (suc n)) (count p (suc n)) rise i (greater s) g up (q ∙ sym f) in
    let whole : tree p (suc n) (lesser s) ++ tree p (suc n) (greater s) ≡ lesser_first a b = sym (tree-suc p (suc n) j) ∙ e in
    let lt = trees_have_their_length p (suc n) (lesser s) in
    ⊎_elim
    (λ (f : lesser_first a b ≡ a ++ b).
    let q = same_parts _ _ a b (lt ∙ sym la) (whole ∙ f) in
    ⊎_elim (λ r. inl (lesser_is a q.0 r)) (λ r. inr (greater_is b q.1 r)) half)
    (λ (f : lesser_first a b ≡ b ++ a).
    let q = same_parts _ _ b a (lt ∙ sym lb) (whole ∙ f) in
    ⊎_elim (λ r. inr (greater_is a q.1 r)) (λ r. inl (lesser_is b q.0 r)) half)
    (lesser_first_cases a b)

pub none_is_dead : NoneIsDead
none_is_dead p id k n i h range l g =
    let kept = h.kept n i (omega arith) g in
    let next = kept_from_next id k (suc n) kept.0 (omega arith) kept.1 in
    let j = h.all (suc n) next.0 (omega arith) next.1 in (
      j.0,
      j.1,
      named_by p id k n i j.0 next.0 h range l g j.1 (kept_has_node id k (suc (suc n)) next.0 (omega arith) next.1) j.2
          (⊎_elim
          (λ f. inl (kept.2 ∙ ap (plot_order (suc n)) f))
          (λ f. inr (kept.2 ∙ ap (plot_order (suc n)) f))
          next.2),
    )

-- ---- one plot

-- the tables 1 to n of two plots are the same
abbrev Agree : PlotLists → PlotLists → ℕ → Type 0
Agree p q n = (m : ℕ) → m < n → numbers p (suc m) ≡ numbers q (suc m)

trees_agree : (p q : PlotLists) (n : ℕ) → Agree p q n → (i : ℕ) → tree p n i ≡ tree q n i
unfolding tree
trees_agree p q zero a i = refl
trees_agree p q (suc n) a i =
    let e = a n (omega arith) in
    let below = trees_agree p q n (λ m l. a m (omega arith)) in
    ap₂ (λ x y. x ++ y) (below _) (below _)
    ∙ ap (λ t. tree q n (lesser (slice_index t i)) ++ tree q n (greater (slice_index t i))) e

limits_agree : (p q : PlotLists) (n : ℕ) → p.k ≡ q.k → Agree p q n → limit p n ≡ limit q n
unfolding limit
limits_agree p q zero e a = ap (λ k. 2 ^ k) e
limits_agree p q (suc n) e a = ap length (a n (omega arith))

-- two numbers that name the same places are the same
same_number : (s t : ℕ) → lesser s ≡ lesser t → greater s ≡ greater t → s ≡ t
same_number s t e f = sym (point_of_a_pair s).1 ∙ ap₂ line_point f e ∙ (point_of_a_pair t).1

-- a number of a table of one plot is in the other
carried : (p q : PlotLists) (id : List ℕ) (k n : ℕ) → PlotOf p id k → IsInRange p → PlotOf q id k → IsInRange q →
    n < 6 → Agree p q n → (s : ℕ) → Contains (numbers p (suc n)) s → Contains (numbers q (suc n)) s
carried p q id k n hp rp hq rq l a s c =
    let i = at_contained (numbers p (suc n)) s 0 c in
    let kept = hp.kept n i.0 l i.1 in
    let j = hq.all n kept.0 l kept.1 in
    let t = number_at q (suc n) j.0 in
    let agree = trees_agree p q n a in
    let whole : tree p n (lesser s) ++ tree p n (greater s) ≡ tree p n (lesser t) ++ tree p n (greater t) =
    ap (λ v. tree p n (lesser v) ++ tree p n (greater v)) (sym i.2)
    ∙ sym (tree-suc p n i.0) ∙ kept.2 ∙ sym j.2 ∙ tree-suc q n j.0
    ∙ ap₂ (λ x y. x ++ y) (sym (agree _)) (sym (agree _)) in
    let parts : (tree p n (lesser s) ≡ tree p n (lesser t)) × (tree p n (greater s) ≡ tree p n (greater t)) =
    same_parts _ _ _ _ (trees_have_their_length p n _ ∙ sym (trees_have_their_length p n _)) whole in
    let rise = plot_trees_rise p id k n hp (omega arith) in
    let gs : greater s < limit p n = subst (λ v. greater v < limit p n) i.2 (rp.points n i.0 l i.1) in
    let gt : greater t < limit p n = subst (λ v. greater t < v) (sym (limits_agree p q n (hp.same_size ∙ sym hq.same_size) a)) (rq.points n j.0 l j.1) in
    let os = lesser_below_greater s in
    let ot = lesser_below_greater t in
    let e : t ≡ s =
    same_number t s
    (sym (trees_apart (tree p n) (limit p n) rise _ _ (omega arith) (omega arith) parts.0))
    (sym (trees_apart (tree p n) (limit p n) rise _ _ gs gt parts.1)) in
    subst (Contains (numbers q (suc n))) e (contains_at (numbers q (suc n)) j.0 0 j.1)

last_carried : (p q : PlotLists) (id : List ℕ) (k : ℕ) → PlotOf p id k → PlotOf q id k → Agree p q 6 →
    (s : ℕ) → Contains (numbers p 7) s → Contains (numbers q 7) s
last_carried p q id k hp hq a s c =
    let i = hp.each_number s c in
    let n = i.2 in
    let j = hq.each_place i.0 (subst (λ v. i.0 < length v) (a 5 (omega arith)) i.1) in
    let m = j.2 in
    let same : n.0 ≡ m.0 =
    plot_order_is_exact id k 6 n.0 m.0 (f7_has_node id k n.0 n.1 n.3) (f7_has_node id k m.0 m.1 m.3)
    (sym n.2 ∙ trees_agree p q 6 a i.0 ∙ m.2) in
    let v : Some m.1 ≡ Some n.1 = sym m.3 ∙ ap (f7 id k) (sym same) ∙ n.3 in
    let w : m.1 ≡ n.1 = cc in
    let e : j.0 ≡ s = m.4 ∙ ap (λ x. x * 2 ^ (k + 1) + i.0) w ∙ sym n.4 in
    subst (Contains (numbers q 7)) e j.1

numbers_one_way : (x y : ℕ) → x < y → y < x → ⊥
numbers_one_way x y l g = absurd (omega arith)

agree_back : (p q : PlotLists) (n : ℕ) → Agree p q n → Agree q p n
agree_back p q n a m l = sym (a m l)

agree_at : (p q : PlotLists) (id : List ℕ) (k : ℕ) → PlotOf p id k → IsInRange p → PlotOf q id k → IsInRange q →
    (n : ℕ) → n ≤ 6 → Agree p q n
agree_at p q id k hp rp hq rq zero l m o = absurd (omega arith)
agree_at p q id k hp rp hq rq (suc n) l m o =
    let a = agree_at p q id k hp rp hq rq n (omega arith) in
    ⊎_elim
    (λ (g : m < n). a m g)
    (λ (g : n ≤ m).
    let e : n ≡ m = omega arith in
    subst (λ v. numbers p (suc v) ≡ numbers q (suc v)) e
    (same_rising ◌<◌ numbers_one_way _ _
    (plot_numbers_rise p id k hp rp n (omega arith)) (plot_numbers_rise q id k hq rq n (omega arith))
    (carried p q id k n hp rp hq rq l a)
    (carried q p id k n hq rq hp rp l (agree_back p q n a))))
    (cases_lt m n)

tables_agree : (p q : PlotLists) → length p.tables ≡ 7 → length q.tables ≡ 7 → Agree p q 7 → p.tables ≡ q.tables
unfolding numbers
tables_agree p q e f a = ext_get_or [] p.tables q.tables (e ∙ sym f) (λ i l. a i (omega arith))

plot_with : List ℕ → ℕ → List (List ℕ) → PlotLists
plot_with i n t = record { id = i; k = n; tables = t }

same_plot : (p q : PlotLists) → p.id ≡ q.id → p.k ≡ q.k → p.tables ≡ q.tables → p ≡ q
unfolding plot_with
same_plot p q e f g = ap (λ i. plot_with i p.k p.tables) e ∙ ap (λ n. plot_with q.id n p.tables) f ∙ ap (plot_with q.id q.k) g

pub one_plot : OnePlot
one_plot p q id k hp rp hq rq =
    let a = agree_at p q id k hp rp hq rq 6 (omega arith) in
    let last : numbers p 7 ≡ numbers q 7 =
    same_rising ◌<◌ numbers_one_way _ _ hp.numbers_rise hq.numbers_rise
    (last_carried p q id k hp hq a) (last_carried q p id k hq hp (agree_back p q 6 a)) in
    let all : Agree p q 7 = λ m l.
    ⊎_elim
    (λ (g : m < 6). a m g)
    (λ (g : 6 ≤ m). let e : 6 ≡ m = omega arith in subst (λ v. numbers p (suc v) ≡ numbers q (suc v)) e last)
    (cases_lt m 6) in
    same_plot p q (hp.same_id ∙ sym hq.same_id) (hp.same_size ∙ sym hq.same_size) (tables_agree p q hp.seven hq.seven all)
