-- Trees that rise by place, joined by line points: the joined trees rise with their points.
use Rattle.std.proofs.Common.{◌≡◌, ℕ, ◌<◌, ⊎_elim, List, ◌++◌, length, sym, ap, ap₂, ◌∙◌, subst, arith}
use Rattle.std.proofs.lemmas.Bool.{cases_order}
use Rattle.pos_lists.specs.Pairs.{greater, lesser}
use Rattle.pos_laws.specs.OrderLaws.{TreesRise, joined_tree, PointsRiseAsTrees, PointsArePlotOrdered}
use Rattle.pos_laws.proofs.LinePoints.{points_rise, point_of_a_pair, point_has_its_pair}
use Rattle.pos_order.proofs.OrderLemmas.{Under, under_from_below, below_from_under, under_back, under_front, under_one_way, lesser_first-kept, lesser_first-exchanged}

pub trees_under : (f : ℕ → List ℕ) (m : ℕ) → TreesRise f m → (i j : ℕ) → i < j → j < m → Under (f i) (f j)
trees_under f m rise i j h l = under_from_below (f i) (f j) (rise i j h l)

-- trees that rise have one length
pub trees_one_length : (f : ℕ → List ℕ) (m : ℕ) → TreesRise f m → (i j : ℕ) → i < m → j < m → length (f i) ≡ length (f j)
trees_one_length f m rise i j h l =
    ⊎_elim
    (λ (e : i ≡ j). ap (λ n. length (f n)) e)
    (⊎_elim
    (λ (g : i < j). (rise i j g l).one_length)
    (λ (g : j < i). sym (rise j i g h).one_length))
    (cases_order i j)

-- trees that rise differ
pub trees_apart : (f : ℕ → List ℕ) (m : ℕ) → TreesRise f m → (i j : ℕ) → i < m → j < m → f i ≡ f j → i ≡ j
trees_apart f m rise i j h l e =
    ⊎_elim
    (λ (g : i ≡ j). g)
    (⊎_elim
    (λ (g : i < j). let u = trees_under f m rise i j g l in absurd (under_one_way _ _ u (subst (λ t. Under t (f i)) e (subst (λ t. Under (f i) t) (sym e) u))))
    (λ (g : j < i). let u = trees_under f m rise j i g h in absurd (under_one_way _ _ u (subst (λ t. Under t (f j)) (sym e) (subst (λ t. Under (f j) t) e u)))))
    (cases_order i j)

pub points_rise_as_trees : PointsRiseAsTrees
points_rise_as_trees f m s t rise l h =
    let p = (point_of_a_pair s).0 in
    let q = (point_of_a_pair t).0 in
    below_from_under _ _
    (⊎_elim
    (λ (g : greater s < greater t).
    under_back _ _ _ _
    (trees_one_length f m rise (lesser s) (lesser t) (omega arith) (omega arith))
    (trees_under f m rise (greater s) (greater t) g l))
    (λ (g : (greater s ≡ greater t) × (lesser s < lesser t)).
    subst (λ n. Under (joined_tree f s) (f (lesser t) ++ f n)) g.0
    (under_front _ _ (f (greater s)) (trees_under f m rise (lesser s) (lesser t) g.1 (omega arith))))
    (points_rise s t h))

pub points_are_plot_ordered : PointsArePlotOrdered
points_are_plot_ordered f m x y rise h l n =
    ⊎_elim
    (λ (e : x ≡ y). absurd (n e))
    (⊎_elim
    (λ (g : x < y).
    let p = point_has_its_pair x y g in
    ap₂ (λ i j. f i ++ f j) p.0 p.1
    ∙ sym (lesser_first-kept (f x) (f y) (under_one_way _ _ (trees_under f m rise x y g l))))
    (λ (g : y < x).
    let p = point_has_its_pair y x g in
    ap (joined_tree f) p.2
    ∙ ap₂ (λ i j. f i ++ f j) p.0 p.1
    ∙ sym (lesser_first-exchanged (f x) (f y) (trees_under f m rise y x g h))))
    (cases_order x y)
