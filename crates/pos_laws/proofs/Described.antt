-- What the tables of an id say of a place: its tuple's length and halves, and that its pair matches.
use Rattle.std.proofs.Common.{◌≡◌, ℕ, suc, ◌^◌, ◌<◌, ◌≤◌, List, ◌++◌, length, take, drop, sym, refl, ap, ap₂, ◌∙◌, subst, arith}
use Rattle.pos_tuple.specs.Match.{Match}
use Rattle.pos_order.specs.Order.{lesser_first, plot_order}
use Rattle.pos_laws.specs.Tables.{y_of, Describes}
use Rattle.pos_lists.specs.TableLists.{TableLists, entries, left_of, right_of, tuple}
use Rattle.pos_order.proofs.NodeParts.{take-half, drop-half, node_parts, some_entry, nodes_have_their_length}
use Rattle.pos_laws.proofs.NodeParts.{y_of-node}

pub tuple_length : (ts : TableLists) (id : List ℕ) (k n i : ℕ) → Describes ts id k → n ≤ 6 → i < entries ts n →
    length (tuple ts n i) ≡ 2 ^ n
tuple_length ts id k n i h l g = nodes_have_their_length id k n _ (h.nodes n i l g)

-- the two halves of the tuple of a place of the next level
pub first_half : (ts : TableLists) (id : List ℕ) (k n j : ℕ) → Describes ts id k → n < 6 → j < entries ts (suc n) →
    take (2 ^ n) (tuple ts (suc n) j) ≡ tuple ts n (left_of ts (suc n) j)
unfolding tuple
first_half ts id k n j h l g = take-half n _ _ (tuple_length ts id k n _ h (omega arith) (h.inside n j l g).0)

pub second_half : (ts : TableLists) (id : List ℕ) (k n j : ℕ) → Describes ts id k → n < 6 → j < entries ts (suc n) →
    drop (2 ^ n) (tuple ts (suc n) j) ≡ tuple ts n (right_of ts (suc n) j)
unfolding tuple
second_half ts id k n j h l g = drop-half n _ _ (tuple_length ts id k n _ h (omega arith) (h.inside n j l g).0)

pub tuple-suc : (ts : TableLists) (n i : ℕ) → tuple ts (suc n) i ≡ tuple ts n (left_of ts (suc n) i) ++ tuple ts n (right_of ts (suc n) i)
unfolding tuple
tuple-suc ts n i = refl

pub plot_order-tuple : (ts : TableLists) (id : List ℕ) (k n j : ℕ) → Describes ts id k → n < 6 → j < entries ts (suc n) →
    plot_order (suc n) (tuple ts (suc n) j)
    ≡ lesser_first (plot_order n (tuple ts n (left_of ts (suc n) j))) (plot_order n (tuple ts n (right_of ts (suc n) j)))
unfolding plot_order
plot_order-tuple ts id k n j h l g =
    ap₂ (λ a b. lesser_first (plot_order n a) (plot_order n b)) (first_half ts id k n j h l g) (second_half ts id k n j h l g)

-- the y of its two places match
pub pair_matches : (ts : TableLists) (id : List ℕ) (k n j : ℕ) → Describes ts id k → n < 6 → j < entries ts (suc n) →
    Match (y_of id k n (tuple ts n (left_of ts (suc n) j))) (y_of id k n (tuple ts n (right_of ts (suc n) j)))
pair_matches ts id k n j h l g =
    let e = some_entry _ (h.nodes (suc n) j l g) in
    let p = node_parts id k n _ e.0 e.1 in
    let a : p.left.y ≡ y_of id k n (tuple ts n (left_of ts (suc n) j)) =
    sym (y_of-node id k n _ p.left p.left_node) ∙ ap (y_of id k n) (first_half ts id k n j h l g) in
    let b : p.right.y ≡ y_of id k n (tuple ts n (right_of ts (suc n) j)) =
    sym (y_of-node id k n _ p.right p.right_node) ∙ ap (y_of id k n) (second_half ts id k n j h l g) in
    subst (λ y. Match y (y_of id k n (tuple ts n (right_of ts (suc n) j)))) a (subst (Match p.left.y) b p.matching)
