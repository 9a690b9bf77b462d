-- One table from the table below: its entries are the nodes of its tuples, all of them and each once.
use Rattle.std.proofs.Common.{◌≡◌, ◌≢◌, ℕ, suc, ◌^◌, ◌<◌, ⊎_elim, List, [], ◌∷◌, ◌++◌, length, slice_index, slice_index_or, AllPairs, Some, sym, ap, ap₂, ◌∙◌, subst, arith, take-append-drop}
use Rattle.std.proofs.lemmas.Bool.{cases_order}
use Rattle.std.proofs.lemmas.List.{length-map, get_or-map, get_or_default}
use Rattle.pos_tuple.specs.declared.entry.Entry.{Entry}
use Rattle.pos_tuple.specs.Match.{Match}
use Rattle.pos_tuple.specs.Node.{node, first_entry}
use Rattle.pos_laws.specs.Tables.{HasNode}
use Rattle.pos_lists.specs.TableLists.{TableLists, pairs_of, entries, left_of, right_of, tuple, left_in, right_in}
use Rattle.pos_laws.specs.Making.{AreNodes, AreMatching, IsNextTable}
use Rattle.pos_laws.specs.TableLaws.{FirstTableIsRight, NextTableIsRight}
use Rattle.pos_order.proofs.NodeParts.{node_of_value, value_of_node, node_of_joined, node_parts, some_entry, some_is, nodes_have_their_length}
use Rattle.pos_order.proofs.Turnings.{same_parts}

-- what holds of no two places holds of none at all but a place and itself
pub apart : {X : Type 0} (xs : List X) (d : X) → AllPairs ◌≢◌ xs → (i j : ℕ) → i < length xs → j < length xs →
    slice_index_or xs i d ≡ slice_index_or xs j d → i ≡ j
apart xs d once i j h l e =
    ⊎_elim
    (λ (g : i ≡ j). g)
    (⊎_elim
    (λ (g : i < j). absurd (once i j d g l e))
    (λ (g : j < i). absurd (once j i d g h (sym e))))
    (cases_order i j)

pub first_table_is_right : FirstTableIsRight
unfolding entries tuple
first_table_is_right ts id k es h = record {
  one_each = ap length h.made ∙ length-map _ _;
  nodes = λ i d l.
      let m : i < length ts.values = omega (arith, ap length h.made ∙ length-map ts.values (first_entry id k)) in
      node_of_value id k (slice_index ts.values i) (h.below i 0 m)
      ∙ ap Some (sym (get_or-map (first_entry id k) ts.values i 0 d m) ∙ ap (λ s. slice_index_or s i d) (sym h.made));
  all = λ xs n.
      let v = value_of_node id k xs n in
      let c = h.all v.0 v.2 in
      (c.0, c.1, ap (λ x. x ∷ []) (get_or_default ts.values c.0 0 v.0 c.1 ∙ c.2) ∙ sym v.1);
  once = λ i j l m e. apart ts.values 0 h.once i j l m (let f : slice_index ts.values i ∷ [] ≡ slice_index ts.values j ∷ [] = e in cc);
}

-- an entry, for a list's default
pub no_entry : Entry
no_entry = record { y = 0; meta = [] }

pub tuple_has_node : (ts : TableLists) (id : List ℕ) (k n : ℕ) (es : List Entry) → AreNodes ts id k n es →
    (i : ℕ) → i < length es → HasNode id k n (tuple ts n i)
tuple_has_node ts id k n es b i l = some_is _ _ (b.nodes i no_entry l)

-- the place of a half of a tuple that has a node, with its entry
half_place : (ts : TableLists) (id : List ℕ) (k n : ℕ) (below : List Entry) → AreNodes ts id k n below →
    (a : List ℕ) (e : Entry) → node id k n a ≡ Some e →
    (i : ℕ) × (i < length below) × (tuple ts n i ≡ a) × (e ≡ slice_index_or below i no_entry)
half_place ts id k n below b a e h =
    let p = b.all a (some_is _ _ h) in
    let l : p.0 < length below = omega (arith, p.1, b.one_each) in
    let f : Some e ≡ Some (slice_index_or below p.0 no_entry) = sym h ∙ sym (ap (node id k n) p.2) ∙ b.nodes p.0 no_entry l in
    (p.0, l, p.2, (cc))

-- a tuple of a next table is the two of its pair
pub tuple-of_pair : (ts : TableLists) (n i l r : ℕ) (a b : List ℕ) → slice_index_or (pairs_of ts (suc n)) i (0, 0) ≡ (l, r) →
    tuple ts n l ≡ a → tuple ts n r ≡ b → tuple ts (suc n) i ≡ a ++ b
unfolding tuple
tuple-of_pair ts n i l r a b e f g =
    ap (λ q. tuple ts n q.0 ++ tuple ts n q.1) e ∙ ap₂ (λ s t. s ++ t) f g

next_all : (ts : TableLists) (id : List ℕ) (k n : ℕ) (below es : List Entry) → AreNodes ts id k n below →
    IsNextTable k n below (pairs_of ts (suc n)) es → (xs : List ℕ) → HasNode id k (suc n) xs →
    (i : ℕ) × (i < length (pairs_of ts (suc n))) × (tuple ts (suc n) i ≡ xs)
next_all ts id k n below es b h xs s =
    let e = some_entry _ s in
    let p = node_parts id k n xs e.0 e.1 in
    let l = half_place ts id k n below b _ _ p.left_node in
    let r = half_place ts id k n below b _ _ p.right_node in
    let m : Match (slice_index_or below l.0 no_entry).y (slice_index_or below r.0 no_entry).y =
    subst (λ t. Match (slice_index_or below l.0 no_entry).y t.y) r.3 (subst (λ t. Match t.y p.right.y) l.3 p.matching) in
    let c = h.all l.0 r.0 no_entry l.1 r.1 m in (
      c.0,
      c.1,
      tuple-of_pair ts n c.0 l.0 r.0 _ _ (get_or_default _ c.0 (0, 0) (l.0, r.0) c.1 ∙ c.2) l.2 r.2
          ∙ take-append-drop (2 ^ n) xs,
    )

pair_same : (ps : List (ℕ × ℕ)) (i j : ℕ) →
    (slice_index_or ps i (0, 0)).0 ≡ (slice_index_or ps j (0, 0)).0 → (slice_index_or ps i (0, 0)).1 ≡ (slice_index_or ps j (0, 0)).1 →
    slice_index_or ps i (0, 0) ≡ slice_index_or ps j (0, 0)
pair_same ps i j e f = ap₂ {C = ℕ × ℕ} (λ x y. (x, y)) e f

-- different pairs of a level are different tuples
pub pairs_once : (ts : TableLists) (id : List ℕ) (k n : ℕ) (below : List Entry) (ps : List (ℕ × ℕ)) → AreNodes ts id k n below →
    AreMatching below ps → (i j : ℕ) → i < length ps → j < length ps →
    tuple ts n (left_in ps i) ++ tuple ts n (right_in ps i) ≡ tuple ts n (left_in ps j) ++ tuple ts n (right_in ps j) → i ≡ j
pairs_once ts id k n below ps b h i j l m e =
    let ii = h.inside i l in
    let ij = h.inside j m in
    let length_of : (q : ℕ) → q < length below → length (tuple ts n q) ≡ 2 ^ n =
    λ q lq. nodes_have_their_length id k n _ (tuple_has_node ts id k n below b q lq) in
    let same : (tuple ts n (left_in ps i) ≡ tuple ts n (left_in ps j)) × (tuple ts n (right_in ps i) ≡ tuple ts n (right_in ps j)) =
    same_parts _ _ _ _ (length_of _ ii.0 ∙ sym (length_of _ ij.0)) e in
    let in_entries : (q : ℕ) → q < length below → q < entries ts n = λ q lq. omega (arith, b.one_each) in
    apart ps (0, 0) h.once i j l m
    (pair_same ps i j
    (b.once _ _ (in_entries _ ii.0) (in_entries _ ij.0) same.0)
    (b.once _ _ (in_entries _ ii.1) (in_entries _ ij.1) same.1))

pub next_table_is_right : NextTableIsRight
unfolding entries tuple
next_table_is_right ts id k n below es b h = record {
  one_each = h.one_each;
  nodes = λ i d l.
      let m : i < length (pairs_of ts (suc n)) = omega (arith, h.one_each) in
      let inside = h.are_matching.inside i m in
      let nl = b.nodes (left_of ts (suc n) i) d inside.0 in
      let nr = b.nodes (right_of ts (suc n) i) d inside.1 in
      node_of_joined id k n _ _ _ _ (nodes_have_their_length id k n _ (some_is _ _ nl)) nl nr (h.are_matching.matching i d m)
      ∙ ap Some (sym (h.made i d m));
  all = next_all ts id k n below es b h;
  once = pairs_once ts id k n below (pairs_of ts (suc n)) b h.are_matching;
}
