-- The listing of the plot of an id, turned to proofs, is the list of the proofs.
use Rattle.std.proofs.Common.{◌≡◌, ℕ, ◌+◌, ◌*◌, ◌/◌, ◌%◌, ◌^◌, ◌<◌, ◌≤◌, ◌==◌, List, [], length, slice_index, slice_index_or, AllPairs, Contains, Some, sym, ap, ap₂, ◌∙◌, subst, arith, eqb-true, eq-eqb}
use Rattle.std.proofs.lemmas.List.{length-map, get_or-map, get_or_default}
use Rattle.std.proofs.lemmas.List.Elements.{filter_passes, All-filter, All-contains_itself}
use Rattle.std.proofs.lemmas.List.Kept.{AllPairs-filter}
use Rattle.std.proofs.lemmas.Nat.{div-mul-add, mod-mul-add}
use Rattle.pos_tuple.specs.Proof.{Proof, f7, challenge_value}
use Rattle.pos_order.specs.Order.{Below, plot_order, Turning}
use Rattle.pos_laws.specs.Tables.{HasNode}
use Rattle.pos_laws.specs.Kept.{IsKept, IsHalved}
use Rattle.pos_lists.specs.PlotLists.{PlotLists, numbers, count, f7_in, place_in}
use Rattle.pos_lists.specs.Trees.{tree}
use Rattle.pos_laws.specs.PlotOf.{PlotOf}
use Rattle.pos_laws.specs.Listing.{asked, listing, AreTurned}
use Rattle.pos_laws.specs.ListingLaws.{ListingTurns, TurnedListingIsTheList, OneList}
use Rattle.pos_order.proofs.NodeParts.{nodes_have_their_length}
use Rattle.pos_order.proofs.OrderLemmas.{under_one_way, under_from_below}
use Rattle.pos_order.proofs.PlotOrderLemmas.{length-plot_order, plot_order-turning}
use Rattle.pos_order.proofs.Turnings.{plot_order_is_exact, one_turning}
use Rattle.pos_laws.proofs.Turnings.{tuples_turn_their_plot_order}
use Rattle.pos_laws.proofs.KeptParts.{kept_is_halved}
use Rattle.pos_laws.proofs.OnePlotOnly.{f7_has_node}
use Rattle.pos_laws.proofs.Sorting.{filter_keeps}
use Rattle.pos_laws.proofs.SameLists.{same_rising, contains_at, at_contained}

-- ---- the numbers that are asked for

pub length-listing : (p : PlotLists) (c : List ℕ) → length (listing p c) ≡ length (asked p c)
unfolding listing
length-listing p c = length-map (asked p c) (λ s. tree p 6 (place_in p.k s))

pub at-listing : (p : PlotLists) (c : List ℕ) (i : ℕ) (d : List ℕ) → i < length (asked p c) →
    slice_index_or (listing p c) i d ≡ tree p 6 (place_in p.k (slice_index (asked p c) i))
unfolding listing
at-listing p c i d l = get_or-map (λ s. tree p 6 (place_in p.k s)) (asked p c) i 0 d l

pub asked_in_table : (p : PlotLists) (c : List ℕ) (i : ℕ) → i < length (asked p c) → Contains (numbers p 7) (slice_index (asked p c) i)
unfolding asked
asked_in_table p c i l =
    All-filter (λ s. f7_in p.k s == challenge_value p.k c) (Contains (numbers p 7)) (numbers p 7) (All-contains_itself (numbers p 7)) i 0 l

pub asked_answers : (p : PlotLists) (c : List ℕ) (i : ℕ) → i < length (asked p c) → f7_in p.k (slice_index (asked p c) i) ≡ challenge_value p.k c
unfolding asked
asked_answers p c i l = eqb-true _ _ (filter_passes (λ s. f7_in p.k s == challenge_value p.k c) (numbers p 7) i 0 l)

pub asked_rise : (p : PlotLists) (c : List ℕ) → AllPairs ◌<◌ (numbers p 7) → AllPairs ◌<◌ (asked p c)
unfolding asked
asked_rise p c rise = AllPairs-filter ◌<◌ (λ s. f7_in p.k s == challenge_value p.k c) (numbers p 7) rise

asked_has : (p : PlotLists) (c : List ℕ) (s : ℕ) → Contains (numbers p 7) s → f7_in p.k s ≡ challenge_value p.k c → Contains (asked p c) s
unfolding asked
asked_has p c s h e = filter_keeps (λ s. f7_in p.k s == challenge_value p.k c) (numbers p 7) s (eq-eqb _ _ e) h

-- ---- what stands at a place of the listing

record ListedAt (p : PlotLists) (id : List ℕ) (k : ℕ) (c : List ℕ) (i : ℕ) : Type 0 where
  place : ℕ
  inside : place < count p 6
  values : List ℕ
  tree_is : tree p 6 place ≡ plot_order 6 values
  answers : f7 id k values ≡ Some (challenge_value k c)
  listed : slice_index_or (listing p c) i [] ≡ tree p 6 place
  number : slice_index (asked p c) i ≡ challenge_value k c * 2 ^ (k + 1) + place

split_number : (p : PlotLists) (k v j s : ℕ) → p.k ≡ k → j < 2 ^ (k + 1) → s ≡ v * 2 ^ (k + 1) + j → (f7_in p.k s ≡ v) × (place_in p.k s ≡ j)
split_number p k v j s size l e = (
  ap₂ (λ a b. a / 2 ^ (b + 1)) e size ∙ div-mul-add v (2 ^ (k + 1)) j l,
  ap₂ (λ a b. a % 2 ^ (b + 1)) e size ∙ mod-mul-add v (2 ^ (k + 1)) j l,
)

listed_at : (p : PlotLists) (id : List ℕ) (k : ℕ) (c : List ℕ) → PlotOf p id k → count p 6 ≤ 2 ^ (k + 1) →
    (i : ℕ) → i < length (listing p c) → ListedAt p id k c i
listed_at p id k c h few i l =
    let g : i < length (asked p c) = omega (arith, length-listing p c) in
    let n = h.each_number _ (asked_in_table p c i g) in
    let last = n.2 in
    let o : n.0 < 2 ^ (k + 1) = omega (arith, n.1) in
    let parts = split_number p k last.1 n.0 _ h.same_size o last.4 in
    let v : last.1 ≡ challenge_value k c = sym parts.0 ∙ asked_answers p c i g ∙ ap (λ b. challenge_value b c) h.same_size in
    record {
      place = n.0;
      inside = n.1;
      values = last.0;
      tree_is = last.2;
      answers = last.3 ∙ ap Some v;
      listed = at-listing p c i [] g ∙ ap (tree p 6) parts.1;
      number = last.4 ∙ ap (λ b. b * 2 ^ (k + 1) + n.0) v;
    }

-- ---- a tuple of 64 with a node and its plot order

sixty_four : (id : List ℕ) (k : ℕ) (c xs : List ℕ) → Proof id k c xs → HasNode id k 6 xs
sixty_four id k c xs h = f7_has_node id k xs _ h.answers

node_is_kept : (id : List ℕ) (k : ℕ) (xs : List ℕ) → HasNode id k 6 xs → IsKept id k 6 xs
unfolding IsHalved
node_is_kept id k xs h = (kept_is_halved id k 6 xs (omega arith)).1 h

-- the tuple turns its plot order, and is in plot order the same as it
turns_back : (id : List ℕ) (k : ℕ) (xs : List ℕ) → HasNode id k 6 xs → Turning 6 xs (plot_order 6 xs)
turns_back id k xs h = tuples_turn_their_plot_order 6 xs (nodes_have_their_length id k 6 xs h)

in_plot_order : (id : List ℕ) (k : ℕ) (zs xs : List ℕ) → HasNode id k 6 xs → Turning 6 zs (plot_order 6 xs) → plot_order 6 zs ≡ plot_order 6 xs
in_plot_order id k zs xs h t =
    let l : length (plot_order 6 xs) ≡ 64 = length-plot_order 6 xs ∙ nodes_have_their_length id k 6 xs h in
    plot_order-turning 6 zs (plot_order 6 xs) l t
    ∙ sym (plot_order-turning 6 xs (plot_order 6 xs) l (turns_back id k xs h))

pub listing_turns : ListingTurns
listing_turns p id k c i h few l =
    let a = listed_at p id k c h few i l in
    let node = f7_has_node id k a.values _ a.answers in (
      a.values,
      subst (Turning 6 a.values) (sym (a.listed ∙ a.tree_is)) (turns_back id k a.values node),
      record { values = nodes_have_their_length id k 6 a.values node; answers = a.answers },
    )

-- ---- the list

module _ (p : PlotLists) (id : List ℕ) (k : ℕ) (c : List ℕ) (out : List (List ℕ)) (h : PlotOf p id k) (few : count p 6 ≤ 2 ^ (k + 1)) (t : AreTurned p c out) where
  out_proof : (i : ℕ) → i < length out → Proof id k c (slice_index_or out i [])
  out_proof i l =
      subst (λ a. Proof a k c (slice_index_or out i [])) h.same_id
      (subst (λ b. Proof p.id b c (slice_index_or out i [])) h.same_size (t.proofs i l))

  out_listed : (i : ℕ) → i < length out → ListedAt p id k c i
  out_listed i l = listed_at p id k c h few i (omega (arith, t.as_long))

  -- each turned tuple is, in plot order, the listed tree
  out_order : (i : ℕ) (l : i < length out) → plot_order 6 (slice_index_or out i []) ≡ tree p 6 (out_listed i l).place
  out_order i l =
      let a = out_listed i l in
      in_plot_order id k _ a.values (f7_has_node id k a.values _ a.answers)
      (subst (Turning 6 (slice_index_or out i [])) (a.listed ∙ a.tree_is) (t.turned i l))
      ∙ sym a.tree_is

  out_rises : AllPairs (λ a b. Below (plot_order 6 a) (plot_order 6 b)) out
  out_rises i j d l g =
      let li : i < length out = omega arith in
      let a = out_listed i li in
      let b = out_listed j g in
      let o = asked_rise p c h.numbers_rise i j 0 l (omega (arith, t.as_long, length-listing p c)) in
      let e = a.number in
      let f = b.number in
      let less : a.place < b.place = omega arith in
      subst (λ x. Below (plot_order 6 x) (plot_order 6 (slice_index_or out j d))) (get_or_default out i [] d li)
      (subst (λ x. Below (plot_order 6 (slice_index_or out i [])) (plot_order 6 x)) (get_or_default out j [] d g)
      (subst (λ x. Below x (plot_order 6 (slice_index_or out j []))) (sym (out_order i li))
      (subst (Below (tree p 6 a.place)) (sym (out_order j g))
      (h.trees_rise 5 a.place b.place (omega arith) less b.inside))))

  -- a proof is listed, and so turned
  proof_number : (xs : List ℕ) → Proof id k c xs → (s : ℕ) × Contains (asked p c) s × (tree p 6 (place_in p.k s) ≡ plot_order 6 xs)
  proof_number xs q =
      let node = sixty_four id k c xs q in
      let i = h.all 5 xs (omega arith) (node_is_kept id k xs node) in
      let s = h.each_place i.0 i.1 in
      let last = s.2 in
      let same : last.0 ≡ xs =
      plot_order_is_exact id k 6 last.0 xs (f7_has_node id k last.0 last.1 last.3) node (sym last.2 ∙ i.2) in
      let v : Some last.1 ≡ Some (challenge_value k c) = sym last.3 ∙ ap (f7 id k) same ∙ q.answers in
      let w : last.1 ≡ challenge_value k c = cc in
      let parts = split_number p k last.1 i.0 s.0 h.same_size (omega (arith, i.1)) last.4 in (
        s.0,
        asked_has p c s.0 s.1 (parts.0 ∙ w ∙ ap (λ b. challenge_value b c) (sym h.same_size)),
        ap (tree p 6) parts.1 ∙ i.2,
      )

  out_has : (xs : List ℕ) → Proof id k c xs → Contains out xs
  out_has xs q =
      let s = proof_number xs q in
      let j = at_contained (asked p c) s.0 0 s.1 in
      let l : j.0 < length out = omega (arith, j.1, t.as_long, length-listing p c) in
      let node = sixty_four id k c xs q in
      let listed : slice_index_or (listing p c) j.0 [] ≡ plot_order 6 xs =
      at-listing p c j.0 [] j.1 ∙ ap (λ n. tree p 6 (place_in p.k n)) j.2 ∙ s.2 in
      let same : slice_index_or out j.0 [] ≡ xs =
      one_turning id k 6 _ xs (plot_order 6 xs)
      (subst (Turning 6 (slice_index_or out j.0 [])) listed (t.turned j.0 l))
      (turns_back id k xs node)
      (sixty_four id k c _ (out_proof j.0 l)) node in
      subst (Contains out) same (contains_at out j.0 [] l)

pub turned_listing_is_the_list : TurnedListingIsTheList
turned_listing_is_the_list p id k c out h few t = record {
  exactly = λ xs. (
    λ q. let i = at_contained out xs [] q in subst (Proof id k c) i.2 (out_proof p id k c out h few t i.0 i.1),
    out_has p id k c out h few t xs,
  );
  rise = out_rises p id k c out h few t;
}

pub one_list : OneList
one_list id k c a b h g =
    same_rising (λ x y. Below (plot_order 6 x) (plot_order 6 y))
    (λ x y l o. under_one_way _ _ (under_from_below _ _ l) (under_from_below _ _ o))
    a b h.rise g.rise
    (λ z q. (g.exactly z).1 ((h.exactly z).0 q))
    (λ z q. (h.exactly z).1 ((g.exactly z).0 q))
