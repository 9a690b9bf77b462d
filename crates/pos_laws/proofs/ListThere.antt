-- Over a plot each challenge has its list; and for the smallest sizes nothing matches.
use Rattle.std.proofs.Common.{◌≡◌, ℕ, zero, suc, ◌+◌, ◌^◌, ◌<◌, ◌≤◌, List, [], ◌∷◌, length, slice_index_or, sym, refl, ap, subst, arith, pow_mono}
use Rattle.pos_tuple.specs.Proof.{Proof}
use Rattle.pos_order.specs.Order.{Turning}
use Rattle.pos_laws.specs.Tables.{HasNode}
use Rattle.pos_laws.specs.Listing.{listing, AreTurned}
use Rattle.pos_laws.specs.ThereLaws.{ListIsThere, SmallSizesAreNeverAbove}
use Rattle.pos_order.proofs.NodeParts.{node_parts, some_entry}
use Rattle.pos_laws.proofs.NodeSizes.{nodes_have_their_bits}
use Rattle.pos_laws.proofs.Listed.{listing_turns, turned_listing_is_the_list}

-- a list of what is found for each tuple of a list
record Chosen (P : List ℕ → List ℕ → Type 0) (xs : List (List ℕ)) : Type 0 where
  out : List (List ℕ)
  as_long : length out ≡ length xs
  each : (i : ℕ) → i < length xs → P (slice_index_or out i []) (slice_index_or xs i [])

choose : (P : List ℕ → List ℕ → Type 0) (xs : List (List ℕ)) →
    ((i : ℕ) → i < length xs → (z : List ℕ) × P z (slice_index_or xs i [])) → Chosen P xs
choose P [] f = record { out = []; as_long = refl; each = λ i l. absurd (omega arith) }
choose P (x ∷ xs) f =
    let z = f 0 (omega arith) in
    let rest = choose P xs (λ i l. f (suc i) (omega arith)) in
    record { out = z.0 ∷ rest.out; as_long = ap suc rest.as_long; each = at z.0 rest.out z.1 rest.each }
  where
    at : (z : List ℕ) (out : List (List ℕ)) → P z x → ((i : ℕ) → i < length xs → P (slice_index_or out i []) (slice_index_or xs i [])) →
        (i : ℕ) → i < suc (length xs) → P (slice_index_or (z ∷ out) i []) (slice_index_or (x ∷ xs) i [])
    at z out first rest zero l = first
    at z out first rest (suc i) l = rest i (omega arith)

pub list_is_there : ListIsThere
list_is_there p id k c h few =
    let ch = choose (λ z x. Turning 6 z x × Proof id k c z) (listing p c)
    (λ i l. let z = listing_turns p id k c i h few l in (z.0, (z.1, z.2))) in
    let turned : AreTurned p c ch.out = record {
      as_long = ch.as_long;
      turned = λ i l. (ch.each i (omega (arith, ch.as_long))).0;
      proofs = λ i l.
          subst (λ b. Proof p.id b c (slice_index_or ch.out i [])) (sym h.same_size)
          (subst (λ a. Proof a k c (slice_index_or ch.out i [])) (sym h.same_id) (ch.each i (omega (arith, ch.as_long))).1);
    } in
    (ch.out, turned, turned_listing_is_the_list p id k c ch.out h few turned)

-- ---- the smallest sizes

no_node : (id : List ℕ) (k n : ℕ) (xs : List ℕ) → k ≤ 7 → HasNode id k (suc n) xs → ⊥
no_node id k n xs l h =
    let e = some_entry _ h in
    let p = node_parts id k n xs e.0 e.1 in
    let a = nodes_have_their_bits id k n _ p.right p.right_node in
    let f : k + 6 ≤ 13 = omega arith in
    let b : 2 ^ (k + 6) ≤ 2 ^ 13 = pow_mono f in
    let m = p.matching.next_bucket in
    omega arith

pub small_sizes_are_never_above : SmallSizesAreNeverAbove
small_sizes_are_never_above id k zero c l pos above = omega arith
small_sizes_are_never_above id k (suc n) c l pos above = no_node id k n _ l (above.3 0 [] (omega (arith, above.1)))
