-- The sizes of a node's parts: the bits of its y and of its metadata, and its values.
use Rattle.std.proofs.Common.{◌≡◌, ℕ, zero, suc, ◌+◌, ◌*◌, ◌^◌, ◌<◌, ◌≤◌, List, [], ◌∷◌, ◌++◌, length, take, drop, All, slice_index_or, Some, sym, refl, ap, ◌∙◌, subst, arith, length-append, length-take-le, length-drop, take-append-drop, mul-le-mul_left}
use Rattle.std.specs.Int.{w32, to_le_bytes}
use Rattle.std.proofs.lemmas.List.Elements.{All-append}
use Rattle.pos_blake3.specs.Blake3.{blake3_block, word_bytes, halves_joined}
use Rattle.pos_tuple.specs.declared.entry.Entry.{Entry}
use Rattle.pos_tuple.specs.Node.{metadata_units, first_entry, hash_bits, collated, next_entry, node}
use Rattle.pos_bits.specs.Blocks.{length-bits}
use Rattle.pos_bits.proofs.BytesLemmas.{length-bits_of}
use Rattle.pos_tuple.proofs.StreamLemmas.{f1-lt}
use Rattle.pos_laws.specs.NodeLaws.{NodeValuesAreBelow, NodesHaveTheirBits, NodesHaveTheirMetadata}
use Rattle.pos_order.proofs.NodeParts.{value_of_node, node_of_value, node_parts, some_entry, some_is}
use Rattle.pos_laws.proofs.NodeParts.{next_y_below}

-- ---- values

pub node_values_are_below : NodeValuesAreBelow
node_values_are_below id k zero xs h =
    let v = value_of_node id k xs h in
    subst (All (λ x. x < 2 ^ k)) (sym v.1) (only v.0 v.2)
  where
    only : (x : ℕ) → x < 2 ^ k → (j d : ℕ) → j < 1 → slice_index_or (x ∷ []) j d < 2 ^ k
    only x l zero d g = l
    only x l (suc j) d g = absurd (omega arith)
node_values_are_below id k (suc n) xs h =
    let e = some_entry _ h in
    let p = node_parts id k n xs e.0 e.1 in
    subst (All (λ x. x < 2 ^ k)) (take-append-drop (2 ^ n) xs)
    (All-append (λ x. x < 2 ^ k) _ _
    (node_values_are_below id k n _ (some_is _ _ p.left_node))
    (node_values_are_below id k n _ (some_is _ _ p.right_node)))

-- ---- the y

first_y_below : (id : List ℕ) (k x : ℕ) → (first_entry id k x).y < 2 ^ (k + 6)
unfolding first_entry
first_y_below id k x = f1-lt id k x

pub nodes_have_their_bits : NodesHaveTheirBits
nodes_have_their_bits id k zero xs e h =
    let v = value_of_node id k xs (some_is _ _ h) in
    let f : Some e ≡ Some (first_entry id k v.0) = sym h ∙ ap (node id k 0) v.1 ∙ node_of_value id k v.0 v.2 in
    let g : e ≡ first_entry id k v.0 = cc in
    subst (λ (q : Entry). q.y < 2 ^ (k + 6)) (sym g) (first_y_below id k v.0)
nodes_have_their_bits id k (suc n) xs e h =
    let p = node_parts id k n xs e h in
    subst (λ (q : Entry). q.y < 2 ^ (k + 6)) (sym p.made) (next_y_below k (n + 2) p.left p.right)

-- ---- the metadata

-- eight words are 32 bytes
length-word_bytes : (ws : List ℕ) → length (word_bytes ws) ≡ 4 * length ws
unfolding word_bytes
length-word_bytes [] = refl
length-word_bytes (w ∷ ws) =
    length-append (to_le_bytes w32 w) (word_bytes ws) ∙ omega (arith, length_four w, length-word_bytes ws)
  where
    length_four : (v : ℕ) → length (to_le_bytes w32 v) ≡ 4
    length_four v = refl

length-hash_bits : (k : ℕ) (l r : Entry) → length (hash_bits k l r) ≡ 256
unfolding hash_bits blake3_block halves_joined
length-hash_bits k l r = length-bits_of _ ∙ ap (λ n. 8 * n) (length-word_bytes _)

-- so many bits of the hash behind the new y
length-hashed : (k u : ℕ) (l r : Entry) → k ≤ 50 → u ≤ 4 → length (take (k * u) (drop (k + 6) (hash_bits k l r))) ≡ k * u
length-hashed k u l r h g =
    let e : k * u ≤ k * 4 = mul-le-mul_left k g in
    length-take-le (k * u) (drop (k + 6) (hash_bits k l r)) (omega (arith, length-drop (k + 6) (hash_bits k l r), length-hash_bits k l r))

length-joined : (l r : Entry) (m : ℕ) → length l.meta ≡ m → length r.meta ≡ m → length (l.meta ++ r.meta) ≡ m + m
length-joined l r m e f = length-append l.meta r.meta ∙ omega arith

-- the metadata of an entry of table n + 2, where those of the two before have their lengths
length-collated : (k n : ℕ) (l r : Entry) → k ≤ 50 → n ≤ 5 →
    length l.meta ≡ k * metadata_units (n + 1) → length r.meta ≡ k * metadata_units (n + 1) →
    length (next_entry k (n + 2) l r).meta ≡ k * metadata_units (n + 2)
unfolding next_entry collated
length-collated k zero l r h g e f = length-joined l r (k * 1) e f ∙ omega arith
length-collated k (suc zero) l r h g e f = length-joined l r (k * 2) e f ∙ omega arith
length-collated k (suc (suc zero)) l r h g e f = length-hashed k 4 l r h (omega arith)
length-collated k (suc (suc (suc zero))) l r h g e f = length-hashed k 3 l r h (omega arith)
length-collated k (suc (suc (suc (suc zero)))) l r h g e f = length-hashed k 2 l r h (omega arith)
length-collated k (suc (suc (suc (suc (suc zero))))) l r h g e f = length-hashed k 0 l r h (omega arith)
length-collated k (suc (suc (suc (suc (suc (suc n)))))) l r h g e f = absurd (omega arith)

pub nodes_have_their_metadata : NodesHaveTheirMetadata
unfolding first_entry
nodes_have_their_metadata id k zero xs e h l q =
    let v = value_of_node id k xs (some_is _ _ q) in
    let f : Some e ≡ Some (first_entry id k v.0) = sym q ∙ ap (node id k 0) v.1 ∙ node_of_value id k v.0 v.2 in
    let g : e ≡ first_entry id k v.0 = cc in
    ap (λ (t : Entry). length t.meta) g ∙ length-bits v.0 k ∙ omega arith
nodes_have_their_metadata id k (suc n) xs e h l q =
    let p = node_parts id k n xs e q in
    let a = nodes_have_their_metadata id k n _ p.left h (omega arith) p.left_node in
    let b = nodes_have_their_metadata id k n _ p.right h (omega arith) p.right_node in
    let c : n + 2 ≡ suc n + 1 = omega arith in
    ap (λ (t : Entry). length t.meta) p.made ∙ length-collated k n p.left p.right h (omega arith) a b
    ∙ ap (λ t. k * metadata_units t) c
