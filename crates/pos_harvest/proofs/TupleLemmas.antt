-- When 64 values are, in one order of halves, a proof.
use Rattle.std.proofs.Common.{◌≡◌, ℕ, List, Option, Some, None, Ok, Err, refl, sym, ap, ◌∙◌}
use Rattle.std.specs.Option.{option_map}
use Rattle.pos_tuple.specs.declared.entry.Entry.{Entry}
use Rattle.pos_tuple.specs.Node.{node}
use Rattle.pos_tuple.specs.Proof.{challenge_value, f7, f7_of, Proof}
use Rattle.pos_order.specs.Turned.{IsTurnedTo, HasNoTurning}
use Rattle.pos_order.proofs.NodeParts.{nodes_have_their_length, some_is}
use Rattle.pos_order.proofs.Turnings.{one_turning}
use Rattle.pos_order.specs.Quality.{pair_quality, quality_index}
use Rattle.pos_lists.specs.PlotLists.{place_in}
use Rattle.pos_lists.specs.Walk.{walk, limb}
use Rattle.pos_layout.specs.declared.damage.Damage.{Damage}
use Rattle.pos_layout.specs.Fields.{header_in, layout_in}
use Rattle.pos_layout.specs.Reading.{num}
use Rattle.pos_harvest.specs.Places.{IsNoProof, tuple_at, quality_in}
use Rattle.pos_harvest.proofs.PlaceLemmas.{walk_from-refused, walk_from-found, limb_from-refused, limb_from-found}

f7_found : (id : List ℕ) (k : ℕ) (xs : List ℕ) (e : Entry) → node id k 6 xs ≡ Some e → f7 id k xs ≡ Some (f7_of e)
unfolding f7
f7_found id k xs e h = rw h refl

pub proof_found : (id : List ℕ) (k : ℕ) (c old new : List ℕ) (root : Entry) → IsTurnedTo id k 6 old new root → f7_of root ≡ challenge_value k c → Proof id k c new
proof_found id k c old new root t same = record {
  values = nodes_have_their_length id k 6 new (some_is _ _ t.found);
  answers = f7_found id k new root t.found ∙ ap (λ v. Some v) same;
}

-- a proof has a node
pub proof_node : (id : List ℕ) (k : ℕ) (c xs : List ℕ) → Proof id k c xs → (e : Entry) × (node id k 6 xs ≡ Some e)
unfolding f7
proof_node id k c xs p = by (node id k 6 xs) refl p.answers
  where
    by : (o : Option Entry) → node id k 6 xs ≡ o → option_map f7_of o ≡ Some (challenge_value k c) → (e : Entry) × (node id k 6 xs ≡ Some e)
    by None e h = cc
    by (Some f) e h = (f, e)

pub proof_only : (id : List ℕ) (k : ℕ) (c old new : List ℕ) (root : Entry) → IsTurnedTo id k 6 old new root
    → (f7_of root ≡ challenge_value k c → ⊥) → IsNoProof id k c old
proof_only id k c old new root t other xs turned p =
    let n = proof_node id k c xs p in
    let same : xs ≡ new = one_turning id k 6 xs new old turned t.turned (some_is _ _ n.1) (some_is _ _ t.found) in
    let e : Some n.0 ≡ Some root = sym n.1 ∙ ap (node id k 6) same ∙ t.found in
    let v : Some (f7_of n.0) ≡ Some (challenge_value k c) = sym (f7_found id k xs n.0 n.1) ∙ p.answers in
    let entry : n.0 ≡ root = cc in
    let value : f7_of n.0 ≡ challenge_value k c = some_same _ _ v in
    other (ap f7_of (sym entry) ∙ value)
  where
    some_same : (m n : ℕ) → Some m ≡ Some n → m ≡ n
    some_same m n h = cc

pub proof_never : (id : List ℕ) (k : ℕ) (c old : List ℕ) → HasNoTurning id k 6 old → IsNoProof id k c old
proof_never id k c old none xs turned p =
    let n = proof_node id k c xs p in
    absurd (unlike n.0 (sym (none xs turned) ∙ n.1))
  where
    unlike : (e : Entry) → None ≡ Some e → ⊥
    unlike e h = cc

-- ---- the values and the quality of a place, by the number of table 7

pub tuple_refused : (b : List ℕ) (i : ℕ) (d : Damage) → num (layout_in b) b 7 i ≡ Err d → tuple_at (layout_in b) b i ≡ Err d
unfolding tuple_at
tuple_refused b i d refused = walk_from-refused (num (layout_in b) b) (header_in b).size i d refused

pub tuple_found : (b : List ℕ) (k i s at : ℕ) → k ≡ (header_in b).size → num (layout_in b) b 7 i ≡ Ok s → at ≡ place_in k s → tuple_at (layout_in b) b i ≡ walk (num (layout_in b) b) 6 at
unfolding tuple_at
tuple_found b k i s at same found is = walk_from-found (num (layout_in b) b) (header_in b).size i s at found (is ∙ ap (λ m. place_in m s) same)

pub quality_refused : (b c : List ℕ) (i : ℕ) (d : Damage) → num (layout_in b) b 7 i ≡ Err d → quality_in (layout_in b) b c i ≡ Err d
unfolding quality_in
quality_refused b c i d refused = rw (limb_from-refused (num (layout_in b) b) (header_in b).size (quality_index c) i d refused) refl

pub quality_found : (b c : List ℕ) (k i s at x y : ℕ) → k ≡ (header_in b).size → num (layout_in b) b 7 i ≡ Ok s → at ≡ place_in k s
    → limb (num (layout_in b) b) 5 (quality_index c) at ≡ Ok (x, y) → quality_in (layout_in b) b c i ≡ Ok (pair_quality k c x y)
unfolding quality_in
quality_found b c k i s at x y same found is pair =
    let e = limb_from-found (num (layout_in b) b) (header_in b).size (quality_index c) i s at found (is ∙ ap (λ m. place_in m s) same) ∙ pair in
    rw (e, same) refl

pub quality_stops : (b c : List ℕ) (k i s at : ℕ) (d : Damage) → k ≡ (header_in b).size → num (layout_in b) b 7 i ≡ Ok s → at ≡ place_in k s
    → limb (num (layout_in b) b) 5 (quality_index c) at ≡ Err d → quality_in (layout_in b) b c i ≡ Err d
unfolding quality_in
quality_stops b c k i s at d same found is stops =
    let e = limb_from-found (num (layout_in b) b) (header_in b).size (quality_index c) i s at found (is ∙ ap (λ m. place_in m s) same) ∙ stops in
    rw e refl
