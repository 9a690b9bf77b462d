-- The tables of an id are sound.
use Rattle.std.proofs.Common.{◌≡◌, ℕ, suc, ◌+◌, ◌^◌, ◌<◌, slice_index, sym, ◌∙◌, subst, arith}
use Rattle.pos_tuple.specs.Match.{Match}
use Rattle.pos_lists.specs.TableLists.{left_of, right_of, tuple}
use Rattle.pos_laws.specs.Tables.{y_of}
use Rattle.pos_laws.specs.TableLaws.{DescribedIsSound}
use Rattle.pos_order.proofs.NodeParts.{some_entry, match_goes_one_way}
use Rattle.pos_laws.proofs.NodeParts.{y_of-node}
use Rattle.pos_laws.proofs.NodeSizes.{nodes_have_their_bits}
use Rattle.pos_laws.proofs.Described.{pair_matches}

pub described_is_sound : DescribedIsSound
described_is_sound ts id k t = record {
  six = t.six;
  inside = t.inside;
  differ = λ n i l h e.
      let y : ℕ → ℕ = λ q. y_of id k n (tuple ts n q) in
      let m : Match (y (left_of ts (suc n) i)) (y (right_of ts (suc n) i)) = pair_matches ts id k n i t l h in
      let o : Match (y (left_of ts (suc n) i)) (y (left_of ts (suc n) i)) = subst (λ q. Match (y (left_of ts (suc n) i)) (y q)) (sym e) m in
      match_goes_one_way _ _ o o;
  as_long = t.as_long;
  below = λ i l.
      let e = some_entry _ (t.nodes 6 i (omega arith) l) in
      let same : slice_index ts.last i ≡ (e.0).y = t.last_y i l ∙ y_of-node id k 6 _ e.0 e.1 in
      subst (λ v. v < 2 ^ (k + 6)) (sym same) (nodes_have_their_bits id k 6 _ e.0 e.1);
}
