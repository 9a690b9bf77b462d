-- The first table that is full.
use Rattle.std.proofs.Common.{◌≡◌, ℕ, suc, ◌+◌, ◌-◌, ◌<◌, ◌≤◌, List, ⊎_elim, subst, arith}
use Rattle.std.proofs.lemmas.Bool.{cases_order}
use Rattle.pos_lists.specs.TableLists.{TableLists, entries}
use Rattle.pos_laws.specs.Making.{AreMade, IsAbove}
use Rattle.pos_laws.specs.TableLaws.{MorePairsAreFull, NoneIsFull, OneIsFull}
use Rattle.pos_laws.proofs.Counting.{none_is_above, pairs_are_above}

-- a made level that is not too long has not too many tuples with a node
not_above : (ts : TableLists) (id : List ℕ) (k n m c : ℕ) → AreMade ts id k n → m ≤ n → entries ts m ≤ c → IsAbove id k m c → ⊥
not_above ts id k n m c made l few above =
    let es = made.made m l in
    none_is_above ts id k m c es.0 es.1 (let e = (es.1).one_each in omega (arith, e)) above

pub more_pairs_are_full : MorePairsAreFull
more_pairs_are_full ts id k n c below pairs l made few nodes matching more = record {
  second = omega arith;
  seventh = omega arith;
  above =
      let e : suc n ≡ n + 2 - 1 = omega arith in
      subst (λ v. IsAbove id k v c) e (pairs_are_above ts id k n c below pairs nodes matching more);
  first = λ s g h. not_above ts id k n (s - 1) c made (omega arith) (few (s - 1) (omega arith) (omega arith));
}

pub none_is_full : NoneIsFull
none_is_full ts id k c t made within full =
    let a = full.second in
    let b = full.seventh in
    not_above ts id k 6 (t - 1) c made (omega arith) (within (t - 1) (omega arith) (omega arith)) full.above

pub one_is_full : OneIsFull
one_is_full id k c s t a b =
    ⊎_elim
    (λ (e : s ≡ t). e)
    (⊎_elim
    (λ (l : s < t). absurd (b.first s a.second l a.above))
    (λ (l : t < s). absurd (a.first t b.second l b.above)))
    (cases_order s t)
