-- The pointers' rule by the count of pairs.
use Rattle.std.proofs.Common.{◌≡◌, ℕ, ◌-◌, ◌*◌, ◌/◌, ◌<◌, ◌≤◌, ◌⊎◌, inl, inr, ◌↔◌, arith, ap}
use Rattle.std.proofs.lemmas.Bool.{cases_lt}
use Rattle.pos_lists.specs.Pairs.{greater, pair_at}
use Rattle.pos_points.proofs.PointLemmas.{pairs_below, above_lt, IsAt, pair_at-is}

pub inside_by_pairs : (n m : ℕ) → (greater n < m) ↔ (n < pairs_below m)
inside_by_pairs n m = (into, back (cases_lt (greater n) m))
  where
    at : IsAt (pair_at n) n
    at = pair_at-is n

    into : greater n < m → n < pairs_below m
    into h = let a = above_lt (greater n) m h in let l = at.0 in let e = at.1 in omega arith

    back : greater n < m ⊎ m ≤ greater n → n < pairs_below m → greater n < m
    back (inl h) less = h
    back (inr h) less = absurd (out (cases_lt m (greater n)))
      where
        out : m < greater n ⊎ greater n ≤ m → ⊥
        out (inl more) = let a = above_lt m (greater n) more in let e = at.1 in omega arith
        out (inr same) = let z : m ≡ greater n = omega arith in let w = ap pairs_below z in let e = at.1 in omega arith

pub inside_by_count : (n m : ℕ) → (greater n < m) ↔ (n < m * (m - 1) / 2)
unfolding pairs_below
inside_by_count n m = inside_by_pairs n m
