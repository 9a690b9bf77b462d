-- The pairs in order have their greater number first.
use Rattle.std.proofs.Common.{◌≡◌, ℕ, zero, suc, ◌+◌, ◌<◌, Bool, true, false, nat_lt, if◌then◌else◌, refl, arith}
use Rattle.std.proofs.lemmas.Bool.{ltb-true}
use Rattle.pos_lists.specs.Pairs.{next_pair, pair_at}
use Rattle.pos_lists.specs.PairLaws.{PairsAreInOrder}

abbrev IsInOrder : ℕ × ℕ → Type 0
IsInOrder p = p.1 < p.0

-- the next pair of one that is in order
next_in_order : (a b : ℕ) → b < a → IsInOrder (next_pair (a, b))
unfolding next_pair
next_in_order a b p = cases (nat_lt (b + 1) a) refl
  where
    cases : (t : Bool) → nat_lt (b + 1) a ≡ t → IsInOrder (if t then (a, b + 1) else (a + 1, 0))
    cases true h = ltb-true (b + 1) a h
    cases false h = omega arith

pub pairs_are_in_order : PairsAreInOrder
unfolding pair_at
pairs_are_in_order zero = omega arith
pairs_are_in_order (suc s) = next_in_order (pair_at s).0 (pair_at s).1 (pairs_are_in_order s)
