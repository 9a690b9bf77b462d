-- The pairs of one left value: target by target, and for each target the run of right values that are it.
use Rattle.std.proofs.Common.{◌≡◌, ◌≢◌, ℕ, ◌+◌, ◌-◌, ◌*◌, ◌%◌, ◌^◌, ◌<◌, ◌≤◌, ◌⊎◌, List, [], ◌∷◌, ◌++◌, length, get_or, arith, sym, ◌∙◌, ap, subst, ⊎_elim}
use Rattle.pos_tuple.specs.Match.{bucket}
use Rattle.pos_buckets.specs.Pairs.{IsPair, ArePairs}
use Rattle.pos_buckets.specs.Places.{AreMarked}
use Rattle.pos_buckets.specs.PairsBelow.{only_target, point, pair_point, AreBeside, ArePairsBelow, IsRun}
use Rattle.pos_buckets.specs.Targets.{target_place}
use Rattle.pos_buckets.proofs.TargetLemmas.{match-place, place-match, target_place-lt}
use Rattle.pos_buckets.proofs.PairLemmas.{below-past, below-push}

parts :
    (i m a b x n j : ℕ) → n < 64 → m < 64 → j < 2 ^ 64 → a ≤ 2 ^ 64 → b ≤ 2 ^ 64 → point i m a ≤ point x n j → point x n j < point i m b
    → (x ≡ i) × (n ≡ m) × (a ≤ j) × (j < b)
parts i m a b x n j h1 h2 h3 h4 h5 low high = (omega arith, omega arith, omega arith, omega arith)

-- a pair whose point lies between two points of one left place and one target
pub pair-between :
    (l r : List ℕ) (i m a b : ℕ) (p : ℕ × ℕ) → length r < 2 ^ 64 → m < 64 → a ≤ 2 ^ 64 → b ≤ 2 ^ 64 → IsPair l r p
    → point i m a ≤ pair_point l r p → pair_point l r p < point i m b
    → (a ≤ p.1) × (p.1 < b)
    × (get_or r p.1 0 ≡ (bucket (get_or l i 0) + 1) * 15113 + target_place (bucket (get_or l i 0) % 2) (get_or l i 0 % 15113) m)
pair-between l r i m a b p few m_lt a_lt b_lt is low high =
    let place = match-place (get_or l p.0 0) (get_or r p.1 0) is.matching in
    let inside : p.1 < length r = is.right_in in
    let found : (p.0 ≡ i) × (only_target (get_or l p.0 0) (get_or r p.1 0) ≡ m) × (a ≤ p.1) × (p.1 < b) =
    parts i m a b p.0 (only_target (get_or l p.0 0) (get_or r p.1 0)) p.1 place.0 m_lt (omega arith) a_lt b_lt low high
    in (
      found.2,
      found.3,
      subst (λ x. get_or r p.1 0 ≡ (bucket (get_or l x 0) + 1) * 15113 + target_place (bucket (get_or l x 0) % 2) (get_or l x 0 % 15113) m) found.0
          (subst (λ n. get_or r p.1 0 ≡ (bucket (get_or l p.0 0) + 1) * 15113 + target_place (bucket (get_or l p.0 0) % 2) (get_or l p.0 0 % 15113) n) found.1 place.1),
    )

-- up to the first value of the run
pub run-start :
    (l r : List ℕ) (i m target first : ℕ) (pairs : List (ℕ × ℕ)) → length r < 2 ^ 64 → m < 64
    → IsRun target first m (get_or l i 0) r
    → ArePairsBelow l r (point i m 0) pairs → ArePairsBelow l r (point i m first) pairs
run-start l r i m target first pairs few m_lt run h =
    let inside : first < length r = run.inside in
    below-past l r (point i m 0) (point i m first) pairs h (omega arith)
    (λ p is low high.
    let found = pair-between l r i m 0 first p few m_lt (omega arith) (omega arith) is low high in
    let less = run.before p.1 found.1 in
    let target_is : target ≡ (bucket (get_or l i 0) + 1) * 15113 + target_place (bucket (get_or l i 0) % 2) (get_or l i 0 % 15113) m = run.is_target in
    let same : get_or r p.1 0 ≡ target = found.2 ∙ sym target_is in
    omega (arith, less, same))

-- one value of the run
pub run-more :
    (l r : List ℕ) (i m target first j : ℕ) (pairs : List (ℕ × ℕ)) → length r < 2 ^ 64 → m < 64 → i < length l → j < length r
    → IsRun target first m (get_or l i 0) r → get_or r j 0 ≡ target
    → ArePairsBelow l r (point i m j) pairs → ArePairsBelow l r (point i m (j + 1)) (pairs ++ (i, j) ∷ [])
run-more l r i m target first j pairs few m_lt i_lt j_lt run same h =
    let found = place-match (get_or l i 0) (get_or r j 0) m m_lt (same ∙ run.is_target) in
    let is : IsPair l r (i, j) = record { left_in = i_lt; right_in = j_lt; matching = found.0 } in
    let at : pair_point l r (i, j) ≡ point i m j = ap (λ n. point i n j) found.1 in
    let next : point i m j + 1 ≡ point i m (j + 1) = omega arith in
    subst (λ n. ArePairsBelow l r n (pairs ++ (i, j) ∷ [])) next (below-push l r (point i m j) (i, j) pairs few h is at)

-- behind the run
pub run-end :
    (l r : List ℕ) (i m target first j : ℕ) (pairs : List (ℕ × ℕ)) → length r < 2 ^ 64 → m < 64 → first ≤ j
    → j ≤ length r → IsRun target first m (get_or l i 0) r → (j < length r → get_or r j 0 ≢ target)
    → ArePairsBelow l r (point i m j) pairs → ArePairsBelow l r (point i (m + 1) 0) pairs
run-end l r i m target first j pairs few m_lt from up_to run other h =
    let next : point i m (2 ^ 64) ≡ point i (m + 1) 0 = omega arith in
    subst (λ n. ArePairsBelow l r n pairs) next
    (below-past l r (point i m j) (point i m (2 ^ 64)) pairs h (omega arith)
    (λ p is low high.
    let found = pair-between l r i m j (2 ^ 64) p few m_lt (omega arith) (omega arith) is low high in
    let inside : p.1 < length r = is.right_in in
    let here : j < length r = omega (arith, found.0) in
    let same : get_or r p.1 0 ≡ target = found.2 ∙ sym run.is_target in
    let up : get_or r j 0 ≤ get_or r p.1 0 = run.rise j p.1 0 found.0 inside in
    let from_first : get_or r first 0 ≤ get_or r j 0 = run.rise first j 0 from here in
    other here (omega (arith, same, up, from_first, run.first_is))))

-- a target whose place is not marked has no run
pub target-none :
    (l r marks firsts : List ℕ) (base i m : ℕ) (pairs : List (ℕ × ℕ)) → length r < 2 ^ 64 → m < 64 → i < length l → AreBeside base l r
    → AreMarked base r (length r) marks firsts
    → get_or marks (target_place (bucket (get_or l i 0) % 2) (get_or l i 0 % 15113) m) 0 ≡ 0
    → ArePairsBelow l r (point i m 0) pairs → ArePairsBelow l r (point i (m + 1) 0) pairs
target-none l r marks firsts base i m pairs few m_lt i_lt beside marked none h =
    let next : point i m (2 ^ 64) ≡ point i (m + 1) 0 = omega arith in
    let base_is : (bucket (get_or l i 0) + 1) * 15113 ≡ base = beside.lefts i i_lt in
    let place = target_place (bucket (get_or l i 0) % 2) (get_or l i 0 % 15113) m in
    subst (λ n. ArePairsBelow l r n pairs) next
    (below-past l r (point i m 0) (point i m (2 ^ 64)) pairs h (omega arith)
    (λ p is low high.
    let found = pair-between l r i m 0 (2 ^ 64) p few m_lt (omega arith) (omega arith) is low high in
    let mark = marked.marked p.1 is.right_in in
    let value : get_or r p.1 0 ≡ base + place = found.2 ∙ ap (λ b. b + place) base_is in
    let at : get_or r p.1 0 - base ≡ place = omega (arith, value) in
    let gone : get_or marks (get_or r p.1 0 - base) 0 ≡ 0 = rw at none in
    omega (arith, mark, gone)))

-- and one whose place is marked has the run that begins at the first value there
pub target-run :
    (l r marks firsts : List ℕ) (base i m : ℕ) → i < length l → AreBeside base l r
    → AreMarked base r (length r) marks firsts
    → get_or marks (target_place (bucket (get_or l i 0) % 2) (get_or l i 0 % 15113) m) 0 ≢ 0
    → IsRun (base + target_place (bucket (get_or l i 0) % 2) (get_or l i 0 % 15113) m)
    (get_or firsts (target_place (bucket (get_or l i 0) % 2) (get_or l i 0 % 15113) m) 0) m (get_or l i 0) r
target-run l r marks firsts base i m i_lt beside marked there =
    let place = target_place (bucket (get_or l i 0) % 2) (get_or l i 0 % 15113) m in
    let place_lt : place < 15113 = target_place-lt _ _ _ in
    let base_is : (bucket (get_or l i 0) + 1) * 15113 ≡ base = beside.lefts i i_lt in
    let mark : 0 < get_or marks place 0 = omega (arith, there) in
    let first = marked.first place place_lt mark in
    record {
      is_target = ap (λ b. b + place) (sym base_is);
      inside = first.0;
      first_is = first.1;
      before = λ j lt. marked.least place j place_lt mark lt;
      rise = beside.rise;
      next = λ j lt. let inside = beside.rights j lt in omega (arith, inside.0, inside.1, base_is);
    }

pub next-left : (l r : List ℕ) (i m : ℕ) (pairs : List (ℕ × ℕ)) → m ≡ 64 → ArePairsBelow l r (point i m 0) pairs → ArePairsBelow l r (point (i + 1) 0 0) pairs
next-left l r i m pairs e h =
    let next : point i m 0 ≡ point (i + 1) 0 0 = omega arith in subst (λ n. ArePairsBelow l r n pairs) next h

pub pairs-none : (l r : List ℕ) (pairs : List (ℕ × ℕ)) → pairs ≡ [] → (length l ≡ 0) ⊎ (length r ≡ 0) → ArePairs l r pairs
pairs-none l r pairs e none =
    subst (λ ps. ArePairs l r ps) (sym e)
    (record {
      each = λ i d lt. absurd (omega arith);
      all = λ p is. absurd (⊎_elim (λ a. let lt = is.left_in in omega (arith, lt)) (λ a. let lt = is.right_in in omega (arith, lt)) none);
      order = λ i j d lt lt2. absurd (omega arith);
    })
