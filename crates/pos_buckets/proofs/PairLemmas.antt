-- The matching pairs below a point: none at first, then one more or past points without a pair, and at last all.
use Rattle.std.proofs.Common.{◌≡◌, ℕ, ◌+◌, ◌^◌, ◌<◌, ◌≤◌, ◌⊎◌, List, [], ◌∷◌, ◌++◌, length, get_or, arith, sym, ◌∙◌, ap, subst, inl, inr, ⊎_elim}
use Rattle.std.specs.List.{Contains}
use Rattle.std.proofs.lemmas.Bool.{cases_lt, cases_order}
use Rattle.std.proofs.lemmas.List.Elements.{All-push, All-weaker, All-get_or, Contains-append_left, Contains-push}
use Rattle.std.proofs.lemmas.List.Quantifiers.{all_pairs_push}
use Rattle.pos_buckets.specs.Pairs.{IsPair, ComesBefore, ArePairs}
use Rattle.pos_buckets.specs.PairsBelow.{only_target, point, pair_point, ArePairsBelow}
use Rattle.pos_buckets.proofs.TargetLemmas.{match-place, only-is}

pub below-past :
    (l r : List ℕ) (n m : ℕ) (pairs : List (ℕ × ℕ)) → ArePairsBelow l r n pairs → n ≤ m
    → ((p : ℕ × ℕ) → IsPair l r p → n ≤ pair_point l r p → pair_point l r p < m → ⊥)
    → ArePairsBelow l r m pairs
below-past l r n m pairs h up none = record {
  each = h.each;
  below = All-weaker (λ p. pair_point l r p < n) (λ p. pair_point l r p < m) (λ p lt. omega (arith, lt)) pairs h.below;
  all = λ p is lt. ⊎_elim (λ small. h.all p is small) (λ large. absurd (none p is large lt)) (cases_lt (pair_point l r p) n);
  order = h.order;
}

same_pair : (p q : ℕ × ℕ) → p.0 ≡ q.0 → p.1 ≡ q.1 → p ≡ q
same_pair p q e f = ap (λ (a : ℕ). (a, p.1)) e ∙ ap (λ (b : ℕ). (q.0, b)) f

same_point :
    (i m j a n b : ℕ) → m < 64 → n < 64 → j < 2 ^ 64 → b < 2 ^ 64 → point i m j ≡ point a n b → (i ≡ a) × (j ≡ b)
same_point i m j a n b h1 h2 h3 h4 e = (omega arith, omega arith)

-- the parts of the point of a pair are in their ranges
small :
    (l r : List ℕ) (p : ℕ × ℕ) → length r < 2 ^ 64 → IsPair l r p
    → (only_target (get_or l p.0 0) (get_or r p.1 0) < 64) × (p.1 < 2 ^ 64)
small l r p few is = ((match-place _ _ is.matching).0, omega (arith, is.right_in))

pub below-push :
    (l r : List ℕ) (n : ℕ) (p : ℕ × ℕ) (pairs : List (ℕ × ℕ)) → length r < 2 ^ 64 → ArePairsBelow l r n pairs → IsPair l r p
    → pair_point l r p ≡ n → ArePairsBelow l r (n + 1) (pairs ++ p ∷ [])
below-push l r n p pairs few h is at = record {
  each = All-push (IsPair l r) pairs p h.each is;
  below =
      All-push (λ q. pair_point l r q < n + 1) pairs p
      (All-weaker (λ q. pair_point l r q < n) (λ q. pair_point l r q < n + 1) (λ q lt. omega (arith, lt)) pairs h.below)
      (omega (arith, at));
  all = λ q is_q lt.
      ⊎_elim (λ lower. Contains-append_left pairs (p ∷ []) q (h.all q is_q lower))
      (λ upper.
      let here : pair_point l r q ≡ pair_point l r p = omega (arith, at) in
      let q_small = small l r q few is_q in
      let p_small = small l r p few is in
      let parts : (q.0 ≡ p.0) × (q.1 ≡ p.1) = same_point q.0 _ q.1 p.0 _ p.1 q_small.0 p_small.0 q_small.1 p_small.1 here in
      subst (λ x. Contains (pairs ++ p ∷ []) x) (sym (same_pair q p parts.0 parts.1)) (Contains-push pairs p))
      (cases_lt (pair_point l r q) n);
  order =
      all_pairs_push (λ a b. pair_point l r a < pair_point l r b) pairs p h.order
      (λ k d lt. rw at (All-get_or (λ q. pair_point l r q < n) pairs k d lt h.below));
}

ordered :
    (i m j a n b : ℕ) → m < 64 → n < 64 → j < 2 ^ 64 → b < 2 ^ 64 → point i m j < point a n b
    → (i < a) ⊎ ((i ≡ a) × ((m < n) ⊎ ((m ≡ n) × (j < b))))
ordered i m j a n b h1 h2 h3 h4 lt =
    ⊎_elim
    (λ same.
    inr (
      same,
      ⊎_elim (λ same_m. inr (same_m, omega arith)) (λ either. ⊎_elim (λ less. inl less) (λ more. absurd (omega arith)) either)
          (cases_order m n),
    ))
    (λ either. ⊎_elim (λ less. inl less) (λ more. absurd (omega arith)) either)
    (cases_order i a)

before :
    (l r : List ℕ) (p q : ℕ × ℕ) → length r < 2 ^ 64 → IsPair l r p → IsPair l r q
    → pair_point l r p < pair_point l r q → ComesBefore l r p q
before l r p q few is_p is_q lt =
    let mp = only_target (get_or l p.0 0) (get_or r p.1 0) in
    let mq = only_target (get_or l q.0 0) (get_or r q.1 0) in
    let p_small = small l r p few is_p in
    let q_small = small l r q few is_q in
    ⊎_elim (λ less. inl less)
    (λ rest.
    inr (
      rest.0,
      λ m n by_m by_n.
          let m_is : m ≡ mp = only-is _ _ m by_m.0 by_m.1 in
          let n_is : n ≡ mq = only-is _ _ n by_n.0 by_n.1 in
          ⊎_elim (λ less. inl (omega arith)) (λ same. inr (omega (arith, same.0), same.1)) rest.1,
    ))
    (ordered p.0 mp p.1 q.0 mq q.1 p_small.0 q_small.0 p_small.1 q_small.1 lt)

pub below-all :
    (l r : List ℕ) (pairs : List (ℕ × ℕ)) → length r < 2 ^ 64 → ArePairsBelow l r (point (length l) 0 0) pairs → ArePairs l r pairs
below-all l r pairs few h = record {
  each = h.each;
  all = λ p is.
      let parts = small l r p few is in
      let inside : p.0 < length l = is.left_in in h.all p is (omega (arith, parts.0, parts.1));
  order = λ i j d lt lt2.
      before l r (get_or pairs i d) (get_or pairs j d) few
      (All-get_or (IsPair l r) pairs i d (omega arith) h.each) (All-get_or (IsPair l r) pairs j d lt2 h.each)
      (h.order i j d lt lt2);
}
