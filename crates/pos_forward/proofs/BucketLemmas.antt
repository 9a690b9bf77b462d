-- The pairs of two buckets that follow one another among the entries taken.
use Rattle.std.proofs.Common.{◌≡◌, ◌≢◌, ℕ, ◌+◌, ◌-◌, ◌<◌, ◌≤◌, ◌⊎◌, List, ◌++◌, length, map, get_or, arith, sym, ap, subst, ◌∙◌, length-append, ⊎_elim}
use Rattle.std.specs.List.{All, AllPairs, Contains}
use Rattle.std.proofs.lemmas.Bool.{cases_lt}
use Rattle.std.proofs.lemmas.List.{get_or-map, get_or_append_left, get_or-append-add}
use Rattle.std.proofs.lemmas.List.Elements.{All-get_or, All-weaker, All-map, All-append, Contains-append_left, Contains-append_right}
use Rattle.pos_tuple.specs.declared.entry.Entry.{Entry}
use Rattle.pos_tuple.specs.Match.{bucket, IsTarget, Match}
use Rattle.pos_buckets.specs.Pairs.{IsPair, ComesBefore, ArePairs}
use Rattle.pos_forward.specs.Tables.{ys_of, ArePairsTo}
use Rattle.pos_forward.specs.Waiting.{shifted}
use Rattle.pos_forward.proofs.ListLemmas.{same-pair, all_pairs-append, all_pairs-map, contains-map}
use Rattle.pos_forward.proofs.TableLemmas.{no_entry, length-ys, pair-match, match-pair}

-- where the entries stand
pub at-before : (before l r : List Entry) (i : ℕ) (d : Entry) → i < length before → get_or (before ++ (l ++ r)) i d ≡ get_or before i d
at-before before l r i d lt = get_or_append_left before (l ++ r) d i lt

pub at-bucket : (before l r : List Entry) (i : ℕ) (d : Entry) → i < length l → get_or (before ++ (l ++ r)) (length before + i) d ≡ get_or l i d
at-bucket before l r i d lt = get_or-append-add before (l ++ r) i d ∙ get_or_append_left l r d i lt

pub at-behind :
    (before l r : List Entry) (j : ℕ) (d : Entry) → get_or (before ++ (l ++ r)) (length before + length l + j) d ≡ get_or r j d
at-behind before l r j d =
    let place : length before + length l + j ≡ length before + (length l + j) = omega arith in
    ap (λ i. get_or (before ++ (l ++ r)) i d) place ∙ get_or-append-add before (l ++ r) (length l + j) d ∙ get_or-append-add l r j d

pub length-parts : (before l r : List Entry) → length (before ++ (l ++ r)) ≡ length before + length l + length r
length-parts before l r = omega (arith, length-append before (l ++ r), length-append l r)

next-bucket : (yl yr : ℕ) → Match yl yr → bucket yr ≡ bucket yl + 1
next-bucket yl yr h = h.next_bucket

local-distinct : (l r : List ℕ) (ps : List (ℕ × ℕ)) → ArePairs l r ps → AllPairs (λ a b. a ≢ b) ps
local-distinct l r ps h = λ i j d lt inside same.
    let p : ℕ × ℕ = get_or ps i d in
    let q : ℕ × ℕ = get_or ps j d in
    let is : IsPair l r p = All-get_or (IsPair l r) ps i d (omega arith) h.each in
    let m : ℕ = is.matching.target.0 in
    let by : (m < 64) × IsTarget (get_or l p.0 0) (get_or r p.1 0) m = (is.matching.target.1, is.matching.target.2) in
    let before : ComesBefore l r p p = subst (λ (x : ℕ × ℕ). ComesBefore l r p x) (sym same) (h.order i j d lt inside) in
    ⊎_elim (λ (less : p.0 < p.0). absurd (omega arith))
    (λ (rest : (p.0 ≡ p.0) × ((m n : ℕ) → (m < 64) × IsTarget (get_or l p.0 0) (get_or r p.1 0) m → (n < 64) × IsTarget (get_or l p.0 0) (get_or r p.1 0) n → (m < n) ⊎ ((m ≡ n) × (p.1 < p.1)))).
    ⊎_elim (λ (less : m < m). absurd (omega arith)) (λ (more : (m ≡ m) × (p.1 < p.1)). absurd (omega (arith, more.1))) (rest.1 m m by by))
    before

module _
    (before l r : List Entry) (ln rn : ℕ)
    (lefts : All (λ e. bucket e.y + 1 ≡ ln) l)
    (rights : All (λ e. bucket e.y + 1 ≡ rn) r)
    (earlier : All (λ e. (bucket e.y + 1 < ln) × (ln < rn)) before) where
  -- the left place of a pair whose right place is in the right bucket
  pub pair-parts :
      (p : ℕ × ℕ) → IsPair (ys_of (before ++ (l ++ r))) (ys_of (before ++ (l ++ r))) p → length before + length l ≤ p.1
      → (length before ≤ p.0) × (p.0 < length before + length l) × (ln + 1 ≡ rn)
  pair-parts p is low =
      let m = pair-match (before ++ (l ++ r)) p no_entry is in
      let len = length-parts before l r in
      let j : ℕ = p.1 - (length before + length l) in
      let j_in : j < length r = omega (arith, m.1) in
      let place : length before + length l + j ≡ p.1 = omega arith in
      let right_is : get_or (before ++ (l ++ r)) p.1 no_entry ≡ get_or r j no_entry = ap (λ i. get_or (before ++ (l ++ r)) i no_entry) (sym place) ∙ at-behind before l r j no_entry in
      let right : bucket (get_or (before ++ (l ++ r)) p.1 no_entry).y + 1 ≡ rn =
      ap (λ (e : Entry). bucket e.y + 1) right_is ∙ All-get_or (λ e. bucket e.y + 1 ≡ rn) r j no_entry j_in rights in
      let next = next-bucket _ _ m.2 in
      ⊎_elim
      (λ (first : p.0 < length before).
      let left_is = ap (λ (e : Entry). bucket e.y + 1) (at-before before l r p.0 no_entry first) in
      let h = All-get_or (λ e. (bucket e.y + 1 < ln) × (ln < rn)) before p.0 no_entry first earlier in
      let low_is : bucket (get_or before p.0 no_entry).y + 1 < ln = h.0 in
      let up_is : ln < rn = h.1 in
      absurd (omega (arith, left_is, low_is, up_is, right, next)))
      (λ (past : length before ≤ p.0).
      ⊎_elim
      (λ (inside : p.0 < length before + length l).
      let i : ℕ = p.0 - length before in
      let i_in : i < length l = omega arith in
      let i_place : length before + i ≡ p.0 = omega arith in
      let left_is : bucket (get_or (before ++ (l ++ r)) p.0 no_entry).y + 1 ≡ ln =
      ap (λ k. bucket (get_or (before ++ (l ++ r)) k no_entry).y + 1) (sym i_place)
      ∙ ap (λ (e : Entry). bucket e.y + 1) (at-bucket before l r i no_entry i_in)
      ∙ All-get_or (λ e. bucket e.y + 1 ≡ ln) l i no_entry i_in lefts in
      (past, inside, omega (arith, left_is, right, next)))
      (λ (behind : length before + length l ≤ p.0).
      let i : ℕ = p.0 - (length before + length l) in
      let i_in : i < length r = omega (arith, m.0) in
      let i_place : length before + length l + i ≡ p.0 = omega arith in
      let left_is : bucket (get_or (before ++ (l ++ r)) p.0 no_entry).y + 1 ≡ rn =
      ap (λ k. bucket (get_or (before ++ (l ++ r)) k no_entry).y + 1) (sym i_place)
      ∙ ap (λ (e : Entry). bucket e.y + 1) (at-behind before l r i no_entry)
      ∙ All-get_or (λ e. bucket e.y + 1 ≡ rn) r i no_entry i_in rights in
      absurd (omega (arith, left_is, right, next)))
      (cases_lt p.0 (length before + length l)))
      (cases_lt p.0 (length before))

  -- buckets that are no neighbours have no pair
  pub pairs-skip :
      (done : List (ℕ × ℕ)) → ln + 1 ≢ rn → ArePairsTo (before ++ (l ++ r)) (length before + length l) done
      → ArePairsTo (before ++ (l ++ r)) (length (before ++ (l ++ r))) done
  pairs-skip done apart h = record {
    each = h.each;
    below =
        All-weaker (λ p. p.1 < length before + length l) (λ p. p.1 < length (before ++ (l ++ r)))
        (λ p lt. omega (arith, length-parts before l r, lt)) done h.below;
    all = λ p is lt.
        ⊎_elim (λ (small : p.1 < length before + length l). h.all p is small)
        (λ (large : length before + length l ≤ p.1). absurd (apart (pair-parts p is large).2))
        (cases_lt p.1 (length before + length l));
    once = h.once;
  }

  -- a pair of places in the two buckets as one of all entries
  pub pair-shifted :
      (q : ℕ × ℕ) → IsPair (ys_of l) (ys_of r) q
      → IsPair (ys_of (before ++ (l ++ r))) (ys_of (before ++ (l ++ r))) (shifted (length before) (length before + length l) q)
  pair-shifted q h =
      let len = length-parts before l r in
      let left : q.0 < length l = omega (arith, length-ys l, h.left_in) in
      let right : q.1 < length r = omega (arith, length-ys r, h.right_in) in
      let yl : get_or (ys_of l) q.0 0 ≡ (get_or (before ++ (l ++ r)) (length before + q.0) no_entry).y =
      get_or-map (λ (e : Entry). e.y) l q.0 no_entry 0 left ∙ ap (λ (e : Entry). e.y) (sym (at-bucket before l r q.0 no_entry left)) in
      let yr : get_or (ys_of r) q.1 0 ≡ (get_or (before ++ (l ++ r)) (length before + length l + q.1) no_entry).y =
      get_or-map (λ (e : Entry). e.y) r q.1 no_entry 0 right ∙ ap (λ (e : Entry). e.y) (sym (at-behind before l r q.1 no_entry)) in
      match-pair (before ++ (l ++ r)) (length before + q.0) (length before + length l + q.1) no_entry (omega arith) (omega arith)
      (subst (λ (a : ℕ). Match a (get_or (before ++ (l ++ r)) (length before + length l + q.1) no_entry).y) yl
      (subst (λ (b : ℕ). Match (get_or (ys_of l) q.0 0) b) yr h.matching))

  pair-back :
      (p : ℕ × ℕ) → IsPair (ys_of (before ++ (l ++ r))) (ys_of (before ++ (l ++ r))) p → length before + length l ≤ p.1
      → IsPair (ys_of l) (ys_of r) (p.0 - length before, p.1 - (length before + length l))
  pair-back p is low =
      let parts = pair-parts p is low in
      let m = pair-match (before ++ (l ++ r)) p no_entry is in
      let len = length-parts before l r in
      let i : ℕ = p.0 - length before in
      let j : ℕ = p.1 - (length before + length l) in
      let from : length before ≤ p.0 = parts.0 in
      let to : p.0 < length before + length l = parts.1 in
      let left : i < length l = omega arith in
      let right : j < length r = omega (arith, m.1) in
      let i_place : length before + i ≡ p.0 = omega arith in
      let j_place : length before + length l + j ≡ p.1 = omega arith in
      let yl : (get_or (before ++ (l ++ r)) p.0 no_entry).y ≡ get_or (ys_of l) i 0 =
      ap (λ k. (get_or (before ++ (l ++ r)) k no_entry).y) (sym i_place)
      ∙ ap (λ (e : Entry). e.y) (at-bucket before l r i no_entry left) ∙ sym (get_or-map (λ (e : Entry). e.y) l i no_entry 0 left) in
      let yr : (get_or (before ++ (l ++ r)) p.1 no_entry).y ≡ get_or (ys_of r) j 0 =
      ap (λ k. (get_or (before ++ (l ++ r)) k no_entry).y) (sym j_place)
      ∙ ap (λ (e : Entry). e.y) (at-behind before l r j no_entry) ∙ sym (get_or-map (λ (e : Entry). e.y) r j no_entry 0 right) in
      record {
        left_in = omega (arith, length-ys l);
        right_in = omega (arith, length-ys r);
        matching =
            subst (λ (a : ℕ). Match a (get_or (ys_of r) j 0)) yl
            (subst (λ (b : ℕ). Match (get_or (before ++ (l ++ r)) p.0 no_entry).y b) yr m.2);
      }

  -- the pairs of the two buckets join those before
  pub pairs-join :
      (done local : List (ℕ × ℕ)) → ArePairsTo (before ++ (l ++ r)) (length before + length l) done
      → ArePairs (ys_of l) (ys_of r) local
      → ArePairsTo (before ++ (l ++ r)) (length (before ++ (l ++ r)))
      (done ++ map (shifted (length before) (length before + length l)) local)
  pairs-join done local h new =
      let es : List Entry = before ++ (l ++ r) in
      let f : ℕ × ℕ → ℕ × ℕ = shifted (length before) (length before + length l) in
      let len : length es ≡ length before + length l + length r = length-parts before l r in
      let new_below : All (λ p. length before + length l ≤ p.1) (map f local) =
      All-map (λ p. length before + length l ≤ p.1) f local (λ i d lt. omega arith) in
      record {
        each =
            All-append (IsPair (ys_of es) (ys_of es)) done (map f local) h.each
            (All-map (IsPair (ys_of es) (ys_of es)) f local
            (All-weaker (IsPair (ys_of l) (ys_of r)) (λ q. IsPair (ys_of es) (ys_of es) (f q)) pair-shifted local new.each));
        below =
            All-append (λ p. p.1 < length es) done (map f local)
            (All-weaker (λ p. p.1 < length before + length l) (λ p. p.1 < length es) (λ p lt. omega (arith, lt)) done h.below)
            (All-map (λ p. p.1 < length es) f local
            (All-weaker (IsPair (ys_of l) (ys_of r)) (λ q. (f q).1 < length es)
            (λ q is. omega (arith, length-ys r, is.right_in)) local new.each));
        all = λ p is lt.
            ⊎_elim (λ (small : p.1 < length before + length l). Contains-append_left done (map f local) p (h.all p is small))
            (λ (large : length before + length l ≤ p.1).
            let parts = pair-parts p is large in
            let from : length before ≤ p.0 = parts.0 in
            let q : ℕ × ℕ = (p.0 - length before, p.1 - (length before + length l)) in
            let again : f q ≡ p = same-pair (f q) p (omega arith) (omega arith) in
            Contains-append_right done (map f local) p
            (subst (λ (x : ℕ × ℕ). Contains (map f local) x) again (contains-map f local q (new.all q (pair-back p is large)))))
            (cases_lt p.1 (length before + length l));
        once =
            all_pairs-append (λ a b. a ≢ b) done (map f local) h.once
            (all_pairs-map (λ a b. a ≢ b) (λ a b. a ≢ b) f (0, 0) local (local-distinct (ys_of l) (ys_of r) local new)
            (λ a b differ same.
            let zero_is : (f a).0 ≡ (f b).0 = ap (λ (p : ℕ × ℕ). p.0) same in
            let one_is : (f a).1 ≡ (f b).1 = ap (λ (p : ℕ × ℕ). p.1) same in
            differ (same-pair a b (omega arith) (omega arith))))
            (λ i j d i_in j_in same.
            let low : (get_or done i d).1 < length before + length l = All-get_or (λ p. p.1 < length before + length l) done i d i_in h.below in
            let high : length before + length l ≤ (get_or (map f local) j d).1 = All-get_or (λ p. length before + length l ≤ p.1) (map f local) j d j_in new_below in
            let one_is : (get_or done i d).1 ≡ (get_or (map f local) j d).1 = ap (λ (p : ℕ × ℕ). p.1) same in
            omega arith);
      }
