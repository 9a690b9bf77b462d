-- Numbering by rank: in a rising list of the marked places each stands at its rank.
use Rattle.std.proofs.Common.{◌≡◌, ◌≢◌, ℕ, zero, suc, ◌<◌, ◌≤◌, ⊎_elim, Bool, true, false, List, length, AllPairs, sym, refl, ap, ◌∙◌, arith, add-zero, true≢false}
use Rattle.std.proofs.lemmas.Bool.{cases_order, cases_lt, cases_Bool, cases_eq}
use Rattle.pos_lists.specs.Rank.{rank, first_in}
use Rattle.pos_lists.specs.RankLaws.{RanksAreBelow, RanksOfAll, RanksAreIndices}

pub ranks_are_below : RanksAreBelow
unfolding rank
ranks_are_below p zero = omega arith
ranks_are_below p (suc i) =
    let ih = ranks_are_below p i in
    ⊎_elim (λ (e : p i ≡ true). rw e (omega arith)) (λ (e : p i ≡ false). rw e (omega arith)) (cases_Bool (p i))

pub ranks_of_all : RanksOfAll
unfolding rank
ranks_of_all p zero all = refl
ranks_of_all p (suc i) all =
    let ih = ranks_of_all p i (λ j l. all j (omega arith)) in
    let e : p i ≡ true = all i (omega arith) in
    rw e (omega arith)

-- m entries at the front of the list have a first number below i, and the others have not
record Front (moved : List (ℕ × ℕ)) (i m : ℕ) : Type 0 where
  inside : m ≤ length moved
  below : (r : ℕ) → r < m → first_in moved r < i
  from : (r : ℕ) → m ≤ r → r < length moved → i ≤ first_in moved r

-- so a marked place stands at its rank
index_at : (p : ℕ → Bool) (moved : List (ℕ × ℕ)) → AllPairs (λ a b. a.0 < b.0) moved →
    ((i : ℕ) → p i ≡ true → (r : ℕ) × (r < length moved) × (first_in moved r ≡ i)) →
    (i : ℕ) → Front moved i (rank p i) → p i ≡ true → (rank p i < length moved) × (first_in moved (rank p i) ≡ i)
index_at p moved rise all i f e =
    let r = all i e in
    let low : rank p i ≤ r.0 =
    ⊎_elim
    (λ (h : r.0 < rank p i). absurd (omega (arith, f.below r.0 h, r.2)))
    (λ (h : rank p i ≤ r.0). h)
    (cases_lt r.0 (rank p i)) in
    let high : r.0 ≤ rank p i =
    ⊎_elim
    (λ (h : rank p i < r.0).
    let o = rise (rank p i) r.0 (0, 0) h r.1 in
    absurd (omega (arith, f.from (rank p i) (omega arith) (omega (arith, r.1)), r.2)))
    (λ (h : r.0 ≤ rank p i). h)
    (cases_lt (rank p i) r.0) in
    let same : r.0 ≡ rank p i = omega arith in
    (omega (arith, r.1), ap (first_in moved) (sym same) ∙ r.2)

front_at : (p : ℕ → Bool) (moved : List (ℕ × ℕ)) → AllPairs (λ a b. a.0 < b.0) moved →
    ((r : ℕ) → r < length moved → p (first_in moved r) ≡ true) →
    ((i : ℕ) → p i ≡ true → (r : ℕ) × (r < length moved) × (first_in moved r ≡ i)) →
    (i : ℕ) → Front moved i (rank p i)
unfolding rank
front_at p moved rise only all zero = record {
  inside = omega arith;
  below = λ r l. absurd (omega arith);
  from = λ r l g. omega arith;
}
front_at p moved rise only all (suc i) =
    let f = front_at p moved rise only all i in
    ⊎_elim
    (λ (e : p i ≡ true).
    let at = index_at p moved rise all i f e in
    rw e (record {
      inside = omega (arith, at.0);
      below = λ r l.
          ⊎_elim
          (λ (h : r < rank p i). omega (arith, f.below r h))
          (λ (h : rank p i ≤ r). let g : rank p i ≡ r = omega arith in let o = ap (first_in moved) g in omega (arith, at.1))
          (cases_lt r (rank p i));
      from = λ r l g. let o = rise (rank p i) r (0, 0) (omega arith) g in omega (arith, at.1);
    }))
    (λ (e : p i ≡ false).
    rw (e, add-zero) (record {
      inside = f.inside;
      below = λ r l. omega (arith, f.below r l);
      from = λ r l g.
          let o = f.from r l g in
          ⊎_elim
          (λ (h : first_in moved r ≡ i). absurd (true≢false (sym (only r g) ∙ ap p h ∙ e)))
          (λ (h : first_in moved r ≢ i). omega arith)
          (cases_eq (first_in moved r) i);
    }))
    (cases_Bool (p i))

pub ranks_are_indices : RanksAreIndices
ranks_are_indices p moved rise only all i e = index_at p moved rise all i (front_at p moved rise only all i) e

-- a first number stands once in a list by rising first number
pub one_place : (xs : List (ℕ × ℕ)) → AllPairs (λ a b. a.0 < b.0) xs → (i j : ℕ) → i < length xs → j < length xs →
    first_in xs i ≡ first_in xs j → i ≡ j
one_place xs rise i j h l e =
    ⊎_elim
    (λ (g : i ≡ j). g)
    (⊎_elim
    (λ (g : i < j). let o = rise i j (0, 0) g l in absurd (omega arith))
    (λ (g : j < i). let o = rise j i (0, 0) g h in absurd (omega arith)))
    (cases_order i j)
