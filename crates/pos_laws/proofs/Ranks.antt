-- Numbering by rank renumbers a level.
use Rattle.std.proofs.Common.{◌≡◌, ℕ, suc, ◌<◌, Bool, List, [], ◌∷◌, length, slice_index_or, AllPairs, sym, refl, ap, ◌∙◌, arith, zero}
use Rattle.std.proofs.lemmas.List.{get_or_default}
use Rattle.pos_lists.specs.TableLists.{TableLists}
use Rattle.pos_lists.specs.Used.{IsUsed, MarksUsed}
use Rattle.pos_lists.specs.Rank.{rank, first_in, new_place}
use Rattle.pos_lists.proofs.RankLemmas.{ranks_are_indices, one_place}
use Rattle.pos_laws.specs.Renumbering.{point_at, IsNumbered, firsts}
use Rattle.pos_laws.specs.RenumberingLaws.{NumberedIsRenumbered, NumberedIsApart}

-- ---- the first numbers of a list of pairs

pub length-firsts : (xs : List (ℕ × ℕ)) → length (firsts xs) ≡ length xs
unfolding firsts
length-firsts [] = refl
length-firsts (x ∷ xs) = ap suc (length-firsts xs)

pub at-firsts : (xs : List (ℕ × ℕ)) (i d : ℕ) → i < length xs → slice_index_or (firsts xs) i d ≡ first_in xs i
unfolding firsts
at-firsts [] i d l = absurd (omega arith)
at-firsts (x ∷ xs) zero d l = refl
at-firsts (x ∷ xs) (suc i) d l = at-firsts xs i d (omega arith)

pub firsts_rise : (xs : List (ℕ × ℕ)) → AllPairs (λ a b. a.0 < b.0) xs → AllPairs ◌<◌ (firsts xs)
firsts_rise xs rise i j d l g =
    let h : j < length xs = omega (arith, length-firsts xs) in
    let a = at-firsts xs i d (omega arith) in
    let b = at-firsts xs j d h in
    let o = rise i j (0, 0) l h in
    omega arith

-- ---- the work on one level

module _ (ts : TableLists) (n : ℕ) (old : ℕ → ℕ) (pointed moved : List (ℕ × ℕ)) (p : ℕ → Bool)
    (work : IsNumbered ts n old pointed moved) (marks : MarksUsed ts (suc n) p) where
  -- a used place is an old place of the work, at its rank
  ranked : (i : ℕ) → IsUsed ts (suc n) i → (rank p i < length moved) × (first_in moved (rank p i) ≡ i)
  ranked i u =
      ranks_are_indices p moved work.moved_rise
      (λ r l.
      let o = work.moved_only r l in
      ap p (sym o.1) ∙ (marks _).1 (work.only (slice_index_or moved r (0, 0)).1 o.0).0)
      (λ j e.
      let s = work.all j ((marks j).0 e) in
      let at : slice_index_or pointed s.0 (0, 0) ≡ (point_at ts n old j, j) = get_or_default pointed s.0 (0, 0) (point_at ts n old j, j) s.1 ∙ s.2 in
      let r = work.moved_all s.0 s.1 in
      let m : slice_index_or moved r.0 (0, 0) ≡ ((slice_index_or pointed s.0 (0, 0)).1, s.0) = get_or_default moved r.0 (0, 0) _ r.1 ∙ r.2 in
      (r.0, r.1, ap (λ a. a.0) m ∙ ap (λ a. a.1) at))
      i ((marks i).1 u)

  -- and its new place has it, with its point
  at_new : (i : ℕ) → IsUsed ts (suc n) i →
      (new_place p moved i < length pointed) × ((slice_index_or pointed (new_place p moved i) (0, 0)).1 ≡ i) × (first_in pointed (new_place p moved i) ≡ point_at ts n old i)
  at_new i u =
      let r = ranked i u in
      let o = work.moved_only (rank p i) r.0 in
      let same = o.1 ∙ r.1 in
      (o.0, same, (work.only (new_place p moved i) o.0).1 ∙ ap (point_at ts n old) same)

  -- each place of the points is the new place of a used one
  new_is : (s : ℕ) → s < length pointed → (i : ℕ) × IsUsed ts (suc n) i × (new_place p moved i ≡ s)
  new_is s l =
      let i = (slice_index_or pointed s (0, 0)).1 in
      let u = (work.only s l).0 in
      let r = work.moved_all s l in
      let m : slice_index_or moved r.0 (0, 0) ≡ (i, s) = get_or_default moved r.0 (0, 0) (i, s) r.1 ∙ r.2 in
      let k = ranked i u in
      let same : rank p i ≡ r.0 = one_place moved work.moved_rise (rank p i) r.0 k.0 r.1 (k.1 ∙ sym (ap (λ a. a.0) m)) in
      (i, u, ap (λ q. (slice_index_or moved q (0, 0)).1) same ∙ ap (λ a. a.1) m)

pub numbered_is_renumbered : NumberedIsRenumbered
numbered_is_renumbered ts n old pointed moved p work marks = (
  record {
    rise = firsts_rise pointed work.rise;
    placed = λ i u. let a = at_new ts n old pointed moved p work marks i u in omega (arith, length-firsts pointed, a.0);
    pointed = λ i u. let a = at_new ts n old pointed moved p work marks i u in at-firsts pointed _ 0 a.0 ∙ a.2;
    filled = λ s l. new_is ts n old pointed moved p work marks s (omega (arith, length-firsts pointed));
  },
  λ i u. (ranked ts n old pointed moved p work marks i u).0,
)

pub numbered_is_apart : NumberedIsApart
numbered_is_apart ts n old pointed moved p work marks i j u v e =
    let a = at_new ts n old pointed moved p work marks i u in
    let b = at_new ts n old pointed moved p work marks j v in
    sym a.1 ∙ ap (λ s. (slice_index_or pointed s (0, 0)).1) e ∙ b.1
