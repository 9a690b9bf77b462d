-- What is gathered of a level and numbered by rising point renumbers it.
use Rattle.std.proofs.Common.{◌≡◌, ℕ, suc, ◌<◌, Bool, List, length, slice_index, slice_index_or, Contains, sym, ap, ◌∙◌, arith}
use Rattle.std.proofs.lemmas.List.{get_or_default}
use Rattle.std.proofs.lemmas.List.Sorted.{Contains-permutation, IsPermutation-sym}
use Rattle.pos_lists.specs.TableLists.{TableLists, entries, PairsInside}
use Rattle.pos_lists.specs.Used.{IsUsed, MarksUsed}
use Rattle.pos_lists.specs.Rank.{first_in, second_in}
use Rattle.pos_lists.specs.Numbering.{AreGathered, AreNumbered}
use Rattle.pos_lists.proofs.UsedLemmas.{used_is_inside}
use Rattle.pos_laws.specs.Renumbering.{point_at}
use Rattle.pos_laws.specs.RenumberingLaws.{GatheredIsRenumbered, SortedIsLastTable}
use Rattle.pos_laws.proofs.Ranks.{length-firsts, at-firsts, firsts_rise}

module _ (ts : TableLists) (n : ℕ) (old : ℕ → ℕ) (gathered pointed : List (ℕ × ℕ)) (places : List ℕ) (p : ℕ → Bool)
    (low : n < 6) (inside : PairsInside ts 6) (marks : MarksUsed ts (suc n) p)
    (all : AreGathered p (point_at ts n old) (entries ts (suc n)) gathered) (work : AreNumbered gathered pointed places) where
  -- a used place stands in the sorted list, behind its point
  stands : (i : ℕ) → IsUsed ts (suc n) i →
      (s : ℕ) × (s < length pointed) × (second_in pointed s ≡ i) × (first_in pointed s ≡ point_at ts n old i)
  stands i u =
      let here : Contains gathered (point_at ts n old i, i) = all.all i (used_is_inside ts (suc n) i low inside u) ((marks i).1 u) in
      let c = Contains-permutation gathered pointed _ work.permuted here in
      let at : slice_index_or pointed c.0 (0, 0) ≡ (point_at ts n old i, i) =
      get_or_default pointed c.0 (0, 0) (point_at ts n old i, i) c.1 ∙ c.2 in
      (c.0, c.1, ap (λ e. e.1) at, ap (λ e. e.0) at)

  -- there its new number is its place
  numbered : (i : ℕ) → IsUsed ts (suc n) i →
      (slice_index places i < length pointed) × (second_in pointed (slice_index places i) ≡ i)
      × (first_in pointed (slice_index places i) ≡ point_at ts n old i)
  numbered i u =
      let s = stands i u in
      let at : slice_index places i ≡ s.0 = ap (slice_index places) (sym s.2) ∙ work.moved s.0 s.1 in
      (omega (arith, s.1), ap (second_in pointed) at ∙ s.2, ap (first_in pointed) at ∙ s.3)

  -- and each place of the list is one of a used place
  used_at : (s : ℕ) → s < length pointed → IsUsed ts (suc n) (second_in pointed s)
  used_at s l =
      let c = Contains-permutation pointed gathered _ (IsPermutation-sym gathered pointed work.permuted)
      (s, l, get_or_default pointed s (slice_index_or pointed s (0, 0)) (0, 0) l) in
      let at : slice_index_or gathered c.0 (0, 0) ≡ slice_index_or pointed s (0, 0) = get_or_default gathered c.0 (0, 0) _ c.1 ∙ c.2 in
      (marks (second_in pointed s)).0 (ap p (sym (ap (λ e. e.1) at)) ∙ all.only c.0 c.1)

pub gathered_is_renumbered : GatheredIsRenumbered
gathered_is_renumbered ts n old gathered pointed places p low inside marks all work = (
  record {
    rise = firsts_rise pointed work.rise;
    placed = λ i u. let a = numbered ts n old gathered pointed places p low inside marks all work i u in omega (arith, length-firsts pointed, a.0);
    pointed = λ i u.
        let a = numbered ts n old gathered pointed places p low inside marks all work i u in at-firsts pointed _ 0 a.0 ∙ a.2;
    filled = λ s l.
        let g : s < length pointed = omega (arith, length-firsts pointed) in
        (second_in pointed s, used_at ts n old gathered pointed places p low inside marks all work s g, work.moved s g);
  },
  λ i j u v e.
      let a = numbered ts n old gathered pointed places p low inside marks all work i u in
      let b = numbered ts n old gathered pointed places p low inside marks all work j v in
      sym a.1 ∙ ap (second_in pointed) e ∙ b.1,
)

pub sorted_is_last_table : SortedIsLastTable
sorted_is_last_table ts k new by_place lasts as_long each permuted rise = record {
  rise = rise;
  placed = λ i l.
      Contains-permutation by_place lasts _ permuted
      (i, omega (arith, as_long), get_or_default by_place i _ 0 (omega (arith, as_long)) ∙ each i l);
  filled = λ s c.
      let d = Contains-permutation lasts by_place s (IsPermutation-sym by_place lasts permuted) c in
      let l = d.1 in
      (d.0, omega (arith, as_long, l), sym d.2 ∙ get_or_default by_place d.0 s 0 d.1 ∙ each d.0 (omega (arith, as_long, l)));
}
