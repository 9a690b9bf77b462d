-- The matching pairs of the entries taken so far, as more entries and more buckets come.
use Rattle.std.proofs.Common.{◌≡◌, ℕ, ◌+◌, ◌/◌, ◌<◌, ◌≤◌, List, [], ◌∷◌, ◌++◌, length, get_or, arith, refl, sym, ap, subst, ◌∙◌, length-append, ⊎_elim}
use Rattle.std.specs.List.{All}
use Rattle.std.proofs.lemmas.Bool.{cases_lt}
use Rattle.std.proofs.lemmas.List.{length_push, get_or_append_left, get_or_push}
use Rattle.std.proofs.lemmas.List.Elements.{All-nil, All-get_or, All-weaker}
use Rattle.pos_tuple.specs.declared.entry.Entry.{Entry}
use Rattle.pos_tuple.specs.Match.{Match}
use Rattle.pos_buckets.specs.Pairs.{IsPair}
use Rattle.pos_forward.specs.Tables.{ys_of, ArePairsTo}
use Rattle.pos_forward.specs.Matched.{IsOverfull}
use Rattle.pos_forward.proofs.TableLemmas.{no_entry, pair-match, match-pair, matching-pairs}

-- ---- more entries behind

at-left : (es rest : List Entry) (i : ℕ) (d : Entry) → i < length es → get_or (es ++ rest) i d ≡ get_or es i d
at-left es rest i d lt = get_or_append_left es rest d i lt

pub pair-wider :
    (es rest : List Entry) (p : ℕ × ℕ) → IsPair (ys_of es) (ys_of es) p → IsPair (ys_of (es ++ rest)) (ys_of (es ++ rest)) p
pair-wider es rest p h =
    let m = pair-match es p no_entry h in
    let len : length (es ++ rest) ≡ length es + length rest = length-append es rest in
    match-pair (es ++ rest) p.0 p.1 no_entry (omega (arith, m.0)) (omega (arith, m.1))
    (subst (λ (a : Entry). Match a.y (get_or (es ++ rest) p.1 no_entry).y) (sym (at-left es rest p.0 no_entry m.0))
    (subst (λ (b : Entry). Match (get_or es p.0 no_entry).y b.y) (sym (at-left es rest p.1 no_entry m.1)) m.2))

pair-narrower :
    (es rest : List Entry) (p : ℕ × ℕ) → p.0 < length es → p.1 < length es
    → IsPair (ys_of (es ++ rest)) (ys_of (es ++ rest)) p → IsPair (ys_of es) (ys_of es) p
pair-narrower es rest p left right h =
    let m = pair-match (es ++ rest) p no_entry h in
    match-pair es p.0 p.1 no_entry left right
    (subst (λ (a : Entry). Match a.y (get_or es p.1 no_entry).y) (at-left es rest p.0 no_entry left)
    (subst (λ (b : Entry). Match (get_or (es ++ rest) p.0 no_entry).y b.y) (at-left es rest p.1 no_entry right) m.2))

-- a right value is above the left one
match-above : (yl yr : ℕ) → Match yl yr → yl < yr
match-above yl yr h = let next : yr / 15113 ≡ yl / 15113 + 1 = h.next_bucket in omega arith

pub pairs-grow :
    (es : List Entry) (e : Entry) (n : ℕ) (ps : List (ℕ × ℕ)) → n ≤ length es → All (λ b. b.y ≤ e.y) es
    → ArePairsTo es n ps → ArePairsTo (es ++ e ∷ []) n ps
pairs-grow es e n ps le rise h = record {
  each = All-weaker (IsPair (ys_of es) (ys_of es)) (IsPair (ys_of (es ++ e ∷ [])) (ys_of (es ++ e ∷ []))) (pair-wider es (e ∷ [])) ps h.each;
  below = h.below;
  all = λ p is lt.
      let right : p.1 < length es = omega arith in
      let m = pair-match (es ++ e ∷ []) p no_entry is in
      ⊎_elim (λ (left : p.0 < length es). h.all p (pair-narrower es (e ∷ []) p left right is) lt)
      (λ (past : length es ≤ p.0).
      let last : p.0 ≡ length es = omega (arith, length_push es e, m.0) in
      let up = match-above _ _ m.2 in
      let left_is : get_or (es ++ e ∷ []) p.0 no_entry ≡ e = ap (λ i. get_or (es ++ e ∷ []) i no_entry) last ∙ get_or_push es e no_entry (length es) refl in
      let right_is : get_or (es ++ e ∷ []) p.1 no_entry ≡ get_or es p.1 no_entry = at-left es (e ∷ []) p.1 no_entry right in
      let low : (get_or es p.1 no_entry).y ≤ e.y = All-get_or (λ b. b.y ≤ e.y) es p.1 no_entry right rise in
      let left_y : (get_or (es ++ e ∷ []) p.0 no_entry).y ≡ e.y = ap (λ (b : Entry). b.y) left_is in
      let right_y : (get_or (es ++ e ∷ []) p.1 no_entry).y ≡ (get_or es p.1 no_entry).y = ap (λ (b : Entry). b.y) right_is in
      absurd (omega (arith, up, low, left_y, right_y)))
      (cases_lt p.0 (length es));
  once = h.once;
}

-- ---- no entries

pub pairs-none : ArePairsTo [] 0 []
pairs-none = record {
  each = All-nil (IsPair (ys_of []) (ys_of []));
  below = All-nil (λ p. p.1 < 0);
  all = λ p is lt. absurd (omega arith);
  once = λ i j d lt inside. absurd (omega arith);
}

-- ---- more than the capacity

pub pairs-overfull : (es : List Entry) (n c : ℕ) (ps : List (ℕ × ℕ)) → ArePairsTo es n ps → c < length ps → IsOverfull c es
pairs-overfull es n c ps h lt = (
  ps,
  lt,
  λ rest. matching-pairs (es ++ rest) ps
      (All-weaker (IsPair (ys_of es) (ys_of es)) (IsPair (ys_of (es ++ rest)) (ys_of (es ++ rest))) (pair-wider es rest) ps h.each) h.once,
)
