-- Drafts that are kept as short ones or whole: one more, and another order.
use Rattle.std.proofs.Common.{◌≡◌, ℕ, ◌+◌, ◌/◌, ◌^◌, ◌≤◌, ◌<◌, List, [], ◌∷◌, ◌++◌, length, map, take, get_or, add-one, arith, refl, sym, ap, subst, ◌∙◌}
use Rattle.std.specs.List.Sorted.{IsPermutation, IsNonDecreasingBy}
use Rattle.std.proofs.Math.Seq.{take-suc}
use Rattle.std.proofs.lemmas.List.{append_assoc, length-map, get_or-map, map-append}
use Rattle.std.proofs.lemmas.List.Sorted.{IsPermutation-map}
use Rattle.pos_forward.specs.declared.drafts.Draft.{Draft}
use Rattle.pos_forward.specs.declared.drafts.ShortDraft.{ShortDraft}
use Rattle.pos_forward.specs.Keeping.{kept_drafts, whole_draft}

no_short : ShortDraft
no_short = record { low = 0; key = 0 }

-- one more of the short drafts stands behind others as a whole one
pub whole-more : (old now : List Draft) (rows : List ShortDraft) (i : ℕ) (d : ShortDraft) → i < length rows → now ≡ old ++ map whole_draft (take i rows)
    → now ++ whole_draft (get_or rows i d) ∷ [] ≡ old ++ map whole_draft (take (i + 1) rows)
whole-more old now rows i d lt is =
    let row : ShortDraft = get_or rows i d in
    let step : take (i + 1) rows ≡ take i rows ++ row ∷ [] = ap (λ n. take n rows) (add-one i) ∙ take-suc rows i d lt in
    ap (λ zs. zs ++ whole_draft row ∷ []) is ∙ append_assoc old (map whole_draft (take i rows)) (whole_draft row ∷ [])
    ∙ ap (λ zs. old ++ zs) (sym (ap (map whole_draft) step ∙ map-append whole_draft (take i rows) (row ∷ [])))

-- short drafts in another order
pub short-permutation : (old new : List ShortDraft) (whole : List Draft) → length whole ≡ 0 → IsPermutation old new
    → IsPermutation (kept_drafts old whole) (kept_drafts new whole)
short-permutation old new [] none perm = IsPermutation-map whole_draft old new perm
short-permutation old new (d ∷ ds) none perm = absurd (omega arith)

-- the upper half of a key orders as y does
y-rise : (m n : ℕ) → m / 2 ^ 64 ≤ n / 2 ^ 64 → m / 2 ^ 66 ≤ n / 2 ^ 66
y-rise m n h = omega arith

whole-rise : (rows : List ShortDraft) → IsNonDecreasingBy (λ (s : ShortDraft). s.key / 2 ^ 64) rows
    → IsNonDecreasingBy (λ (d : Draft). d.y) (map whole_draft rows)
whole-rise rows rise i j d le lt =
    let in_j : j < length rows = omega (arith, length-map rows whole_draft) in
    let at_i : get_or (map whole_draft rows) i d ≡ whole_draft (get_or rows i no_short) = get_or-map whole_draft rows i no_short d (omega arith) in
    let at_j : get_or (map whole_draft rows) j d ≡ whole_draft (get_or rows j no_short) = get_or-map whole_draft rows j no_short d in_j in
    subst (λ (a : Draft). a.y ≤ (get_or (map whole_draft rows) j d).y) (sym at_i)
    (subst (λ (b : Draft). (get_or rows i no_short).key / 2 ^ 66 ≤ b.y) (sym at_j) (y-rise (get_or rows i no_short).key (get_or rows j no_short).key (rise i j no_short le in_j)))

pub short-rise : (rows : List ShortDraft) (whole : List Draft) → length whole ≡ 0 → IsNonDecreasingBy (λ (s : ShortDraft). s.key / 2 ^ 64) rows
    → IsNonDecreasingBy (λ (d : Draft). d.y) (kept_drafts rows whole)
short-rise rows [] none rise = whole-rise rows rise
short-rise rows (d ∷ ds) none rise = absurd (omega arith)

-- whole ones are those that are kept
pub kept-whole : (short : List ShortDraft) (whole : List Draft) → 0 < length whole → kept_drafts short whole ≡ whole
kept-whole short [] some = absurd (omega arith)
kept-whole short (d ∷ ds) some = refl
