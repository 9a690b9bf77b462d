-- The first difference of two lists, and of their parts from a place on.
use Rattle.std.proofs.Common.{◌≡◌, ℕ, zero, suc, ◌+◌, ◌<◌, ◌≤◌, ◌⊎◌, List, [], ◌∷◌, ◌++◌, length, take, drop, get_or, None, refl, sym, ap, ap₂, ◌∙◌, subst, inl, inr, arith}
use Rattle.std.specs.Prelude.{slice_get}
use Rattle.std.proofs.lemmas.Bool.{cases_lt}
use Rattle.std.proofs.lemmas.List.{drop-take, length-take, take-append-drop, take-take, take_all}
use Rattle.std.proofs.lemmas.Option.{none-some, slice_get-get_or, slice_get_past}
use Rattle.pos_layout.specs.Bytes.{part}
use Rattle.pos_audit.specs.Comparisons.{DifferAt, IsComparison, IsDifference}
use Rattle.pos_audit.specs.declared.found.Audited.{Audited}

-- ---- places of parts

get-take : (n : ℕ) (xs : List ℕ) (i : ℕ) → i < n → slice_get (take n xs) i ≡ slice_get xs i
get-take zero xs i h = absurd (omega arith)
get-take (suc n) [] i h = refl
get-take (suc n) (x ∷ xs) zero h = refl
get-take (suc n) (x ∷ xs) (suc i) h = get-take n xs i (omega arith)

get-drop : (n : ℕ) (xs : List ℕ) (i : ℕ) → slice_get (drop n xs) i ≡ slice_get xs (n + i)
get-drop zero xs i = let e : i ≡ 0 + i = omega arith in ap (λ k. slice_get xs k) e
get-drop (suc n) [] i = refl
get-drop (suc n) (x ∷ xs) i = let e : suc (n + i) ≡ suc n + i = omega arith in get-drop n xs i ∙ ap (λ k. slice_get (x ∷ xs) k) e

pub get-part : (xs : List ℕ) (at n i : ℕ) → i < n → slice_get (part xs at n) i ≡ slice_get xs (at + i)
unfolding part
get-part xs at n i h = get-take n (drop at xs) i h ∙ get-drop at xs i

take-part : (at n : ℕ) (xs : List ℕ) → take (at + n) xs ≡ take at xs ++ take n (drop at xs)
take-part at n xs =
    sym (take-append-drop at (take (at + n) xs))
    ∙ ap₂ (λ ys zs. ys ++ zs) (take-take at (at + n) xs (omega arith)) (drop-take at n xs)

-- equal parts behind equal fronts
pub fronts_joined : (at n : ℕ) (b c : List ℕ) → take at b ≡ take at c → part b at n ≡ part c at n → take (at + n) b ≡ take (at + n) c
unfolding part
fronts_joined at n b c front same = take-part at n b ∙ ap₂ (λ ys zs. ys ++ zs) front same ∙ sym (take-part at n c)

-- ---- where lists differ

-- one of them goes so far
pub differ_inside : (xs ys : List ℕ) (i : ℕ) → DifferAt xs ys i → (i < length xs) ⊎ (i < length ys)
differ_inside xs ys i d = elim (cases_lt i (length xs)) [
  | inl inside ↦ inl inside
  | inr past ↦ elim (cases_lt i (length ys)) [
    | inl inside ↦ inr inside
    | inr after ↦ absurd (d.differ (slice_get_past xs i past ∙ sym (slice_get_past ys i after)))
  ]
]

-- so the place fits where both lists do
pub differ_fits : (at most i : ℕ) (xs ys : List ℕ) → DifferAt xs ys i → (0 < length xs → at + length xs < most) → (0 < length ys → at + length ys < most) → at + i < most
differ_fits at most i xs ys d first second = elim (differ_inside xs ys i d) [
  | inl inside ↦ let fits : at + length xs < most = first (omega arith) in omega arith
  | inr inside ↦ let fits : at + length ys < most = second (omega arith) in omega arith
]

part_short : (b : List ℕ) (at n : ℕ) → length (part b at n) ≤ n
unfolding part
part_short b at n = let e = length-take n (drop at b) in omega arith

differ_in_page : (at n i : ℕ) (b c : List ℕ) → DifferAt (part b at n) (part c at n) i → i < n
differ_in_page at n i b c d =
    let one = part_short b at n in
    let other = part_short c at n in
    elim (differ_inside (part b at n) (part c at n) i d) [
      | inl inside ↦ omega arith
      | inr inside ↦ omega arith
    ]

front_of_part : (b : List ℕ) (at n i : ℕ) → i ≤ n → take i (part b at n) ≡ take i (drop at b)
unfolding part
front_of_part b at n i h = take-take i n (drop at b) h

-- parts that differ behind equal fronts
pub differ_beyond : (at n i : ℕ) (b c : List ℕ) → take at b ≡ take at c → DifferAt (part b at n) (part c at n) i → DifferAt b c (at + i)
differ_beyond at n i b c front d =
    let less = differ_in_page at n i b c d in
    let few : i ≤ n = omega arith in
    record {
      before = take-part at i b ∙ ap₂ (λ ys zs. ys ++ zs) front (sym (front_of_part b at n i few) ∙ d.before ∙ front_of_part c at n i few) ∙ sym (take-part at i c);
      differ = λ e. d.differ (get-part b at n i less ∙ e ∙ sym (get-part c at n i less));
    }

-- what a page shows of the whole files
pub page_differs : (at n : ℕ) (b c : List ℕ) (audited : Audited) → take at b ≡ take at c → IsDifference at (part b at n) (part c at n) audited → IsComparison b c audited
page_differs at n b c audited front d =
    let less = differ_in_page at n d.place b c d.differ in
    subst (IsComparison b c) (sym d.said) (
      differ_beyond at n d.place b c front d.differ,
      get-part c at n d.place less,
      get-part b at n d.place less,
    )

-- equal fronts that are both whole
pub fronts_whole : (n : ℕ) (b c : List ℕ) → length b ≤ n → length c ≤ n → take n b ≡ take n c → b ≡ c
fronts_whole n b c one other front = sym (take_all n b one) ∙ front ∙ take_all n c other

-- no list differs from itself
pub differs_not : (b : List ℕ) (at : ℕ) → DifferAt b b at → ⊥
differs_not b at d = d.differ refl

-- ---- the search in two lists

get_inside : (xs : List ℕ) (i : ℕ) → i < length xs → slice_get xs i ≡ None → ⊥
get_inside xs i inside none = none-some (get_or xs i 0) (sym none ∙ slice_get-get_or xs i 0 inside)

-- lists that differ, and are the same up to the end of the shorter one, differ there
pub differ_at_end : (n : ℕ) (xs ys : List ℕ) → (xs ≡ ys → ⊥) → n ≤ length xs → n ≤ length ys → (length xs ≤ n) ⊎ (length ys ≤ n) → take n xs ≡ take n ys → DifferAt xs ys n
differ_at_end n xs ys apart first second end front = record { before = front; differ = differ } where
  differ : slice_get xs n ≡ slice_get ys n → ⊥
  differ e = elim (cases_lt n (length xs)) [
    | inl inside ↦ elim end [
      | inl short ↦ absurd (omega arith)
      | inr short ↦ get_inside xs n inside (e ∙ slice_get_past ys n short)
    ]
    | inr past ↦ elim (cases_lt n (length ys)) [
      | inl inside ↦ get_inside ys n inside (sym e ∙ slice_get_past xs n past)
      | inr after ↦ apart (fronts_whole n xs ys past after front)
    ]
  ]
