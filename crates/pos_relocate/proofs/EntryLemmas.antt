-- Entries in memory: listed, sorted, and their new places.
use Rattle.std.proofs.Common.{◌≡◌, ◌≢◌, ℕ, zero, suc, ◌+◌, ◌-◌, ◌<◌, ◌≤◌, List, length, map, get_or, slice_index, slice_index_or, slice_set, sym, refl, ◌∙◌, ap, subst, inl, inr, arith, get_or-set_same, get_or-set_other, Vec, Global}
use Rattle.std.specs.List.{swap}
use Rattle.std.specs.List.Sorted.{IsPermutation}
use Rattle.std.proofs.Math.ListN.{length-set}
use Rattle.std.proofs.lemmas.Bool.{cases_eq, cases_lt}
use Rattle.std.proofs.lemmas.List.{get_or_default, get_or-map, length-map, with_items_is}
use Rattle.std.proofs.lemmas.List.Edits.{swapped_from_swap, length-swap}
use Rattle.std.proofs.lemmas.List.Sorted.{IsPermutation-keeps, IsPermutation-map, IsPermutation-sym, IsPermutation-trans, Contains-permutation, length_permutation}
use Rattle.std.specs.Vec.{with_items}
use Rattle.pos_edge.specs.declared.scratch.ScratchDamage.{ScratchDamage}
use Rattle.pos_lists.specs.Rank.{first_in, second_in}
use Rattle.pos_relocate.specs.Passes.{AreListed, AreShuffled, IsRepetition}

-- ---- entries as pairs

-- an entry that was read is that at its place
pub entry_at : {X : Type 0} (pair : X → ℕ × ℕ) (entries : List X) (i : ℕ) (entry : X) → i < length entries → entry ≡ get_or entries i entry
    → slice_index_or (map pair entries) i (0, 0) ≡ pair entry
entry_at pair entries i entry l is = get_or-map pair entries i entry (0, 0) l ∙ ap pair (sym is)

pub place_at : {X : Type 0} (pair : X → ℕ × ℕ) (entries : List X) (i old : ℕ) (entry : X) → i < length entries → entry ≡ get_or entries i entry
    → old ≡ (pair entry).1 → old ≡ second_in (map pair entries) i
place_at pair entries i old entry l is e = e ∙ sym (ap (λ (x : ℕ × ℕ). x.1) (entry_at pair entries i entry l is))

pub point_at : {X : Type 0} (pair : X → ℕ × ℕ) (entries : List X) (i point : ℕ) (entry : X) → i < length entries → entry ≡ get_or entries i entry
    → point ≡ (pair entry).0 → point ≡ first_in (map pair entries) i
point_at pair entries i point entry l is e = e ∙ sym (ap (λ (x : ℕ × ℕ). x.0) (entry_at pair entries i entry l is))

-- ---- listed entries

-- a listed place is at least where it stands
place_above : (count bound : ℕ) (xs : List (ℕ × ℕ)) → AreListed count bound xs → (s : ℕ) → s < length xs → s ≤ second_in xs s
place_above count bound xs h zero l = omega arith
place_above count bound xs h (suc s) l =
    let low = place_above count bound xs h s (omega arith) in
    let step : second_in xs s < second_in xs (suc s) = h.rise s (suc s) (0, 0) (omega arith) l in
    omega arith

-- so there are no more of them than places
pub listed_few : (count bound : ℕ) (xs : List (ℕ × ℕ)) → AreListed count bound xs → length xs ≤ count
listed_few count bound xs h = elim (cases_eq (length xs) 0) [
  | inl none ↦ omega arith
  | inr some ↦
      let last = length xs - 1 in
      let low = place_above count bound xs h last (omega arith) in
      let high = h.below last (omega arith) in
      omega arith
]

-- ---- each place stands once

-- no place stands twice
abbrev pub OnePlace : List (ℕ × ℕ) → Type 0
OnePlace xs = (i j : ℕ) → i < length xs → j < length xs → second_in xs i ≡ second_in xs j → i ≡ j

listed_once : (count bound : ℕ) (xs : List (ℕ × ℕ)) → AreListed count bound xs → OnePlace xs
listed_once count bound xs h i j l m same = elim (cases_lt i j) [
  | inl before ↦ let step : second_in xs i < second_in xs j = h.rise i j (0, 0) before m in absurd (omega arith)
  | inr later ↦ elim (cases_eq i j) [
    | inl is ↦ is
    | inr other ↦ let step : second_in xs j < second_in xs i = h.rise j i (0, 0) (omega arith) l in absurd (omega arith)
  ]
]

-- where the entry at a place stood before two were exchanged
record WasAt (a b i j : ℕ) : Type 0 where
  first : i ≡ a → j ≡ b
  second : i ≡ b → j ≡ a
  other : i ≢ a → i ≢ b → j ≡ i

was_at : (xs : List (ℕ × ℕ)) (a b : ℕ) → a < length xs → b < length xs → (i : ℕ) → i < length xs →
    (j : ℕ) × (j < length xs) × (second_in (swap xs a b) i ≡ second_in xs j) × WasAt a b i j
was_at xs a b la lb i l =
    let moved = swapped_from_swap xs (swap xs a b) a b (0, 0) la lb refl in
    elim (cases_eq i a) [
      | inl at_a ↦ (
        b,
        lb,
        ap (second_in (swap xs a b)) at_a ∙ ap (λ (e : ℕ × ℕ). e.1) moved.0,
        record { first = λ e. refl; second = λ e. omega arith; other = λ e f. absurd (e at_a) },
      )
      | inr not_a ↦ elim (cases_eq i b) [
        | inl at_b ↦ (
          a,
          la,
          ap (second_in (swap xs a b)) at_b ∙ ap (λ (e : ℕ × ℕ). e.1) moved.1,
          record { first = λ e. absurd (not_a e); second = λ e. refl; other = λ e f. absurd (f at_b) },
        )
        | inr not_b ↦ (
          i,
          l,
          ap (λ (e : ℕ × ℕ). e.1) (moved.2 i not_a not_b),
          record { first = λ e. absurd (not_a e); second = λ e. absurd (not_b e); other = λ e f. refl },
        )
      ]
    ]

same_before : (a b i j k m : ℕ) → WasAt a b i k → WasAt a b j m → k ≡ m → i ≡ j
same_before a b i j k m p q same =
    let p1 = p.first in
    let p2 = p.second in
    let p3 = p.other in
    let q1 = q.first in
    let q2 = q.second in
    let q3 = q.other in
    elim (cases_eq i a) [
      | inl e ↦ elim (cases_eq j a) [
        | inl f ↦ omega arith
        | inr f ↦ elim (cases_eq j b) [
          | inl g ↦ let x = p1 e in let y = q2 g in omega arith
          | inr g ↦ let x = p1 e in let y = q3 f g in omega arith
        ]
      ]
      | inr e ↦ elim (cases_eq i b) [
        | inl d ↦ elim (cases_eq j a) [
          | inl f ↦ let x = p2 d in let y = q1 f in omega arith
          | inr f ↦ elim (cases_eq j b) [
            | inl g ↦ omega arith
            | inr g ↦ let x = p2 d in let y = q3 f g in omega arith
          ]
        ]
        | inr d ↦ elim (cases_eq j a) [
          | inl f ↦ let x = p3 e d in let y = q1 f in omega arith
          | inr f ↦ elim (cases_eq j b) [
            | inl g ↦ let x = p3 e d in let y = q2 g in omega arith
            | inr g ↦ let x = p3 e d in let y = q3 f g in omega arith
          ]
        ]
      ]
    ]

swapped_once : (xs : List (ℕ × ℕ)) (a b : ℕ) → a < length xs → b < length xs → OnePlace xs → OnePlace (swap xs a b)
swapped_once xs a b la lb one i j l m same =
    let len = length-swap xs a b in
    let p = was_at xs a b la lb i (omega arith) in
    let q = was_at xs a b la lb j (omega arith) in
    same_before a b i j p.0 q.0 p.3 q.3 (one p.0 q.0 p.1 q.1 (sym p.2 ∙ same ∙ q.2))

pub shuffled_once : (count : ℕ) (xs : List (ℕ × ℕ)) → AreShuffled count xs → OnePlace xs
shuffled_once count xs h =
    IsPermutation-keeps h.gathered OnePlace (listed_once count h.bound h.gathered h.listed) (λ l a b la lb one. swapped_once l a b la lb one) xs h.permuted

-- a shuffled place is one of the places
pub shuffled_below : (count : ℕ) (xs : List (ℕ × ℕ)) → AreShuffled count xs → (s : ℕ) → s < length xs → second_in xs s < count
shuffled_below count xs h s l =
    let c = Contains-permutation xs h.gathered (slice_index_or xs s (0, 0)) (IsPermutation-sym h.gathered xs h.permuted)
    (s, l, get_or_default xs s (slice_index_or xs s (0, 0)) (0, 0) l) in
    let here : slice_index_or h.gathered c.0 (0, 0) ≡ slice_index_or xs s (0, 0) = get_or_default h.gathered c.0 (0, 0) (slice_index_or xs s (0, 0)) c.1 ∙ c.2 in
    let low = h.listed.below c.0 c.1 in
    subst (λ (e : ℕ × ℕ). e.1 < count) here low

pub shuffled_few : (count : ℕ) (xs : List (ℕ × ℕ)) → AreShuffled count xs → length xs ≤ count
shuffled_few count xs h =
    let same = length_permutation h.gathered xs h.permuted in
    let few = listed_few count h.bound h.gathered h.listed in
    omega arith

-- ---- new places by old ones

pub shuffled_inside : {X : Type 0} (pair : X → ℕ × ℕ) (entries : List X) (count i old : ℕ) (entry : X) → AreShuffled count (map pair entries) → i < length entries
    → entry ≡ get_or entries i entry → old ≡ (pair entry).1 → old < count
shuffled_inside pair entries count i old entry h l is e =
    let len = length-map entries pair in
    let inside = shuffled_below count (map pair entries) h i (omega arith) in
    let same = place_at pair entries i old entry l is e in
    omega arith

-- ---- sorted entries

-- a vector's items after a sort of its slice
pub items_sorted : {X : Type 0} (v : Vec X Global) (olds news : List X) → olds ≡ v.items → IsPermutation olds news → (with_items v news).items ≡ news
items_sorted v olds news is p = with_items_is v news (length_permutation olds news p ∙ ap length is ∙ sym v.ok.0)

-- their points stay below the bound
pub sorted_small : {X : Type 0} (pair : X → ℕ × ℕ) (count bound : ℕ) (olds news : List X) → AreListed count bound (map pair olds) → IsPermutation olds news
    → (s : ℕ) → s < length news → first_in (map pair news) s < bound
sorted_small pair count bound olds news h p s l =
    let xs = map pair news in
    let ys = map pair olds in
    let len = length-map news pair in
    let q = IsPermutation-map pair olds news p in
    let c = Contains-permutation xs ys (slice_index_or xs s (0, 0)) (IsPermutation-sym ys xs q)
    (s, omega (arith, len), get_or_default xs s (slice_index_or xs s (0, 0)) (0, 0) (omega (arith, len))) in
    let here : slice_index_or ys c.0 (0, 0) ≡ slice_index_or xs s (0, 0) = get_or_default ys c.0 (0, 0) (slice_index_or xs s (0, 0)) c.1 ∙ c.2 in
    subst (λ (e : ℕ × ℕ). e.0 < bound) here (h.small c.0 c.1)

pub sorted_few : {X : Type 0} (pair : X → ℕ × ℕ) (count bound most : ℕ) (olds news : List X) → AreListed count bound (map pair olds) → IsPermutation olds news
    → count ≤ most → length news ≤ most
sorted_few pair count bound most olds news h p few =
    let same = length_permutation olds news p in
    let len = length-map olds pair in
    let below = listed_few count bound (map pair olds) h in
    omega arith

-- a repetition of what is sorted is one of what was gathered
pub repeats_before : {X : Type 0} (pair : X → ℕ × ℕ) (file bound : ℕ) (olds news : List X) (damage : ScratchDamage) → IsPermutation olds news
    → IsRepetition file bound (map pair news) damage → IsRepetition file bound (map pair olds) damage
repeats_before pair file bound olds news damage p h = record {
  pointed = h.pointed;
  at = h.at;
  permuted = IsPermutation-trans (map pair olds) (map pair news) h.pointed (IsPermutation-map pair olds news p) h.permuted;
  repeated = h.repeated;
  file_is = h.file_is;
  place = h.place;
  found = h.found;
  least = h.least;
  limit = h.limit;
}

-- the first i of the sorted entries have their new places
pub record MovedSoFar (xs : List (ℕ × ℕ)) (count i : ℕ) (places : List ℕ) : Type 0 where
  pub as_long : length places ≡ count
  pub moved : (s : ℕ) → s < i → slice_index places (second_in xs s) ≡ s
  pub below : (j : ℕ) → j < count → slice_index places j < count

pub moved_more : (xs : List (ℕ × ℕ)) (count i : ℕ) (places : List ℕ) → AreShuffled count xs → i < length xs → MovedSoFar xs count i places →
    MovedSoFar xs count (i + 1) (slice_set places (second_in xs i) i)
moved_more xs count i places h l was =
    let inside = shuffled_below count xs h i l in
    let few = shuffled_few count xs h in
    let long = was.as_long in
    let place = second_in xs i in
    record {
      as_long = length-set places place i ∙ long;
      moved = λ s below. elim (cases_eq s i) [
        | inl same ↦ ap (λ n. slice_index (slice_set places place i) (second_in xs n)) same ∙ get_or-set_same places place i 0 (omega arith) ∙ sym same
        | inr other ↦
            let apart : second_in xs s ≢ place = (λ e. other (shuffled_once count xs h s i (omega arith) l e)) in
            get_or-set_other places place (second_in xs s) i 0 apart ∙ was.moved s (omega arith)
      ];
      below = λ j low. elim (cases_eq j place) [
        | inl same ↦ let e : slice_index (slice_set places place i) j ≡ i = ap (slice_index (slice_set places place i)) same ∙ get_or-set_same places place i 0 (omega arith) in omega arith
        | inr other ↦ let e : slice_index (slice_set places place i) j ≡ slice_index places j = get_or-set_other places place j i 0 other in let b = was.below j low in omega arith
      ];
    }

pub moved_next : {X : Type 0} (pair : X → ℕ × ℕ) (entries : List X) (count i old : ℕ) (entry : X) (places : List ℕ) → AreShuffled count (map pair entries) → i < length entries
    → entry ≡ get_or entries i entry → old ≡ (pair entry).1 → MovedSoFar (map pair entries) count i places → MovedSoFar (map pair entries) count (i + 1) (slice_set places old i)
moved_next pair entries count i old entry places h l is e was =
    let len = length-map entries pair in
    let same = place_at pair entries i old entry l is e in
    subst (λ (n : ℕ). MovedSoFar (map pair entries) count (i + 1) (slice_set places n i)) (sym same) (moved_more (map pair entries) count i places h (omega arith) was)
