-- Table 1: the rows of all values, in any order.
use Rattle.std.proofs.Common.{◌≡◌, ◌≢◌, ℕ, ◌+◌, ◌^◌, ◌<◌, List, [], ◌∷◌, ◌++◌, length, map, get_or, arith, refl, sym, ap, ap₂, subst, ◌∙◌, below_more}
use Rattle.std.proofs.Math.Nat.{mul-one}
use Rattle.std.specs.List.{All, AllPairs, Contains}
use Rattle.std.specs.List.Sorted.{IsPermutation, IsNonDecreasingBy}
use Rattle.std.proofs.lemmas.List.{length-map, length_push, get_or-map, get_or_push, get_or_append_left}
use Rattle.std.proofs.lemmas.Simd.{map-map}
use Rattle.std.proofs.lemmas.List.Elements.{All-nil, All-push, All-weaker, All-map}
use Rattle.std.proofs.lemmas.List.Sorted.{IsPermutation-map, All-permutation, Contains-permutation, length_permutation}
use Rattle.pos_bits.specs.Bits.{bits}
use Rattle.pos_tuple.specs.declared.entry.Entry.{Entry}
use Rattle.pos_tuple.specs.Node.{first_entry}
use Rattle.pos_record.specs.declared.kinds.First.{First}
use Rattle.pos_record.specs.Kinds.{FirstFits}
use Rattle.pos_forward.specs.Drafts.{first_row_entry}
use Rattle.pos_forward.specs.Tables.{IsValueRow, AreValueRows, AreFirstRows}
use Rattle.pos_forward.proofs.ListLemmas.{map-same, order-map, numbers-permutation}

no_row : First
no_row = record { y = 0; x = 0 }

pub rows-none : (id : List ℕ) (k : ℕ) (rows : List First) → rows ≡ [] → AreValueRows id k 0 rows
rows-none id k rows e =
    subst (AreValueRows id k 0) (sym e)
    (record { each = All-nil (IsValueRow id k); at = λ i lt. absurd (omega arith); count = refl })

pub rows-more :
    (id : List ℕ) (k n : ℕ) (rows new : List First) (r : First) → AreValueRows id k n rows → r.x ≡ n → IsValueRow id k r
    → new ≡ rows ++ r ∷ [] → AreValueRows id k (n + 1) new
rows-more id k n rows new r h x_is row e =
    subst (AreValueRows id k (n + 1)) (sym e)
    (record {
      each = All-push (IsValueRow id k) rows r h.each row;
      at = below_more (λ i. (get_or (rows ++ r ∷ []) i (record { y = 0; x = 0 })).x ≡ i) n
          (λ i lt. let inside : i < length rows = omega (arith, h.count) in
          ap (λ (a : First). a.x) (get_or_append_left rows (r ∷ []) _ i inside) ∙ h.at i lt)
          (ap (λ (a : First). a.x) (get_or_push rows r _ n h.count) ∙ x_is);
      count = length_push rows r ∙ ap (λ m. m + 1) h.count;
    })

row-entry : (id : List ℕ) (k : ℕ) (r : First) → IsValueRow id k r → first_row_entry k r ≡ first_entry id k r.x
unfolding first_entry
row-entry id k r h =
    let make : ℕ → ℕ → Entry = λ y w. record { y = y; meta = bits r.x w } in
    ap₂ make h.y (mul-one k)

values-distinct : (id : List ℕ) (k n : ℕ) (rows : List First) → AreValueRows id k n rows → AllPairs (λ a b. a ≢ b) (map (λ (r : First). r.x) rows)
values-distinct id k n rows h = λ i j d lt inside same.
    let in_j : j < length rows = omega (arith, length-map rows (λ (r : First). r.x)) in
    let in_i : i < length rows = omega arith in
    let at_i = get_or-map (λ (r : First). r.x) rows i (record { y = 0; x = 0 }) d in_i in
    let at_j = get_or-map (λ (r : First). r.x) rows j (record { y = 0; x = 0 }) d in_j in
    let x_i = h.at i (omega (arith, h.count)) in
    let x_j = h.at j (omega (arith, h.count)) in
    let e : i ≡ j = sym x_i ∙ sym at_i ∙ same ∙ at_j ∙ x_j in
    omega arith

values-all : (id : List ℕ) (k n : ℕ) (rows : List First) → AreValueRows id k n rows → (x : ℕ) → x < n → Contains (map (λ (r : First). r.x) rows) x
values-all id k n rows h x lt =
    let inside : x < length rows = omega (arith, h.count) in
    (x, omega (arith, length-map rows (λ (r : First). r.x)), get_or-map (λ (r : First). r.x) rows x (record { y = 0; x = 0 }) x inside ∙ h.at x lt)

pub first-rows :
    (id : List ℕ) (k : ℕ) (old new : List First) → AreValueRows id k (2 ^ k) old → IsPermutation old new
    → IsNonDecreasingBy (λ (r : First). r.y) new → AreFirstRows id k new
first-rows id k old new h perm rise =
    let each : All (IsValueRow id k) new = All-permutation (IsValueRow id k) old new perm h.each in
    let xs : IsPermutation (map (λ (r : First). r.x) old) (map (λ (r : First). r.x) new) = IsPermutation-map (λ (r : First). r.x) old new perm in
    let fit : All (FirstFits k) new = All-weaker (IsValueRow id k) (FirstFits k) (λ r row. row.fits) new each in
    record {
      table = record {
        below = All-map (λ x. x < 2 ^ k) (λ (r : First). r.x) new (All-weaker (FirstFits k) (λ (r : First). r.x < 2 ^ k) (λ r f. f.1) new fit);
        all = λ x lt. Contains-permutation _ _ x xs (values-all id k (2 ^ k) old h x lt);
        once = numbers-permutation _ _ xs (values-distinct id k (2 ^ k) old h);
        made =
            map-same (first_row_entry k) (λ (r : First). first_entry id k r.x) new
            (All-weaker (IsValueRow id k) (λ (r : First). first_row_entry k r ≡ first_entry id k r.x) (row-entry id k) new each)
            ∙ sym (map-map (first_entry id k) (λ (r : First). r.x) new);
      };
      rise = order-map (first_row_entry k) (λ (r : First). r.y) no_row new (λ r. refl) rise;
      fit = fit;
      count = length_permutation old new perm ∙ h.count;
    }
