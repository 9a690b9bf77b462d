-- The pages of a file, and the records on a page.
use Rattle.std.proofs.Common.{◌≡◌, ℕ, zero, suc, ◌+◌, ◌-◌, ◌*◌, ◌/◌, ◌%◌, ◌^◌, ◌<◌, ◌≤◌, Bool, List, [], ◌∷◌, ◌++◌, length, take, drop, get_or, Some, refl, sym, ap, ◌∙◌, subst, inl, inr, arith, append_assoc, take-take, take_at, drop_at, length-append, length-take, length-drop, le_trans}
use Rattle.std.specs.Prelude.{slice_get, slice_range}
use Rattle.std.proofs.Math.Nat.{mul-le-mul_left, mul-le-mul_right}
use Rattle.std.proofs.lemmas.Bool.{cases_eq, cases_lt}
use Rattle.std.proofs.lemmas.List.{drop-append-le, drop-take, take-append-le}
use Rattle.std.proofs.lemmas.Option.{none-some, slice_get_past, slice_get-get_or}
use Rattle.pos_bits.specs.Bits.{bits_of}
use Rattle.pos_bits.proofs.BytesLemmas.{length-bits_of}
use Rattle.pos_edge.specs.Images.{written}
use Rattle.pos_record.specs.Fields.{part_at}
use Rattle.pos_record.proofs.PackingLemmas.{count-fits}
use Rattle.pos_runs.specs.Pages.{per_page, page_of, PageHolds}

-- ---- how many records a page has

quotient_ge : (n w k : ℕ) → 0 < w → k * w ≤ n → k ≤ n / w
quotient_ge n zero k p h = absurd (omega arith)
quotient_ge n (suc w) k p h = elim (cases_lt (n / suc w) k) [
  | inr enough ↦ enough
  | inl short ↦
      let more : (n / suc w + 1) * suc w ≤ k * suc w = mul-le-mul_right (suc w) (let le : n / suc w + 1 ≤ k = omega arith in le) in
      let whole : n ≡ n / suc w * suc w + n % suc w = omega arith in
      let rest : n % suc w < suc w = omega arith in
      absurd (omega arith)
]

-- a page has room for at least 1024 records of at most 512 bits
pub per_page_ge : (w : ℕ) → 0 < w → w ≤ 512 → 1024 ≤ per_page w
per_page_ge w p h = quotient_ge 524288 w 1024 p (le_trans (mul-le-mul_left 1024 h) (omega arith))

-- so many records fit a page
pub records_fit : (w : ℕ) → per_page w * w ≤ 524288
records_fit w = count-fits 524288 w

-- a record of a page lies within it
pub record_within : (w j : ℕ) → j < per_page w → j * w + w ≤ 524288
record_within w j h =
    let more : (j + 1) * w ≤ per_page w * w = mul-le-mul_right w (let le : j + 1 ≤ per_page w = omega arith in le) in
    omega (arith, records_fit w)

-- pages of fewer records than there are
pub pages_few : (w written count : ℕ) → 1024 ≤ per_page w → per_page w * written ≤ count + per_page w → per_page w ≤ 524288 → count ≤ 2 ^ 52 → written < 2 ^ 46
pages_few w written count p h q few =
    let more : 1024 * written ≤ per_page w * written = mul-le-mul_right written p in
    omega arith

pub per_page_le : (w : ℕ) → 0 < w → per_page w ≤ 524288
per_page_le zero h = absurd (omega arith)
per_page_le (suc w) h =
    let le : per_page (suc w) * 1 ≤ per_page (suc w) * suc w = mul-le-mul_left (per_page (suc w)) (let one : 1 ≤ suc w = omega arith in one) in
    omega (arith, records_fit (suc w))

-- a record's page was written
pub page_below : (i q written count : ℕ) → i < count → count ≤ q * written → i / q < written
page_below i zero written count h c = absurd (omega arith)
page_below i (suc q) written count h c = elim (cases_lt (i / suc q) written) [
  | inl below ↦ below
  | inr above ↦
      let more : suc q * written ≤ suc q * (i / suc q) = mul-le-mul_left (suc q) above in
      let part : suc q * (i / suc q) ≤ i = omega arith in
      absurd (omega arith)
]

pub place_in_page : (i q : ℕ) → 0 < q → (q * (i / q) + i % q ≡ i) × (i % q < q)
place_in_page i zero h = absurd (omega arith)
place_in_page i (suc q) h = (omega arith, omega arith)

-- ---- the pages of a file that a page was written to

page-before : (p n : ℕ) (piece b : List ℕ) → p < n → 65536 * n ≤ length b → page_of p (written (65536 * n) piece b) ≡ page_of p b
page-before p n piece b h long =
    let at : ℕ = 65536 * n in
    let k : ℕ = 65536 * p in
    let rest : ℕ = at - k in
    let size : k + rest ≡ at = omega arith in
    let tail : List ℕ = piece ++ drop (at + length piece) b in
    let front : List ℕ = take at b in
    let long_front : length front ≡ at = rw (length-take at b) (omega arith) in
    let inner : drop k front ≡ take rest (drop k b) = ap (λ m. drop k (take m b)) (sym size) ∙ drop-take k rest b in
    let room : 65536 ≤ length (drop k front) = rw (length-drop k front) (omega arith) in
    ap (λ t. take 65536 (drop k t)) (append_assoc front piece (drop (at + length piece) b))
    ∙ ap (take 65536) (drop-append-le k front tail (omega arith))
    ∙ take-append-le 65536 (drop k front) tail room
    ∙ ap (take 65536) inner
    ∙ take-take 65536 rest (drop k b) (omega arith)

page-at : (n : ℕ) (piece b : List ℕ) → length piece ≡ 65536 → 65536 * n ≤ length b → page_of n (written (65536 * n) piece b) ≡ piece
page-at n piece b size long =
    let at : ℕ = 65536 * n in
    let tail : List ℕ = drop (at + length piece) b in
    let front : length (take at b) ≡ at = rw (length-take at b) (omega arith) in
    ap (λ t. take 65536 (drop at t)) (append_assoc (take at b) piece tail)
    ∙ ap (take 65536) (drop_at (take at b) (piece ++ tail) at front)
    ∙ take_at piece tail 65536 size

-- all pages up to the one that was written have their records
pub pages-written : {R : Type 0} (read : List Bool → R) (w n : ℕ) (xs : List R) (piece b : List ℕ) → length piece ≡ 65536 → 65536 * n ≤ length b
    → ((p : ℕ) → p < n → PageHolds read w p xs (page_of p b)) → PageHolds read w n xs piece
    → (p : ℕ) → p < n + 1 → PageHolds read w p xs (page_of p (written (65536 * n) piece b))
pages-written read w n xs piece b size long before last p h = elim (cases_lt p n) [
  | inl earlier ↦ subst (λ (t : List ℕ). PageHolds read w p xs t) (sym (page-before p n piece b earlier long)) (before p earlier)
  | inr not_earlier ↦
      let same : n ≡ p = omega arith in
      subst (λ q. PageHolds read w q xs (page_of q (written (65536 * n) piece b))) same (subst (λ (t : List ℕ). PageHolds read w n xs t) (sym (page-at n piece b size long)) last)
]

-- a page behind all records has none of them
pub page-empty : {R : Type 0} (read : List Bool → R) (w p : ℕ) (xs : List R) (bytes : List ℕ) → length xs ≤ per_page w * p → PageHolds read w p xs bytes
page-empty read w p xs bytes h j x few is = absurd (none-some x (sym (slice_get_past xs (per_page w * p + j) (omega arith)) ∙ is))

-- the bytes of a page read from a file
pub page-read : (p : ℕ) (got bytes : List ℕ) → length got ≡ 65536 → got ≡ slice_range bytes (65536 * p) (65536 * p + length got) → got ≡ page_of p bytes
page-read p got bytes size is =
    let n : (65536 * p + length got) - 65536 * p ≡ 65536 = omega arith in
    is ∙ ap (λ k. take k (drop (65536 * p) bytes)) n

-- ---- one more record on a page

get-front : {R : Type 0} (xs : List R) (y : R) (i : ℕ) → i < length xs → slice_get (xs ++ y ∷ []) i ≡ slice_get xs i
get-front [] y i h = absurd (omega arith)
get-front (x ∷ xs) y zero h = refl
get-front (x ∷ xs) y (suc i) h = get-front xs y i (omega arith)

get-last : {R : Type 0} (xs : List R) (y : R) (i : ℕ) → i ≡ length xs → slice_get (xs ++ y ∷ []) i ≡ Some y
get-last [] y zero e = refl
get-last [] y (suc i) e = absurd (omega arith)
get-last (x ∷ xs) y zero e = absurd (omega arith)
get-last (x ∷ xs) y (suc i) e = get-last xs y i (omega arith)

-- a page before the end keeps its records
pub page-kept : {R : Type 0} (read : List Bool → R) (w p : ℕ) (xs : List R) (item : R) (bytes : List ℕ) → per_page w * p + per_page w ≤ length xs
    → PageHolds read w p xs bytes → PageHolds read w p (xs ++ item ∷ []) bytes
page-kept read w p xs item bytes h holds j x few is = holds j x few (sym (get-front xs item (per_page w * p + j) (omega arith)) ∙ is)

same-part : (old new : List Bool) (at place w : ℕ) → place + w ≤ at → take at new ≡ take at old → part_at place w new ≡ part_at place w old
same-part old new at place w h e =
    let rest : ℕ = at - place in
    let size : place + rest ≡ at = omega arith in
    let inside : (s : List Bool) → part_at place w s ≡ take w (drop place (take at s)) =
    λ s. sym (ap (take w) (ap (λ m. drop place (take m s)) (sym size) ∙ drop-take place rest s) ∙ take-take w rest (drop place s) (omega arith)) in
    inside new ∙ ap (λ t. take w (drop place t)) e ∙ sym (inside old)

pub page-pushed : {R : Type 0} (read : List Bool → R) (w p used : ℕ) (xs : List R) (item : R) (old new : List ℕ) (code : List Bool)
    → take (used * w + w) (bits_of new) ≡ take (used * w) (bits_of old) ++ code → length code ≡ w → read code ≡ item
    → used < per_page w → length old ≡ 65536 → length xs ≡ per_page w * p + used
    → PageHolds read w p xs old → PageHolds read w p (xs ++ item ∷ []) new
page-pushed read w p used xs item old new code put long back room size count holds j x few is = elim (cases_lt j used) [
  | inl before ↦
      let place : ℕ = j * w in
      let at : ℕ = used * w in
      let inside : j * w + w ≤ used * w =
      (let more : (j + 1) * w ≤ used * w = mul-le-mul_right w (let le : j + 1 ≤ used = omega arith in le) in omega arith) in
      ap read (same-part (bits_of old) (bits_of new) at place w inside front)
      ∙ holds j x few (sym (get-front xs item (per_page w * p + j) (omega arith)) ∙ is)
  | inr not_before ↦ elim (cases_eq j used) [
    | inl same ↦
        let last : Some item ≡ Some x = sym (get-last xs item (per_page w * p + j) (omega arith)) ∙ is in
        let equal : item ≡ x = cc in
        ap read (ap (λ k. part_at (k * w) w (bits_of new)) same ∙ piece) ∙ back ∙ equal
    | inr other ↦
        let past : length (xs ++ item ∷ []) ≤ per_page w * p + j = rw (length-append xs (item ∷ [])) (omega arith) in
        absurd (none-some x (sym (slice_get_past (xs ++ item ∷ []) (per_page w * p + j) past) ∙ is))
  ]
] where
  long_old : used * w ≤ length (bits_of old)
  long_old = omega (arith, length-bits_of old, record_within w used room)

  long_front : length (take (used * w) (bits_of old)) ≡ used * w
  long_front = rw (length-take (used * w) (bits_of old)) (omega (arith, long_old))

  front : take (used * w) (bits_of new) ≡ take (used * w) (bits_of old)
  front =
      sym (take-take (used * w) (used * w + w) (bits_of new) (omega arith))
      ∙ ap (take (used * w)) put
      ∙ take_at (take (used * w) (bits_of old)) code (used * w) long_front

  piece : part_at (used * w) w (bits_of new) ≡ code
  piece =
      sym (drop-take (used * w) w (bits_of new))
      ∙ ap (drop (used * w)) put
      ∙ drop_at (take (used * w) (bits_of old)) code (used * w) long_front

-- the record at a place of a list is what its page is read as
pub record-read : {R : Type 0} (read : List Bool → R) (w p j i : ℕ) (xs : List R) (item : R) (bytes : List ℕ) → j < per_page w → per_page w * p + j ≡ i → i < length xs
    → item ≡ read (part_at (j * w) w (bits_of bytes)) → PageHolds read w p xs bytes → slice_get xs i ≡ Some item
record-read read w p j i xs item bytes few place within is holds =
    let found : slice_get xs i ≡ Some (get_or xs i item) = slice_get-get_or xs i item within in
    found ∙ ap (λ (y : _). Some y) (sym (is ∙ holds j (get_or xs i item) few (ap (slice_get xs) place ∙ found)))
