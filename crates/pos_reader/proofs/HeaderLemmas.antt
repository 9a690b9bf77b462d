-- What a header says of its tables, and the tests of opening one by one.
use Rattle.std.proofs.Common.{◌≡◌, ℕ, zero, suc, ◌+◌, ◌-◌, ◌*◌, ◌^◌, ◌<◌, ◌≤◌, ◌≢◌, ◌==◌, nat_le, refl, sym, ◌∙◌, arith, zero-add, Bool, true, false, ◌&&◌, Option, Some, None, List, [], ◌∷◌, length, slice_index, slice_index_or, inl, inr}
use Rattle.std.specs.List.{list_all}
use Rattle.std.specs.Str.{bytes_eq}
use Rattle.std.proofs.lemmas.Bool.{false≢true, cases_lt}
use Rattle.std.proofs.lemmas.Bool.Decides.{nat_tests}
use Rattle.std.proofs.Math.Pow.{pow_mono}
use Rattle.pos_layout.specs.declared.header.Header.{Header}
use Rattle.pos_layout.specs.declared.header.Column.{Column}
use Rattle.pos_layout.specs.declared.header.TheConstants.{HEADER_BYTES, LEAST_SIZE, GREATEST_SIZE}
use Rattle.pos_layout.specs.declared.damage.HeaderField.{HeaderField}
use Rattle.pos_layout.specs.declared.damage.HeaderField.TheVariants.{Name, Size, Zeros, Memo, Counts}
use Rattle.pos_layout.specs.declared.damage.Damage.{Damage}
use Rattle.pos_layout.specs.declared.damage.Damage.TheVariants.{NotOpen, Header as WrongHeader, Length, Directory}
use Rattle.pos_layout.specs.declared.layout.Layout.TheVariants.{One, Two}
use Rattle.pos_layout.specs.declared.layout.Layout.{Layout}
use Rattle.pos_layout.specs.Layouts.{name_of, full_of, digest_of, memo_of, entry_bytes, parks_of}
use Rattle.pos_layout.specs.Fields.{column_of, count_of, directory_of, end_of, gate_in, header_in, layout_in, name_in, zeros_in}
use Rattle.pos_layout.specs.Damages.{unless, first_found, header_fault, is_placed, place_fault, directory_fault, opening}
use Rattle.pos_reader.specs.Steps.{HasCounts}

-- where a table ends, by its column
pub end_of-at : (h : Header) (t : ℕ) → 1 ≤ t → end_of h.layout h t ≡ directory_of h t + entry_bytes h.layout * parks_of h.layout (count_of h t)
unfolding end_of
end_of-at h zero first = absurd (omega arith)
end_of-at h (suc t) first = refl

pub end_of-zero : (h : Header) → end_of h.layout h 0 ≡ 176 + h.memo_length
unfolding end_of
end_of-zero h = refl

-- no table has more than 2^51 numbers
pub count_small : (h : Header) (t : ℕ) → HasCounts h → 1 ≤ t → t ≤ 7 → count_of h t ≤ 2251799813685248
count_small h t counts first last =
    let size = counts.size in
    let most = pow_mono {i = h.size + 1} {j = 51} (omega arith) in
    let few = counts.counts t first last in
    omega arith

-- the directory of so many numbers has fewer than 2^63 bytes
pub entries_small : (l : Layout) (n : ℕ) → n ≤ 2251799813685248 → entry_bytes l * parks_of l n < 9223372036854775808
unfolding full_of digest_of
entries_small One n few = omega arith
entries_small Two n few = omega arith

-- the test of a directory's place, by what it means
pub is_placed-true : (h : Header) (t before entries : ℕ) → before ≡ end_of h.layout h (t - 1) → directory_of h t + entries ≡ end_of h.layout h t
    → before ≤ directory_of h t → directory_of h t + entries ≤ h.file_length → (count_of h t ≡ 0 → directory_of h t ≡ before)
    → is_placed h.layout h t ≡ true
is_placed-true h t before entries start stop after inside empty =
    rw (← start, ← stop) (grind (arith, nat_tests))

pub is_placed-outside : (h : Header) (t before entries : ℕ) → before ≡ end_of h.layout h (t - 1) → directory_of h t + entries ≡ end_of h.layout h t
    → ((before ≤ directory_of h t) × (directory_of h t + entries ≤ h.file_length) → ⊥)
    → is_placed h.layout h t ≡ false
is_placed-outside h t before entries start stop out =
    rw (← start, ← stop) (grind (arith, nat_tests))

pub is_placed-apart : (h : Header) (t before entries : ℕ) → before ≡ end_of h.layout h (t - 1) → directory_of h t + entries ≡ end_of h.layout h t
    → count_of h t ≡ 0 → directory_of h t ≢ before
    → is_placed h.layout h t ≡ false
is_placed-apart h t before entries start stop none apart =
    rw (← start, ← stop) (grind (arith, nat_tests))

-- ---- tests one after another

pub first_passes : {D : Type 0} (holds : Bool) (d : D) (tests : List (Option D)) → holds ≡ true → first_found (unless holds d ∷ tests) ≡ first_found tests
first_passes true d tests e = refl
first_passes false d tests e = absurd (false≢true e)

pub first_fails : {D : Type 0} (holds : Bool) (d : D) (tests : List (Option D)) → holds ≡ false → first_found (unless holds d ∷ tests) ≡ Some d
first_fails true d tests e = absurd (false≢true (sym e))
first_fails false d tests e = refl

pub first_none : {D : Type 0} (holds : Bool) (d : D) (tests : List (Option D)) → first_found (unless holds d ∷ tests) ≡ None → (holds ≡ true) × (first_found tests ≡ None)
first_none true d tests e = (refl, e)
first_none false d tests e = cc

-- the tests of the directories from table t on, with so many tables left to test
places_from : Header → ℕ → ℕ → List (Option Damage)
places_from h t zero = unless (end_of h.layout h 7 == h.file_length) (Directory 7 0) ∷ []
places_from h t (suc left) = place_fault h.layout h t ∷ places_from h (suc t) left

places-all : (h : Header) → directory_fault h.layout h ≡ first_found (places_from h 1 7)
unfolding directory_fault places_from
places-all h = refl

-- where all tables before the first that is left are placed, these are the tests that count
places-passed : (h : Header) (t left : ℕ) (passed : (s : ℕ) → t ≤ s → s < t + left → is_placed h.layout h s ≡ true)
    → first_found (places_from h t left) ≡ first_found (places_from h (t + left) zero)
unfolding places_from
places-passed h t zero passed = refl
places-passed h t (suc left) passed =
    first_passes (is_placed h.layout h t) (Directory t 0) (places_from h (suc t) left) (passed t (omega arith) (omega arith))
    ∙ places-passed h (suc t) left (λ s from to. passed s (omega arith) (omega arith))

places-failed : (h : Header) (t before left : ℕ) (passed : (s : ℕ) → t ≤ s → s < t + before → is_placed h.layout h s ≡ true)
    → is_placed h.layout h (t + before) ≡ false → first_found (places_from h t (before + suc left)) ≡ Some (Directory (t + before) 0)
unfolding places_from
places-failed h t zero left passed fails =
    let here : t + 0 ≡ t = omega arith in
    rw (zero-add, here) (first_fails (is_placed h.layout h t) (Directory t 0) (places_from h (suc t) left) (rw here at fails))
places-failed h t (suc before) left passed fails =
    let next : t + suc before ≡ suc t + before = omega arith in
    let more : suc before + suc left ≡ suc (before + suc left) = omega arith in
    rw (next, more)
    (first_passes (is_placed h.layout h t) (Directory t 0) (places_from h (suc t) (before + suc left)) (passed t (omega arith) (omega arith))
    ∙ places-failed h (suc t) before left (λ s from to. passed s (omega arith) (omega arith)) (rw next at fails))

-- the first table that is not placed is the damage
pub misplaced_first : (h : Header) (t : ℕ) → 1 ≤ t → t ≤ 7 → ((s : ℕ) → 1 ≤ s → s < t → is_placed h.layout h s ≡ true) → is_placed h.layout h t ≡ false → directory_fault h.layout h ≡ Some (Directory t 0)
misplaced_first h t first last passed fails =
    let here : 1 + (t - 1) ≡ t = omega arith in
    let all : (t - 1) + suc (7 - t) ≡ 7 = omega arith in
    let found = places-failed h 1 (t - 1) (7 - t) (λ s from to. passed s from (omega arith)) (rw (← here) at fails) in
    places-all h ∙ (rw all at (rw here at found))

-- where all are placed, only the file's end is left to test
pub placed_all : (h : Header) → ((s : ℕ) → 1 ≤ s → s ≤ 7 → is_placed h.layout h s ≡ true) → directory_fault h.layout h ≡ first_found (unless (end_of h.layout h 7 == h.file_length) (Directory 7 0) ∷ [])
unfolding places_from
placed_all h passed = places-all h ∙ places-passed h 1 7 (λ s from to. passed s from (omega arith))

-- ---- tests of numbers

pub eq_true : (m n : ℕ) → m ≡ n → (m == n) ≡ true
eq_true m n e = grind (arith, nat_tests)

pub eq_false : (m n : ℕ) → m ≢ n → (m == n) ≡ false
eq_false m n e = grind (arith, nat_tests)

pub eq_means : (m n : ℕ) → (m == n) ≡ true → m ≡ n
eq_means m n e = grind (arith, nat_tests)

pub le_means : (m n : ℕ) → nat_le m n ≡ true → m ≤ n
le_means m n e = grind (arith, nat_tests)

pub both_left : (a b : Bool) → (a && b) ≡ true → a ≡ true
both_left true b e = refl
both_left false b e = e

pub both_right : (a b : Bool) → (a && b) ≡ true → b ≡ true
both_right true b e = e
both_right false b e = absurd (false≢true e)

-- ---- the tests of a header

all_at : (p : Column → Bool) (cs : List Column) (i : ℕ) (d : Column) → list_all p cs ≡ true → i < length cs → p (slice_index_or cs i d) ≡ true
all_at p [] i d all within = absurd (omega arith)
all_at p (c ∷ cs) zero d all within = both_left (p c) (list_all p cs) all
all_at p (c ∷ cs) (suc i) d all within = all_at p cs i d (both_right (p c) (list_all p cs) all) (omega arith)

-- what the tests of the header found right
pub record IsRight (b : List ℕ) : Type 0 where
  pub name : bytes_eq (name_in b) (name_of (layout_in b)) ≡ true
  pub least : LEAST_SIZE ≤ (header_in b).size
  pub zeros : list_all (λ x. x == 0) (zeros_in (layout_in b) b) ≡ true
  pub memo : (header_in b).memo_length ≤ memo_of (layout_in b)
  pub counts : HasCounts (header_in b)

pub header_right : (b : List ℕ) → header_fault (layout_in b) b ≡ None → IsRight b
unfolding header_fault column_of header_in
header_right b none =
    let named = first_none (bytes_eq (name_in b) (name_of (layout_in b))) Name _ none in
    let sized = first_none (nat_le LEAST_SIZE (header_in b).size && nat_le (header_in b).size GREATEST_SIZE) Size _ named.1 in
    let zeroed = first_none (list_all (λ x. x == 0) (zeros_in (layout_in b) b)) Zeros _ sized.1 in
    let short = first_none (nat_le (header_in b).memo_length (memo_of (layout_in b))) Memo _ zeroed.1 in
    let counted = first_none (list_all (λ (c : Column). nat_le c.count (2 ^ ((header_in b).size + 1))) (header_in b).columns) Counts [] short.1 in
    record {
      name = named.0;
      least = le_means _ _ (both_left _ _ sized.0);
      zeros = zeroed.0;
      memo = le_means _ _ short.0;
      counts = record {
        size = le_means _ _ (both_right _ _ sized.0);
        counts = λ t first last. le_means _ _ (all_at (λ (c : Column). nat_le c.count (2 ^ ((header_in b).size + 1))) (header_in b).columns (t - 1) (record { count = 0; directory = 0 }) counted.0 (omega arith));
      };
    }

-- ---- the tests of opening

-- long enough, with an open gate
abbrev pub is_gated : List ℕ → ℕ → Bool
is_gated b n = nat_le HEADER_BYTES n && (gate_in b == 1)

one_found : {D : Type 0} (x : Option D) → first_found (x ∷ []) ≡ x
one_found None = refl
one_found (Some d) = refl

pub opening-gate : (b : List ℕ) (n : ℕ) → is_gated b n ≡ false → opening (layout_in b) b n ≡ Some (NotOpen n (gate_in b))
unfolding opening
opening-gate b n e = first_fails (is_gated b n) (NotOpen n (gate_in b)) _ e

pub opening-header : (b : List ℕ) (n : ℕ) (field : HeaderField) → is_gated b n ≡ true → header_fault (layout_in b) b ≡ Some field → opening (layout_in b) b n ≡ Some (WrongHeader field)
unfolding opening
opening-header b n field gated fault = first_passes (is_gated b n) (NotOpen n (gate_in b)) _ gated ∙ rw fault refl

pub opening-length : (b : List ℕ) (n : ℕ) → is_gated b n ≡ true → header_fault (layout_in b) b ≡ None → (header_in b).file_length ≢ n → opening (layout_in b) b n ≡ Some (Length (header_in b).file_length n)
unfolding opening
opening-length b n gated right wrong =
    first_passes (is_gated b n) (NotOpen n (gate_in b)) _ gated
    ∙ rw right (first_fails ((header_in b).file_length == n) (Length (header_in b).file_length n) _ (eq_false _ _ wrong))

pub opening-rest : (b : List ℕ) (n : ℕ) → is_gated b n ≡ true → header_fault (layout_in b) b ≡ None → (header_in b).file_length ≡ n → opening (layout_in b) b n ≡ directory_fault (layout_in b) (header_in b)
unfolding opening
opening-rest b n gated right said =
    first_passes (is_gated b n) (NotOpen n (gate_in b)) _ gated
    ∙ rw right (first_passes ((header_in b).file_length == n) (Length (header_in b).file_length n) _ (eq_true _ _ said) ∙ one_found (directory_fault (layout_in b) (header_in b)))

pub gated : (b : List ℕ) (n : ℕ) → 176 ≤ n → slice_index b 0 ≡ 1 → is_gated b n ≡ true
gated b n long one = grind (arith, nat_tests)

pub short_gate : (b : List ℕ) (n : ℕ) → n < 176 → is_gated b n ≡ false
short_gate b n short = grind (arith, nat_tests)

pub shut_gate : (b : List ℕ) (n : ℕ) → slice_index b 0 ≢ 1 → is_gated b n ≡ false
shut_gate b n shut = grind (arith, nat_tests)

pub le_true : (m n : ℕ) → m ≤ n → nat_le m n ≡ true
le_true m n e = grind (arith, nat_tests)

-- no table is misplaced where the test of the directories finds nothing
places_from-none : (h : Header) (t left : ℕ) → first_found (places_from h t left) ≡ None
    → ((s : ℕ) → t ≤ s → s < t + left → is_placed h.layout h s ≡ true) × ((end_of h.layout h 7 == h.file_length) ≡ true)
unfolding places_from
places_from-none h t zero none = (λ s from to. absurd (omega arith), (first_none (end_of h.layout h 7 == h.file_length) (Directory 7 0) [] none).0)
places_from-none h t (suc left) none =
    let here = first_none (is_placed h.layout h t) (Directory t 0) (places_from h (suc t) left) none in
    let rest = places_from-none h (suc t) left here.1 in (
      λ s from to. elim (cases_lt t s) [
        | inl later ↦ rest.0 s later (omega arith)
        | inr same ↦ let e : s ≡ t = omega arith in rw e here.0
      ],
      rest.1,
    )

pub places_none : (h : Header) → directory_fault h.layout h ≡ None → ((t : ℕ) → 1 ≤ t → t ≤ 7 → is_placed h.layout h t ≡ true) × ((end_of h.layout h 7 == h.file_length) ≡ true)
places_none h none =
    let all = places_from-none h 1 7 (sym (places-all h) ∙ none) in
    (λ t first last. all.0 t first (omega arith), all.1)
