-- Opening finds nothing exactly where a file opens, test by test.
use Rattle.std.proofs.Common.{◌≡◌, ℕ, zero, suc, ◌+◌, ◌-◌, ◌^◌, ◌<◌, ◌≤◌, leb, eqb, ◌&&◌, ◌||◌, not, Bool, true, false, List, [], ◌∷◌, length, get_or, replicate, Option, Some, None, refl, sym, ap, ◌∙◌, subst, arith}
use Rattle.std.specs.List.{list_all}
use Rattle.std.specs.Str.{bytes_eq}
use Rattle.std.specs.Option.{option_map}
use Rattle.std.proofs.lemmas.Bool.{and_parts}
use Rattle.std.proofs.lemmas.Bool.Decides.{nat_tests}
use Rattle.std.proofs.lemmas.Slice.Eq.{bytes_eq-Decides}
use Rattle.std.proofs.lemmas.Option.{none-some}
use Rattle.pos_layout.specs.declared.header.Column.{Column}
use Rattle.pos_layout.specs.declared.header.Header.{Header}
use Rattle.pos_layout.specs.declared.damage.HeaderField.{HeaderField}
use Rattle.pos_layout.specs.declared.damage.HeaderField.TheVariants.{Name, Size, Zeros, Memo, Counts}
use Rattle.pos_layout.specs.declared.damage.Damage.{Damage}
use Rattle.pos_layout.specs.declared.damage.Damage.TheVariants.{NotOpen, Header as WrongHeader, Length, Directory}
use Rattle.pos_layout.specs.declared.header.TheConstants.{HEADER_BYTES, LEAST_SIZE, GREATEST_SIZE}
use Rattle.pos_layout.specs.Layouts.{Layout, name_of, memo_of, zeros_of}
use Rattle.pos_layout.specs.Fields.{gate_in, name_in, zeros_in, header_in, count_of, directory_of, end_of}
use Rattle.pos_layout.specs.Rules.{IsPlaced, Opens}
use Rattle.pos_layout.specs.Causes.{HasRightHeader}
use Rattle.pos_layout.specs.Damages.{unless, first_found, header_fault, is_placed, place_fault, directory_fault, opening}
use Rattle.pos_layout.proofs.LayoutLemmas.{zeros_few}
use Rattle.pos_layout.proofs.CodecLemmas.{length-part}
use Rattle.pos_layout.proofs.FilePlots.{no_column, column_of-suc, each}

-- ---- tests

-- nothing is found exactly where no test finds anything
abbrev AllNone : {D : Type 0} → List (Option D) → Type 0
AllNone [] = Unit {0}
AllNone (o ∷ os) = (o ≡ None) × AllNone os

all_none : {D : Type 0} (os : List (Option D)) → first_found os ≡ None → AllNone os
all_none [] h = tt
all_none (None ∷ os) h = (refl, all_none os h)
all_none (Some d ∷ os) h = absurd (none-some d (sym h))

none_all : {D : Type 0} (os : List (Option D)) → AllNone os → first_found os ≡ None
none_all [] h = refl
none_all (o ∷ os) h = rw (h.0, none_all os h.1) refl

unless_none : {D : Type 0} (t : Bool) (d : D) → unless t d ≡ None → t ≡ true
unless_none true d h = refl
unless_none false d h = absurd (none-some d (sym h))

none_unless : {D : Type 0} (t : Bool) (d : D) → t ≡ true → unless t d ≡ None
none_unless t d h = rw h refl

pub leb-le : (a b : ℕ) → leb a b ≡ true → a ≤ b
leb-le a b h = grind (arith, nat_tests)

pub le-leb : (a b : ℕ) → a ≤ b → leb a b ≡ true
le-leb a b h = grind (arith, nat_tests)

pub eqb-eq : (a b : ℕ) → eqb a b ≡ true → a ≡ b
eqb-eq a b h = grind (arith, nat_tests)

pub eq-eqb : (a b : ℕ) → a ≡ b → eqb a b ≡ true
eq-eqb a b h = grind (arith, nat_tests)

pub both_true : (x y : Bool) → x ≡ true → y ≡ true → (x && y) ≡ true
both_true x y a b = rw (a, b) refl

pub list_all-get : {X : Type 0} (test : X → Bool) (xs : List X) (i : ℕ) (d : X) → list_all test xs ≡ true → i < length xs → test (get_or xs i d) ≡ true
list_all-get test [] i d h l = absurd (omega arith)
list_all-get test (x ∷ xs) zero d h l = (and_parts (test x) (list_all test xs) h).0
list_all-get test (x ∷ xs) (suc i) d h l = list_all-get test xs i d (and_parts (test x) (list_all test xs) h).1 (omega arith)

pub list_all-of : {X : Type 0} (test : X → Bool) (xs : List X) (d : X) → ((i : ℕ) → i < length xs → test (get_or xs i d) ≡ true) → list_all test xs ≡ true
list_all-of test [] d h = refl
list_all-of test (x ∷ xs) d h = let a : test x ≡ true = h 0 (omega arith) in rw a (list_all-of test xs d (λ i l. h (suc i) (omega arith)))

pub zeros_are : (xs : List ℕ) (n : ℕ) → length xs ≡ n → list_all (λ x. eqb x 0) xs ≡ true → xs ≡ replicate n 0
zeros_are [] zero e h = refl
zeros_are [] (suc n) e h = absurd (omega arith)
zeros_are (x ∷ xs) zero e h = absurd (omega arith)
zeros_are (x ∷ xs) (suc n) e h =
    let p = and_parts (eqb x 0) (list_all (λ x. eqb x 0) xs) h in
    let t = p.0 in
    let z : x ≡ 0 = grind (arith, nat_tests) in
    let r = zeros_are xs n (omega arith) p.1 in
    rw (z, r) refl

pub are_zeros : (n : ℕ) → list_all (λ x. eqb x 0) (replicate n 0) ≡ true
are_zeros zero = refl
are_zeros (suc n) = are_zeros n

-- ---- the header

pub length-zeros : (l : Layout) (b : List ℕ) → HEADER_BYTES ≤ length b → length (zeros_in l b) ≡ zeros_of l
length-zeros l b long = let few = zeros_few l in length-part b (56 - zeros_of l) (zeros_of l) (omega arith)

pub seven_columns : (b : List ℕ) → length (header_in b).columns ≡ 7
unfolding header_in
seven_columns b = refl

abbrev header_tests : Layout → List ℕ → List (Option HeaderField)
header_tests l b =
    unless (bytes_eq (name_in b) (name_of l)) Name
    ∷ unless (leb LEAST_SIZE (header_in b).size && leb (header_in b).size GREATEST_SIZE) Size
    ∷ unless (list_all (λ x. eqb x 0) (zeros_in l b)) Zeros
    ∷ unless (leb (header_in b).memo_length (memo_of l)) Memo
    ∷ unless (list_all (λ (c : Column). leb c.count (2 ^ ((header_in b).size + 1))) (header_in b).columns) Counts
    ∷ []

pub header_is_right : (l : Layout) (b : List ℕ) → HEADER_BYTES ≤ length b → header_fault l b ≡ None → HasRightHeader l b
unfolding header_fault
header_is_right l b long h =
    let a = all_none (header_tests l b) h in
    let size = unless_none (leb LEAST_SIZE (header_in b).size && leb (header_in b).size GREATEST_SIZE) Size a.1.0 in
    let sizes = and_parts (leb LEAST_SIZE (header_in b).size) (leb (header_in b).size GREATEST_SIZE) size in
    let most = 2 ^ ((header_in b).size + 1) in
    let counts = unless_none (list_all (λ (c : Column). leb c.count most) (header_in b).columns) Counts a.1.1.1.1.0 in
    record {
      name = (bytes_eq-Decides (name_in b) (name_of l)).0 (unless_none (bytes_eq (name_in b) (name_of l)) Name a.0);
      size = (leb-le LEAST_SIZE (header_in b).size sizes.0, leb-le (header_in b).size GREATEST_SIZE sizes.1);
      zeros = zeros_are (zeros_in l b) (zeros_of l) (length-zeros l b long) (unless_none (list_all (λ x. eqb x 0) (zeros_in l b)) Zeros a.1.1.0);
      memo = leb-le (header_in b).memo_length (memo_of l) (unless_none (leb (header_in b).memo_length (memo_of l)) Memo a.1.1.1.0);
      counts = each (λ t. count_of (header_in b) t ≤ most) (λ s less.
          let n = seven_columns b in
          let t = list_all-get (λ (c : Column). leb c.count most) (header_in b).columns s no_column counts (omega arith) in
          subst (λ (c : Column). c.count ≤ most) (sym (column_of-suc (header_in b) s)) (leb-le (get_or (header_in b).columns s no_column).count most t));
    }

pub right_header : (l : Layout) (b : List ℕ) → HasRightHeader l b → header_fault l b ≡ None
unfolding header_fault
right_header l b h =
    let most = 2 ^ ((header_in b).size + 1) in
    none_all (header_tests l b) (
      none_unless (bytes_eq (name_in b) (name_of l)) Name ((bytes_eq-Decides (name_in b) (name_of l)).1 h.name),
      (
        none_unless (leb LEAST_SIZE (header_in b).size && leb (header_in b).size GREATEST_SIZE) Size (both_true _ _ (le-leb LEAST_SIZE (header_in b).size h.size.0) (le-leb (header_in b).size GREATEST_SIZE h.size.1)),
        (
          none_unless (list_all (λ x. eqb x 0) (zeros_in l b)) Zeros (ap (list_all (λ x. eqb x 0)) h.zeros ∙ are_zeros (zeros_of l)),
          (
            none_unless (leb (header_in b).memo_length (memo_of l)) Memo (le-leb (header_in b).memo_length (memo_of l) h.memo),
            (
              none_unless (list_all (λ (c : Column). leb c.count most) (header_in b).columns) Counts
                  (list_all-of (λ (c : Column). leb c.count most) (header_in b).columns no_column (λ s less.
                  let n = seven_columns b in
                  le-leb (get_or (header_in b).columns s no_column).count most (subst (λ (c : Column). c.count ≤ most) (column_of-suc (header_in b) s) (h.counts (suc s) (omega arith) (omega arith))))),
              tt,
            ),
          ),
        ),
      ),
    )

-- ---- the directories

pub placed_is : (l : Layout) (h : Header) (t : ℕ) → is_placed l h t ≡ true → IsPlaced l h t
placed_is l h t e =
    let before = end_of l h (t - 1) in
    let a = leb before (directory_of h t) in
    let i = leb (end_of l h t) h.file_length in
    let n = not (eqb (count_of h t) 0) || eqb (directory_of h t) before in
    let p = and_parts (a && i) n e in
    let q = and_parts a i p.0 in
    record {
      after = leb-le before (directory_of h t) q.0;
      inside = leb-le (end_of l h t) h.file_length q.1;
      empty = λ z.
          let y : eqb (count_of h t) 0 ≡ true = eq-eqb (count_of h t) 0 z in
          eqb-eq (directory_of h t) before (subst (λ c. (not c || eqb (directory_of h t) before) ≡ true) y p.1);
    }

pub is_placed_by : (l : Layout) (h : Header) (t : ℕ) → IsPlaced l h t → is_placed l h t ≡ true
is_placed_by l h t p =
    let before = end_of l h (t - 1) in
    both_true _ _ (both_true _ _ (le-leb before (directory_of h t) p.after) (le-leb (end_of l h t) h.file_length p.inside)) ((last (eqb (count_of h t) 0) (λ e. eq-eqb (directory_of h t) before (p.empty (eqb-eq (count_of h t) 0 e)))))
  where
    last : (c : Bool) → (c ≡ true → eqb (directory_of h t) (end_of l h (t - 1)) ≡ true) → (not c || eqb (directory_of h t) (end_of l h (t - 1))) ≡ true
    last true f = f refl
    last false f = refl

abbrev directory_tests : Layout → Header → List (Option Damage)
directory_tests l h =
    place_fault l h 1 ∷ place_fault l h 2 ∷ place_fault l h 3 ∷ place_fault l h 4 ∷ place_fault l h 5 ∷ place_fault l h 6
    ∷ place_fault l h 7 ∷ unless (eqb (end_of l h 7) h.file_length) (Directory 7 0) ∷ []

pub record AreLaid (l : Layout) (h : Header) : Type 0 where
  pub placed : (t : ℕ) → 1 ≤ t → t ≤ 7 → IsPlaced l h t
  pub whole : end_of l h 7 ≡ h.file_length

seven_cases : (P : ℕ → Type 0) → P 0 → P 1 → P 2 → P 3 → P 4 → P 5 → P 6 → (s : ℕ) → s < 7 → P s
seven_cases P a b c d e f g zero h = a
seven_cases P a b c d e f g (suc zero) h = b
seven_cases P a b c d e f g (suc (suc zero)) h = c
seven_cases P a b c d e f g (suc (suc (suc zero))) h = d
seven_cases P a b c d e f g (suc (suc (suc (suc zero)))) h = e
seven_cases P a b c d e f g (suc (suc (suc (suc (suc zero))))) h = f
seven_cases P a b c d e f g (suc (suc (suc (suc (suc (suc zero)))))) h = g
seven_cases P a b c d e f g (suc (suc (suc (suc (suc (suc (suc s))))))) h = absurd (omega arith)

pub are_laid : (l : Layout) (h : Header) → directory_fault l h ≡ None → AreLaid l h
unfolding directory_fault
are_laid l h e =
    let a = all_none (directory_tests l h) e in
    let p : (t : ℕ) → place_fault l h t ≡ None → IsPlaced l h t = λ t f. placed_is l h t (unless_none (is_placed l h t) (Directory t 0) f) in
    record {
      placed = each (IsPlaced l h) (seven_cases (λ s. IsPlaced l h (suc s)) (p 1 a.0) (p 2 a.1.0) (p 3 a.1.1.0) (p 4 a.1.1.1.0) (p 5 a.1.1.1.1.0) (p 6 a.1.1.1.1.1.0) (p 7 a.1.1.1.1.1.1.0));
      whole = eqb-eq (end_of l h 7) h.file_length (unless_none (eqb (end_of l h 7) h.file_length) (Directory 7 0) a.1.1.1.1.1.1.1.0);
    }

pub laid_are : (l : Layout) (h : Header) → AreLaid l h → directory_fault l h ≡ None
unfolding directory_fault
laid_are l h e =
    let p : (t : ℕ) → 1 ≤ t → t ≤ 7 → place_fault l h t ≡ None = λ t low high. none_unless (is_placed l h t) (Directory t 0) (is_placed_by l h t (e.placed t low high)) in
    none_all (directory_tests l h) (
      p 1 (omega arith) (omega arith),
      (
        p 2 (omega arith) (omega arith),
        (
          p 3 (omega arith) (omega arith),
          (
            p 4 (omega arith) (omega arith),
            (
              p 5 (omega arith) (omega arith),
              (p 6 (omega arith) (omega arith), (p 7 (omega arith) (omega arith), (none_unless (eqb (end_of l h 7) h.file_length) (Directory 7 0) (eq-eqb (end_of l h 7) h.file_length e.whole), tt))),
            ),
          ),
        ),
      ),
    )

-- ---- opening

abbrev opening_tests : Layout → List ℕ → ℕ → List (Option Damage)
opening_tests l b n =
    unless (leb HEADER_BYTES n && eqb (gate_in b) 1) (NotOpen n (gate_in b))
    ∷ option_map (λ field. WrongHeader field) (header_fault l b)
    ∷ unless (eqb (header_in b).file_length n) (Length (header_in b).file_length n)
    ∷ directory_fault l (header_in b)
    ∷ []

pub map_none : (o : Option HeaderField) → option_map (λ field. WrongHeader field) o ≡ None → o ≡ None
map_none None h = refl
map_none (Some f) h = absurd (none-some _ (sym h))

pub opens_where_nothing : (l : Layout) (b : List ℕ) → opening l b (length b) ≡ None → Opens l b
unfolding opening
opens_where_nothing l b h =
    let a = all_none (opening_tests l b (length b)) h in
    let first = and_parts (leb HEADER_BYTES (length b)) (eqb (gate_in b) 1) (unless_none (leb HEADER_BYTES (length b) && eqb (gate_in b) 1) (NotOpen (length b) (gate_in b)) a.0) in
    let long = leb-le HEADER_BYTES (length b) first.0 in
    let right = header_is_right l b long (map_none (header_fault l b) a.1.0) in
    let laid = are_laid l (header_in b) a.1.1.1.0 in
    record {
      long = long;
      gate = eqb-eq (gate_in b) 1 first.1;
      name = right.name;
      zeros = right.zeros;
      said = eqb-eq (header_in b).file_length (length b) (unless_none (eqb (header_in b).file_length (length b)) (Length (header_in b).file_length (length b)) a.1.1.0);
      laid_out = record { least = right.size.0; greatest = right.size.1; memo = right.memo; counts = right.counts; placed = laid.placed; whole = laid.whole };
    }

pub nothing_where_opens : (l : Layout) (b : List ℕ) → Opens l b → opening l b (length b) ≡ None
unfolding opening
nothing_where_opens l b h =
    let right = right_header l b (record { name = h.name; size = (h.laid_out.least, h.laid_out.greatest); zeros = h.zeros; memo = h.laid_out.memo; counts = h.laid_out.counts }) in
    none_all (opening_tests l b (length b)) (
      none_unless (leb HEADER_BYTES (length b) && eqb (gate_in b) 1) (NotOpen (length b) (gate_in b)) (both_true _ _ (le-leb HEADER_BYTES (length b) h.long) (eq-eqb (gate_in b) 1 h.gate)),
      (
        ap (option_map (λ field. WrongHeader field)) right,
        (
          none_unless (eqb (header_in b).file_length (length b)) (Length (header_in b).file_length (length b)) (eq-eqb (header_in b).file_length (length b) h.said),
          (laid_are l (header_in b) (record { placed = h.laid_out.placed; whole = h.laid_out.whole }), tt),
        ),
      ),
    )
