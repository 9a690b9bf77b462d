-- Opening finds each damage exactly where its cause holds.
use Rattle.std.proofs.Common.{◌≡◌, ◌≢◌, ℕ, zero, suc, ◌+◌, ◌^◌, ◌<◌, ◌≤◌, ◌⊎◌, inl, inr, leb, eqb, ◌&&◌, Bool, true, false, List, [], ◌∷◌, length, get_or, replicate, Option, Some, None, refl, sym, ap, ◌∙◌, subst, arith}
use Rattle.std.specs.List.{list_all}
use Rattle.std.specs.Str.{bytes_eq}
use Rattle.std.specs.Option.{option_map}
use Rattle.std.specs.Bool.{Decides}
use Rattle.std.proofs.lemmas.Bool.{cases_lt, and_parts}
use Rattle.std.proofs.lemmas.Slice.Eq.{bytes_eq-Decides}
use Rattle.std.proofs.lemmas.Option.{none-some, same_Some}
use Rattle.pos_layout.specs.declared.header.Column.{Column}
use Rattle.pos_layout.specs.declared.header.Header.{Header}
use Rattle.pos_layout.specs.declared.damage.HeaderField.{HeaderField}
use Rattle.pos_layout.specs.declared.damage.HeaderField.TheVariants.{Name, Size, Zeros, Memo, Counts}
use Rattle.pos_layout.specs.declared.damage.Damage.{Damage}
use Rattle.pos_layout.specs.declared.damage.Damage.TheVariants.{NotOpen, Header as WrongHeader, Length, Directory}
use Rattle.pos_layout.specs.declared.header.TheConstants.{HEADER_BYTES, LEAST_SIZE, GREATEST_SIZE}
use Rattle.pos_layout.specs.Layouts.{Layout, name_of, memo_of, zeros_of}
use Rattle.pos_layout.specs.Fields.{gate_in, name_in, zeros_in, header_in, count_of, end_of}
use Rattle.pos_layout.specs.Rules.{IsPlaced}
use Rattle.pos_layout.specs.Causes.{IsGated, IsSize, IsZeroed, IsShortMemo, AreCounts, FieldCause, PlaceCause, OpeningCause}
use Rattle.pos_layout.specs.Damages.{unless, first_found, header_fault, is_placed, place_fault, directory_fault, opening}
use Rattle.pos_layout.proofs.FilePlots.{no_column, column_of-suc, each}
use Rattle.pos_layout.proofs.FileOpening.{length-zeros, leb-le, le-leb, eqb-eq, eq-eqb, both_true, list_all-get, list_all-of, zeros_are, are_zeros, seven_columns, header_is_right, right_header, placed_is, is_placed_by, map_none}

-- ---- one test after another

-- what is found is found by this test, or by those after it
found_by : {D : Type 0} (t : Bool) (P : Type 0) (e d : D) (os : List (Option D)) (C : Type 0) → Decides t P → first_found (unless t e ∷ os) ≡ Some d
    → (¬ P → e ≡ d → C) → (P → first_found os ≡ Some d → C) → C
found_by true P e d os C dec h now then = then (dec.0 refl) h
found_by false P e d os C dec h now then = now (λ p. absurd (true_false (dec.1 p))) (same_Some e d h)
  where
    true_false : false ≡ true → ⊥
    true_false e = cc

fails_now : {D : Type 0} (t : Bool) (P : Type 0) (e : D) (os : List (Option D)) → Decides t P → ¬ P → first_found (unless t e ∷ os) ≡ Some e
fails_now true P e os dec bad = absurd (bad (dec.0 refl))
fails_now false P e os dec bad = refl

goes_on : {D : Type 0} (t : Bool) (P : Type 0) (e : D) (os : List (Option D)) (o : Option D) → Decides t P → P → first_found os ≡ o → first_found (unless t e ∷ os) ≡ o
goes_on t P e os o dec good h = let y = dec.1 good in rw y h

-- ---- what the tests decide

gated_decides : (b : List ℕ) → Decides (leb HEADER_BYTES (length b) && eqb (gate_in b) 1) (IsGated b)
gated_decides b = (
  λ h. let p = and_parts (leb HEADER_BYTES (length b)) (eqb (gate_in b) 1) h in (leb-le HEADER_BYTES (length b) p.0, eqb-eq (gate_in b) 1 p.1),
  λ p. both_true (leb HEADER_BYTES (length b)) (eqb (gate_in b) 1) (le-leb HEADER_BYTES (length b) p.0) (eq-eqb (gate_in b) 1 p.1),
)

size_decides : (k : ℕ) → Decides (leb LEAST_SIZE k && leb k GREATEST_SIZE) (IsSize k)
size_decides k = (
  λ h. let p = and_parts (leb LEAST_SIZE k) (leb k GREATEST_SIZE) h in (leb-le LEAST_SIZE k p.0, leb-le k GREATEST_SIZE p.1),
  λ p. both_true (leb LEAST_SIZE k) (leb k GREATEST_SIZE) (le-leb LEAST_SIZE k p.0) (le-leb k GREATEST_SIZE p.1),
)

zeros_decide : (xs : List ℕ) (n : ℕ) → length xs ≡ n → Decides (list_all (λ x. eqb x 0) xs) (xs ≡ replicate n 0)
zeros_decide xs n e = (λ h. zeros_are xs n e h, λ same. ap (list_all (λ x. eqb x 0)) same ∙ are_zeros n)

memo_decides : (l : Layout) (h : Header) → Decides (leb h.memo_length (memo_of l)) (IsShortMemo l h)
memo_decides l h = (leb-le h.memo_length (memo_of l), le-leb h.memo_length (memo_of l))

counts_decide : (b : List ℕ) → Decides (list_all (λ (c : Column). leb c.count (2 ^ ((header_in b).size + 1))) (header_in b).columns) (AreCounts (header_in b))
counts_decide b = (into, back)
  where
    h : Header
    h = header_in b

    most : ℕ
    most = 2 ^ (h.size + 1)

    into : list_all (λ (c : Column). leb c.count most) h.columns ≡ true → AreCounts h
    into e = each (λ t. count_of h t ≤ most) (λ s less.
        let n = seven_columns b in
        let t = list_all-get (λ (c : Column). leb c.count most) h.columns s no_column e (omega arith) in
        subst (λ (c : Column). c.count ≤ most) (sym (column_of-suc h s)) (leb-le (get_or h.columns s no_column).count most t))

    back : AreCounts h → list_all (λ (c : Column). leb c.count most) h.columns ≡ true
    back few = list_all-of (λ (c : Column). leb c.count most) h.columns no_column (λ s less.
        let n = seven_columns b in
        le-leb (get_or h.columns s no_column).count most (subst (λ (c : Column). c.count ≤ most) (column_of-suc h s) (few (suc s) (omega arith) (omega arith))))

placed_decides : (l : Layout) (h : Header) (t : ℕ) → Decides (is_placed l h t) (IsPlaced l h t)
placed_decides l h t = (placed_is l h t, is_placed_by l h t)

equal_decides : (m n : ℕ) → Decides (eqb m n) (m ≡ n)
equal_decides m n = (eqb-eq m n, eq-eqb m n)

-- ---- the header

module _ (l : Layout) (b : List ℕ) (long : HEADER_BYTES ≤ length b) where
  zeros_right : Decides (list_all (λ x. eqb x 0) (zeros_in l b)) (IsZeroed l b)
  zeros_right = zeros_decide (zeros_in l b) (zeros_of l) (length-zeros l b long)

  pub field_cause : (field : HeaderField) → header_fault l b ≡ Some field → FieldCause l b field
  unfolding header_fault
  field_cause field h =
      let k = (header_in b).size in
      let size_test = leb LEAST_SIZE k && leb k GREATEST_SIZE in
      let zeros_test = list_all (λ x. eqb x 0) (zeros_in l b) in
      let memo_test = leb (header_in b).memo_length (memo_of l) in
      let counts_test = list_all (λ (c : Column). leb c.count (2 ^ (k + 1))) (header_in b).columns in
      let C = FieldCause l b field in
      let last : List (Option HeaderField) = unless counts_test Counts ∷ [] in
      let later : List (Option HeaderField) = unless memo_test Memo ∷ last in
      let rest : List (Option HeaderField) = unless zeros_test Zeros ∷ later in
      found_by (bytes_eq (name_in b) (name_of l)) (name_in b ≡ name_of l) Name field (unless size_test Size ∷ rest) C (bytes_eq-Decides (name_in b) (name_of l)) h (λ bad e. subst (FieldCause l b) e bad) (λ name h1.
      found_by size_test (IsSize k) Size field rest C (size_decides k) h1 (λ bad e. subst (FieldCause l b) e (name, bad)) (λ size h2.
      found_by zeros_test (IsZeroed l b) Zeros field later C zeros_right h2 (λ bad e. subst (FieldCause l b) e (name, size, bad)) (λ zeros h3.
      found_by memo_test (IsShortMemo l (header_in b)) Memo field last C (memo_decides l (header_in b)) h3 (λ bad e. subst (FieldCause l b) e (name, size, zeros, bad)) (λ memo h4.
      found_by counts_test (AreCounts (header_in b)) Counts field [] C (counts_decide b) h4 (λ bad e. subst (FieldCause l b) e (name, size, zeros, memo, bad)) (λ counts h5. absurd (none-some field h5))))))

  pub cause_field : (field : HeaderField) → FieldCause l b field → header_fault l b ≡ Some field
  unfolding header_fault
  cause_field Name c = fails_now (bytes_eq (name_in b) (name_of l)) (name_in b ≡ name_of l) Name _ (bytes_eq-Decides (name_in b) (name_of l)) c
  cause_field Size c =
      let k = (header_in b).size in
      goes_on _ (name_in b ≡ name_of l) Name _ _ (bytes_eq-Decides (name_in b) (name_of l)) c.0 (fails_now (leb LEAST_SIZE k && leb k GREATEST_SIZE) (IsSize k) Size _ (size_decides k) c.1)
  cause_field Zeros c =
      let k = (header_in b).size in
      goes_on _ (name_in b ≡ name_of l) Name _ _ (bytes_eq-Decides (name_in b) (name_of l)) c.0
      (goes_on _ (IsSize k) Size _ _ (size_decides k) c.1 (fails_now (list_all (λ x. eqb x 0) (zeros_in l b)) (IsZeroed l b) Zeros _ zeros_right c.2))
  cause_field Memo c =
      let k = (header_in b).size in
      goes_on _ (name_in b ≡ name_of l) Name _ _ (bytes_eq-Decides (name_in b) (name_of l)) c.0
      (goes_on _ (IsSize k) Size _ _ (size_decides k) c.1 (goes_on _ (IsZeroed l b) Zeros _ _ zeros_right c.2
      (fails_now (leb (header_in b).memo_length (memo_of l)) (IsShortMemo l (header_in b)) Memo _ (memo_decides l (header_in b)) c.3)))
  cause_field Counts c =
      let k = (header_in b).size in
      goes_on _ (name_in b ≡ name_of l) Name _ _ (bytes_eq-Decides (name_in b) (name_of l)) c.0
      (goes_on _ (IsSize k) Size _ _ (size_decides k) c.1 (goes_on _ (IsZeroed l b) Zeros _ _ zeros_right c.2
      (goes_on _ (IsShortMemo l (header_in b)) Memo _ _ (memo_decides l (header_in b)) c.3 (fails_now _ (AreCounts (header_in b)) Counts [] (counts_decide b) c.4))))

-- ---- the directories

module _ (l : Layout) (h : Header) where
  whole_test : List (Option Damage)
  whole_test = unless (eqb (end_of l h 7) h.file_length) (Directory 7 0) ∷ []

  -- the tests of table t and of so many tables in all from it on, and the last test
  places_from : ℕ → ℕ → List (Option Damage)
  places_from t zero = whole_test
  places_from t (suc n) = place_fault l h t ∷ places_from (suc t) n

  Below : ℕ → Type 0
  unfolding places_from
  Below t = (s : ℕ) → 1 ≤ s → s < t → IsPlaced l h s

  below_more : (t : ℕ) → Below t → IsPlaced l h t → Below (suc t)
  unfolding Below
  below_more t below here s low less = cases (cases_lt s t)
    where
      cases : s < t ⊎ t ≤ s → IsPlaced l h s
      cases (inl more) = below s low more
      cases (inr same) = let e : t ≡ s = omega arith in subst (IsPlaced l h) e here

  place_cause : (n t : ℕ) (d : Damage) (C : Type 0) → t + n ≡ 8 → 1 ≤ t → Below t → first_found (places_from t n) ≡ Some d → ((u : ℕ) → Directory u 0 ≡ d → PlaceCause l h u → C) → C
  unfolding places_from whole_test Below
  place_cause zero t d C e low below f give =
      found_by (eqb (end_of l h 7) h.file_length) (end_of l h 7 ≡ h.file_length) (Directory 7 0) d [] C (equal_decides (end_of l h 7) h.file_length) f
      (λ bad same. give 7 same (omega arith, omega arith, (λ s l' less. below s l' (omega arith)), inr (refl, below 7 (omega arith) (omega arith), bad)))
      (λ good f'. absurd (none-some d f'))
  place_cause (suc n) t d C e low below f give =
      found_by (is_placed l h t) (IsPlaced l h t) (Directory t 0) d (places_from (suc t) n) C (placed_decides l h t) f
      (λ bad same. give t same (low, omega arith, below, inl bad))
      (λ good f'. place_cause n (suc t) d C (omega arith) (omega arith) (below_more t below good) f' give)

  place_step : (n t u : ℕ) → t + suc n ≡ 8 → 1 ≤ t → t ≤ u → PlaceCause l h u → (t < u → first_found (places_from (suc t) n) ≡ Some (Directory u 0))
      → first_found (places_from t (suc n)) ≡ Some (Directory u 0)
  unfolding places_from whole_test
  place_step n t u e low le c rest = cases (cases_lt t u)
    where
      here : t ≡ u → ((¬ IsPlaced l h u) ⊎ ((u ≡ 7) × IsPlaced l h 7 × (end_of l h 7 ≢ h.file_length))) → first_found (place_fault l h t ∷ places_from (suc t) n) ≡ Some (Directory u 0)
      here t_is (inl bad) = ap (λ j. first_found (place_fault l h j ∷ places_from (suc t) n)) t_is ∙ fails_now (is_placed l h u) (IsPlaced l h u) (Directory u 0) (places_from (suc t) n) (placed_decides l h u) bad
      here t_is (inr last) =
          let n0 : n ≡ 0 = (let g = last.0 in omega arith) in
          let t7 : 7 ≡ t = (let g = last.0 in omega arith) in
          goes_on (is_placed l h t) (IsPlaced l h t) (Directory t 0) (places_from (suc t) n) (Some (Directory u 0)) (placed_decides l h t) (subst (IsPlaced l h) t7 last.1)
          (subst (λ m. first_found (places_from (suc t) m) ≡ Some (Directory u 0)) (sym n0)
          (fails_now (eqb (end_of l h 7) h.file_length) (end_of l h 7 ≡ h.file_length) (Directory 7 0) [] (equal_decides (end_of l h 7) h.file_length) last.2
          ∙ ap (λ j. Some (Directory j 0)) (sym last.0)))

      cases : t < u ⊎ u ≤ t → first_found (place_fault l h t ∷ places_from (suc t) n) ≡ Some (Directory u 0)
      cases (inl less) = goes_on (is_placed l h t) (IsPlaced l h t) (Directory t 0) (places_from (suc t) n) (Some (Directory u 0)) (placed_decides l h t) (c.2 t low less) (rest less)
      cases (inr same) = let t_is : t ≡ u = omega arith in here t_is c.3

  cause_place : (n t u : ℕ) → t + n ≡ 8 → 1 ≤ t → t ≤ u → PlaceCause l h u → first_found (places_from t n) ≡ Some (Directory u 0)
  cause_place zero t u e low le c = absurd (let g = c.1 in omega arith)
  cause_place (suc n) t u e low le c = place_step n t u e low le c (λ less. cause_place n (suc t) u (omega arith) (omega arith) less c)

  pub directory_cause : (d : Damage) (C : Type 0) → directory_fault l h ≡ Some d → ((u : ℕ) → Directory u 0 ≡ d → PlaceCause l h u → C) → C
  unfolding directory_fault places_from whole_test Below
  directory_cause d C f give = place_cause 7 1 d C refl (omega arith) (λ s low less. absurd (omega arith)) f give

  pub cause_directory : (u : ℕ) → PlaceCause l h u → directory_fault l h ≡ Some (Directory u 0)
  unfolding directory_fault places_from whole_test
  cause_directory u c = cause_place 7 1 u refl (omega arith) c.0 c

-- ---- opening

found_or : {D : Type 0} (o : Option D) (d : D) (os : List (Option D)) (C : Type 0) → first_found (o ∷ os) ≡ Some d → (o ≡ Some d → C) → (o ≡ None → first_found os ≡ Some d → C) → C
found_or None d os C h now then = then refl h
found_or (Some e) d os C h now then = now h

found_first : {D : Type 0} (o : Option D) (d : D) (os : List (Option D)) → o ≡ Some d → first_found (o ∷ os) ≡ Some d
found_first o d os e = rw e refl

found_then : {D : Type 0} (o : Option D) (os : List (Option D)) (x : Option D) → o ≡ None → first_found os ≡ x → first_found (o ∷ os) ≡ x
found_then o os x e h = rw e h

mapped : (o : Option HeaderField) (d : Damage) (C : Type 0) → option_map (λ field. WrongHeader field) o ≡ Some d → ((field : HeaderField) → o ≡ Some field → WrongHeader field ≡ d → C) → C
mapped None d C h give = absurd (none-some d h)
mapped (Some f) d C h give = give f refl (same_Some _ d h)

pub cause_found : (l : Layout) (b : List ℕ) (d : Damage) → opening l b (length b) ≡ Some d → OpeningCause l b d
unfolding opening
cause_found l b d f =
    let h = header_in b in
    let C = OpeningCause l b d in
    let t3 : List (Option Damage) = directory_fault l h ∷ [] in
    let t2 : List (Option Damage) = unless (eqb h.file_length (length b)) (Length h.file_length (length b)) ∷ t3 in
    let t1 : List (Option Damage) = option_map (λ field. WrongHeader field) (header_fault l b) ∷ t2 in
    found_by (leb HEADER_BYTES (length b) && eqb (gate_in b) 1) (IsGated b) (NotOpen (length b) (gate_in b)) d t1 C (gated_decides b) f
    (λ bad e. subst (OpeningCause l b) e (refl, refl, bad))
    (λ gated f1. found_or (option_map (λ field. WrongHeader field) (header_fault l b)) d t2 C f1
    (λ m. mapped (header_fault l b) d C m (λ field g e. subst (OpeningCause l b) e (gated, field_cause l b gated.0 field g)))
    (λ m f2. let right = header_is_right l b gated.0 (map_none (header_fault l b) m) in
    found_by (eqb h.file_length (length b)) (h.file_length ≡ length b) (Length h.file_length (length b)) d t3 C (equal_decides h.file_length (length b)) f2
    (λ bad e. subst (OpeningCause l b) e (gated, right, refl, refl, bad))
    (λ said f3. found_or (directory_fault l h) d [] C f3
    (λ g. directory_cause l h d C g (λ u e c. subst (OpeningCause l b) e (gated, right, said, refl, c)))
    (λ g f4. absurd (none-some d f4)))))

past_gate : (l : Layout) (b : List ℕ) (os : List (Option Damage)) (o : Option Damage) → IsGated b → first_found os ≡ o
    → first_found (unless (leb HEADER_BYTES (length b) && eqb (gate_in b) 1) (NotOpen (length b) (gate_in b)) ∷ os) ≡ o
past_gate l b os o gated h = goes_on (leb HEADER_BYTES (length b) && eqb (gate_in b) 1) (IsGated b) (NotOpen (length b) (gate_in b)) os o (gated_decides b) gated h

pub found_cause : (l : Layout) (b : List ℕ) (d : Damage) → OpeningCause l b d → opening l b (length b) ≡ Some d
unfolding opening
found_cause l b (NotOpen n gate) c =
    fails_now (leb HEADER_BYTES (length b) && eqb (gate_in b) 1) (IsGated b) (NotOpen (length b) (gate_in b)) _ (gated_decides b) c.2
    ∙ (ap (λ j. Some (NotOpen j (gate_in b))) (sym c.0) ∙ ap (λ j. Some (NotOpen n j)) (sym c.1))
found_cause l b (WrongHeader field) c =
    past_gate l b _ (Some (WrongHeader field)) c.0
    (found_first (option_map (λ field. WrongHeader field) (header_fault l b)) (WrongHeader field) _ (ap (option_map (λ field. WrongHeader field)) (cause_field l b c.0.0 field c.1)))
found_cause l b (Length said found) c =
    let h = header_in b in
    let bad : h.file_length ≢ length b = λ e. c.4 (c.2 ∙ (e ∙ sym c.3)) in
    past_gate l b _ (Some (Length said found)) c.0
    (found_then (option_map (λ field. WrongHeader field) (header_fault l b)) _ (Some (Length said found)) (ap (option_map (λ field. WrongHeader field)) (right_header l b c.1))
    (fails_now (eqb h.file_length (length b)) (h.file_length ≡ length b) (Length h.file_length (length b)) _ (equal_decides h.file_length (length b)) bad
    ∙ (ap (λ j. Some (Length j (length b))) (sym c.2) ∙ ap (λ j. Some (Length said j)) (sym c.3))))
found_cause l b (Directory t park) c =
    let h = header_in b in
    past_gate l b _ (Some (Directory t park)) c.0
    (found_then (option_map (λ field. WrongHeader field) (header_fault l b)) _ (Some (Directory t park)) (ap (option_map (λ field. WrongHeader field)) (right_header l b c.1))
    (goes_on (eqb h.file_length (length b)) (h.file_length ≡ length b) (Length h.file_length (length b)) _ (Some (Directory t park)) (equal_decides h.file_length (length b)) c.2
    (found_first (directory_fault l h) (Directory t park) [] (cause_directory l h t c.4 ∙ ap (λ j. Some (Directory t j)) (sym c.3)))))
found_cause l b _ c = absurd c
