-- What a writer keeps, from call to call.
use Rattle.std.proofs.Common.{◌≡◌, ℕ, suc, ◌+◌, ◌-◌, ◌*◌, ◌^◌, ◌<◌, ◌≤◌, ltb, true, false, List, [], ◌∷◌, ◌++◌, length, take, drop, replicate, get_or, All, refl, sym, ap, ◌∙◌, subst, arith, length-append, append_assoc, append-nil}
use Rattle.std.specs.List.{concat}
use Rattle.std.proofs.lemmas.Bool.{ltb-true, lt-ltb, false_from_ne_true, eq-eqb, ne_eqb}
use Rattle.pos_bits.specs.Bits.{AreBytes}
use Rattle.std.specs.List.Sorted.{IsStrictlyIncreasing}
use Rattle.std.proofs.lemmas.List.{length_push, get_or_push, length-take-le, length-drop, get_or-take, drop_at}
use Rattle.std.proofs.lemmas.List.Elements.{All-nil, All-head, All-push}
use Rattle.std.proofs.lemmas.List.Folds.{concat-append}
use Rattle.std.proofs.Math.Nat.{mul-le-mul}
use Rattle.std.proofs.Math.Pow.{pow_mono}
use Rattle.pos_rice.specs.declared.TheConstants.{MOST_NUMBERS}
use Rattle.pos_rice.specs.Park.{AreNumbers, Park}
use Rattle.pos_edge.specs.View.{View}
use Rattle.pos_layout.specs.declared.header.Column.{Column}
use Rattle.pos_layout.specs.declared.header.Header.{Header}
use Rattle.pos_layout.specs.Layouts.{Layout, IsMemo, full_of}
use Rattle.pos_layout.specs.Fields.{entry_fields, header_bytes, after_memo}
use Rattle.pos_layout.specs.Lists.{IsTable, IsPlot}
use Rattle.pos_layout.specs.Files.{park_of, cut, parks_in, park_bytes, entry_for, directory, table_bytes, tables_bytes, columns_for, body_of, header_of, file_with, file_of}
use Rattle.pos_edge.specs.Images.{written}
use Rattle.pos_gate.specs.Gates.{opened}
use Rattle.pos_layout.specs.Images.{HoldsShut}
use Rattle.pos_layout.specs.Drafts.{Draft, IsDraft, WriterState, Keeps, Stands, added, table_ended, begun, plot_of, count_so_far, next_after, table_start, draft_bytes}
use Rattle.pos_layout.proofs.LayoutLemmas.{full_some, memo_few}
use Rattle.pos_layout.proofs.CodecLemmas.{column_from, header_from}
use Rattle.pos_layout.proofs.NumberLemmas.{rising-end, rising-push, All-end, park_of-only, park_fits}
use Rattle.pos_layout.proofs.FileLemmas.{park_bytes-push, directory-push, tables_bytes-push, columns_for-push, length-columns_for, park_bytes-short, directory-short, tables_bytes-short, cut-full, cut-whole}

-- ---- what follows from what is kept

pub keeps_numbers : (w : WriterState) (p : Draft) (parks : List (List ℕ)) (v : View) → Keeps w p parks v → 1 ≤ length w.park → length w.park ≤ MOST_NUMBERS
    → AreNumbers p.k w.park
keeps_numbers w p parks v h some few = record {
  some = some;
  few = few;
  rising = rising-end (concat parks) w.park (subst IsStrictlyIncreasing h.numbers h.draft.numbers.rising);
  below = All-end (λ n. n < 2 ^ (2 * p.k + 2)) (concat parks) w.park (subst (All (λ n. n < 2 ^ (2 * p.k + 2))) h.numbers h.draft.numbers.below);
}

pub length-draft : (p : Draft) (parks : List (List ℕ)) → length (draft_bytes p parks) ≡ table_start p + length (park_bytes p.k parks)
length-draft p parks =
    let t = tables_bytes p.layout p.k 1 (after_memo p.memo) p.ended in
    let b = park_bytes p.k parks in
    let z : length (replicate {A = ℕ} 176 0) ≡ 176 = refl in
    omega (arith, length-append (replicate 176 0) (p.memo ++ (t ++ b)), length-append p.memo (t ++ b), length-append t b)

-- all that is written and the directory so far fit in less than 2^61 bytes
pub keeps_short : (w : WriterState) (p : Draft) (parks : List (List ℕ)) (v : View) → Keeps w p parks v
    → w.file_length + length w.entries ≤ 432 + 71 * (8 * 2 ^ 51)
keeps_short w p parks v h =
    let small = h.draft.greatest in
    let x : 2 ^ (p.k + 1) ≤ 2 ^ 51 = let size : p.k + 1 ≤ 51 = omega arith in pow_mono size in
    let few = h.draft.few in
    let m : length p.ended * 2 ^ (p.k + 1) ≤ 7 * 2 ^ 51 = mul-le-mul few x in
    let t = tables_bytes-short p.layout p.k 1 (after_memo p.memo) p.ended (omega arith) h.draft.ended in
    let a = park_bytes-short p.k parks (omega arith) h.written in
    let b = directory-short p.layout p.k (suc (length p.ended)) (table_start p) parks h.written in
    let n : length p.numbers ≡ length (concat parks) + length w.park = ap length h.numbers ∙ length-append (concat parks) w.park in
    let some = h.draft.numbers.few in
    let d = length-draft p parks in
    let memo = h.draft.memo.few in
    let most = memo_few p.layout in
    let e : length w.entries ≡ length (directory p.layout p.k (suc (length p.ended)) (table_start p) parks) = ap length h.entries in
    let f = h.file_length in
    omega arith

-- ---- a park

pub numbers_at : (k k' : ℕ) (ns ns' : List ℕ) → k ≡ k' → ns ≡ ns' → AreNumbers k' ns' → AreNumbers k ns
numbers_at k k' ns ns' ek en h = subst (λ j. AreNumbers j ns) (sym ek) (subst (AreNumbers k') (sym en) h)

-- a park more still fits
pub grown_fits : (w : WriterState) (p : Draft) (parks : List (List ℕ)) (v : View) (s : List ℕ) (n : ℕ) → Keeps w p parks v → Park w.size w.park s → n ≡ length s → w.file_length + n < 2 ^ 62
grown_fits w p parks v s n h park is =
    let short = keeps_short w p parks v h in
    let small = h.draft.greatest in
    let size = h.size in
    let one = park_fits w.size w.park s (omega arith) park in
    let few = park.numbers.few in
    omega arith

pub kept_park : (w w' : WriterState) (p : Draft) (parks : List (List ℕ)) (s : List ℕ) (l : Layout) (k t at : ℕ) (v v' : View) → Keeps w p parks v → Park w.size w.park s
    → l ≡ w.layout → k ≡ w.size → t ≡ length w.columns + 1 → at ≡ w.file_length
    → w'.layout ≡ w.layout → w'.memo_length ≡ w.memo_length → w'.id ≡ w.id → w'.size ≡ w.size → w'.columns ≡ w.columns → w'.count ≡ w.count → w'.least ≡ w.least → w'.park ≡ [] → w'.entries ≡ w.entries ++ entry_fields (entry_for l k t at w.park)
    → w'.file_length ≡ w.file_length + length s → HoldsShut w'.file (draft_bytes p parks ++ s) v' → Keeps w' p (parks ++ w.park ∷ []) v'
kept_park w w' p parks s l k t at v v' h park el ek et ea wy wm wi ws wc wn wl wp we wf file = record {
  draft = h.draft;
  layout = wy ∙ h.layout;
  memo_length = wm ∙ h.memo_length;
  id = wi ∙ h.id;
  size = ws ∙ h.size;
  columns = wc ∙ h.columns;
  count = wn ∙ h.count;
  least = wl ∙ h.least;
  written = All-push (AreNumbers p.k) parks w.park h.written at_k.numbers;
  numbers = h.numbers ∙ (ap (λ y. concat parks ++ y) (sym (append-nil w.park)) ∙ (sym (concat-append parks (w.park ∷ [])) ∙ (sym (append-nil (concat (parks ++ w.park ∷ []))) ∙ ap (λ y. concat (parks ++ w.park ∷ []) ++ y) (sym wp))));
  entries = we ∙ (ap (λ y. y ++ entry_fields (entry_for l k t at w.park)) h.entries ∙ (ap (λ y. directory p.layout p.k (suc (length p.ended)) (table_start p) parks ++ entry_fields y) entry ∙ sym (directory-push p.layout p.k (suc (length p.ended)) (table_start p) parks w.park)));
  file_length = wf ∙ (ap (λ j. j + length s) h.file_length ∙ (sym (length-append (draft_bytes p parks) s) ∙ ap length grown));
  file = subst (λ b. HoldsShut w'.file b v') grown file;
} where
  at_k : Park p.k w.park s
  at_k = subst (λ j. Park j w.park s) h.size park

  same : s ≡ park_of p.k w.park
  same = park_of-only p.k w.park s at_k

  grown : draft_bytes p parks ++ s ≡ draft_bytes p (parks ++ w.park ∷ [])
  grown =
      let z : List ℕ = replicate 176 0 in
      let u = tables_bytes p.layout p.k 1 (after_memo p.memo) p.ended in
      let b = park_bytes p.k parks in
      append_assoc z (p.memo ++ (u ++ b)) s ∙ ap (λ y. z ++ y) (append_assoc p.memo (u ++ b) s ∙ ap (λ y. p.memo ++ y)
      (append_assoc u b s ∙ ap (λ y. u ++ y) (ap (λ y. b ++ y) same ∙ sym (park_bytes-push p.k parks w.park))))

  table : t ≡ suc (length p.ended)
  table = let c = ap length h.columns ∙ length-columns_for p.layout p.k 1 (after_memo p.memo) p.ended in omega arith

  entry : entry_for l k t at w.park ≡ entry_for p.layout p.k (suc (length p.ended)) (table_start p + length (park_bytes p.k parks)) w.park
  entry = ap (λ m. entry_for m k t at w.park) (el ∙ h.layout) ∙ ap (λ j. entry_for p.layout j t at w.park) (ek ∙ h.size) ∙ (ap (λ j. entry_for p.layout p.k j at w.park) table ∙ ap (λ j. entry_for p.layout p.k (suc (length p.ended)) j w.park) (ea ∙ (h.file_length ∙ length-draft p parks)))

-- ---- a table

pub kept_table : (w w' : WriterState) (p : Draft) (v v' : View) → Keeps w p (parks_in p.layout p.numbers) v → length w.columns < 7
    → w'.layout ≡ w.layout → w'.memo_length ≡ w.memo_length → w'.id ≡ w.id → w'.size ≡ w.size → w'.columns ≡ w.columns ++ record { count = w.count; directory = w.file_length } ∷ [] → w'.count ≡ 0 → w'.least ≡ 0 → w'.park ≡ [] → w'.entries ≡ []
    → w'.file_length ≡ w.file_length + length w.entries → HoldsShut w'.file (draft_bytes p (parks_in p.layout p.numbers) ++ w.entries) v' → Keeps w' (table_ended p) [] v'
unfolding next_after park_bytes directory table_bytes
kept_table w w' p v v' h few wy wm wi ws wc wn wl wp we wf file = record {
  draft = record {
    memo = h.draft.memo;
    id_length = h.draft.id_length;
    id_bytes = h.draft.id_bytes;
    least = h.draft.least;
    greatest = h.draft.greatest;
    few = let n = length_push p.ended p.numbers in let c = ap length h.columns ∙ length-columns_for p.layout p.k 1 (after_memo p.memo) p.ended in omega arith;
    ended = All-push (IsTable p.k) p.ended p.numbers h.draft.ended h.draft.numbers;
    numbers = record { few = omega arith; rising = λ k j. absurd (omega arith); below = All-nil (λ n. n < 2 ^ (2 * p.k + 2)) };
    done = λ _. refl;
  };
  layout = wy ∙ h.layout;
  memo_length = wm ∙ h.memo_length;
  id = wi ∙ h.id;
  size = ws ∙ h.size;
  columns = wc ∙ (ap (λ y. y ++ record { count = w.count; directory = w.file_length } ∷ []) h.columns
      ∙ (ap (λ (c : Column). columns_for p.layout p.k 1 (after_memo p.memo) p.ended ++ c ∷ []) column ∙ sym (columns_for-push p.layout p.k 1 (after_memo p.memo) p.ended p.numbers)));
  count = wn;
  least = wl;
  written = All-nil (AreNumbers p.k);
  numbers = sym wp;
  entries = we;
  file_length = wf ∙ (ap (λ j. j + length w.entries) h.file_length ∙ (sym (length-append (draft_bytes p parks) w.entries) ∙ ap length grown));
  file = subst (λ b. HoldsShut w'.file b v') grown file;
} where
  parks : List (List ℕ)
  parks = parks_in p.layout p.numbers

  column : ◌≡◌ {A = Column} (record { count = w.count; directory = w.file_length }) (record { count = length p.numbers; directory = table_start p + length (park_bytes p.k (parks_in p.layout p.numbers)) })
  column = column_from w.count (length p.numbers) w.file_length (table_start p + length (park_bytes p.k (parks_in p.layout p.numbers))) h.count (h.file_length ∙ length-draft p (parks_in p.layout p.numbers))

  grown : draft_bytes p (parks_in p.layout p.numbers) ++ w.entries ≡ draft_bytes (table_ended p) []
  grown =
      let z : List ℕ = replicate 176 0 in
      let t = tables_bytes p.layout p.k 1 (after_memo p.memo) p.ended in
      let b = park_bytes p.k (parks_in p.layout p.numbers) in
      let e : 1 + length p.ended ≡ suc (length p.ended) = omega arith in
      append_assoc z (p.memo ++ (t ++ b)) w.entries ∙ ap (λ y. z ++ y) (append_assoc p.memo (t ++ b) w.entries ∙ ap (λ y. p.memo ++ y)
      (append_assoc t b w.entries ∙ (ap (λ y. t ++ (b ++ y)) h.entries
      ∙ (ap (λ j. t ++ table_bytes p.layout p.k j (table_start p) p.numbers) (sym e) ∙ (sym (tables_bytes-push p.layout p.k 1 (after_memo p.memo) p.ended p.numbers) ∙ sym (append-nil (tables_bytes p.layout p.k 1 (after_memo p.memo) (p.ended ++ p.numbers ∷ []))))))))

-- ---- a number

next_after-push : (ns : List ℕ) (n : ℕ) → next_after (ns ++ n ∷ []) ≡ n + 1
unfolding next_after
next_after-push [] n = refl
next_after-push (m ∷ ns) n =
    let e : length (ns ++ n ∷ []) ≡ suc (length ns) = length_push ns n ∙ omega arith in
    ap (λ j. j + 1) (ap (λ i. get_or (m ∷ (ns ++ n ∷ [])) i 0) e ∙ get_or_push ns n 0 (length ns) refl)

next_after-above : (ns : List ℕ) (n : ℕ) → next_after ns ≤ n → 1 ≤ length ns → get_or ns (length ns - 1) 0 < n
unfolding next_after
next_after-above [] n h some = absurd (omega arith)
next_after-above (m ∷ ns) n h some =
    let e : length (m ∷ ns) - 1 ≡ length ns = omega arith in
    subst (λ i. get_or (m ∷ ns) i 0 < n) (sym e) (omega arith)

pub kept_number : (w w' : WriterState) (p : Draft) (parks : List (List ℕ)) (n : ℕ) (v : View) → Keeps w p parks v → length w.columns < 7 → w.least ≤ n
    → n < 2 ^ (2 * w.size + 2) → w.count < 2 ^ (w.size + 1)
    → w'.file ≡ w.file → w'.layout ≡ w.layout → w'.memo_length ≡ w.memo_length → w'.id ≡ w.id → w'.size ≡ w.size → w'.columns ≡ w.columns → w'.count ≡ w.count + 1 → w'.least ≡ n + 1 → w'.park ≡ w.park ++ n ∷ [] → w'.entries ≡ w.entries
    → w'.file_length ≡ w.file_length → Keeps w' (added n p) parks v
kept_number w w' p parks n v h tables above below few wz wy wm wi ws wc wn wl wp we wf =
    let below' : n < 2 ^ (2 * p.k + 2) = subst (λ j. n < 2 ^ (2 * j + 2)) h.size below in
    let few' : w.count < 2 ^ (p.k + 1) = subst (λ j. w.count < 2 ^ (j + 1)) h.size few in
    let count = h.count in
    let push : length (p.numbers ++ n ∷ []) ≡ length p.numbers + 1 = length_push p.numbers n in record {
      draft = record {
        memo = h.draft.memo;
        id_length = h.draft.id_length;
        id_bytes = h.draft.id_bytes;
        least = h.draft.least;
        greatest = h.draft.greatest;
        few = h.draft.few;
        ended = h.draft.ended;
        numbers = record {
          few = omega arith;
          rising = rising-push p.numbers n h.draft.numbers.rising (next_after-above p.numbers n (subst (λ j. j ≤ n) h.least above));
          below = All-push (λ n. n < 2 ^ (2 * p.k + 2)) p.numbers n h.draft.numbers.below below';
        };
        done = λ seven. let c = ap length h.columns ∙ length-columns_for p.layout p.k 1 (after_memo p.memo) p.ended in absurd (omega arith);
      };
      layout = wy ∙ h.layout;
      memo_length = wm ∙ h.memo_length;
      id = wi ∙ h.id;
      size = ws ∙ h.size;
      columns = wc ∙ h.columns;
      count = wn ∙ (ap (λ j. j + 1) count ∙ sym push);
      least = wl ∙ sym (next_after-push p.numbers n);
      written = h.written;
      numbers = ap (λ y. y ++ n ∷ []) h.numbers ∙ (append_assoc (concat parks) w.park (n ∷ []) ∙ ap (λ y. concat parks ++ y) (sym wp));
      entries = we ∙ h.entries;
      file_length = wf ∙ h.file_length;
      file = subst (λ f. HoldsShut f (draft_bytes p parks) v) (sym wz) h.file;
    }

-- ---- counts

length-ended : (cs : List Column) (n : ℕ) → n ≤ length cs → length (take n cs) ≡ n
length-ended cs n h = length-take-le n cs h

pub count-ended : (w : WriterState) (cs : List Column) (n t : ℕ) → w.columns ≡ take n cs → n ≤ length cs → t - 1 < n
    → (get_or cs (t - 1) (record { count = 0; directory = 0 })).count ≡ count_so_far w t
unfolding count_so_far
count-ended w cs n t e h lt =
    let d : Column = record { count = 0; directory = 0 } in
    let m : length w.columns ≡ n = ap length e ∙ length-ended cs n h in
    let test : ltb (t - 1) (length w.columns) ≡ true = lt-ltb (t - 1) (length w.columns) (omega arith) in
    rw test (ap (λ (c : Column). c.count) (sym (get_or-take n cs (t - 1) d lt) ∙ ap (λ y. get_or y (t - 1) d) (sym e)))

pub count-open : (w : WriterState) (cs : List Column) (n t : ℕ) → w.columns ≡ take n cs → n ≤ length cs → t - 1 ≡ n → w.count ≡ count_so_far w t
unfolding count_so_far
count-open w cs n t e h is =
    let m : length w.columns ≡ n = ap length e ∙ length-ended cs n h in
    let test : ltb (t - 1) (length w.columns) ≡ false = false_from_ne_true (ltb (t - 1) (length w.columns)) (λ y. absurd (omega (arith, ltb-true (t - 1) (length w.columns) y))) in
    rw (test, eq-eqb (t - 1) (length w.columns) (is ∙ sym m)) refl

pub count-later : (w : WriterState) (cs : List Column) (n t : ℕ) → w.columns ≡ take n cs → n ≤ length cs → n < t - 1 → 0 ≡ count_so_far w t
unfolding count_so_far
count-later w cs n t e h is =
    let m : length w.columns ≡ n = ap length e ∙ length-ended cs n h in
    let test : ltb (t - 1) (length w.columns) ≡ false = false_from_ne_true (ltb (t - 1) (length w.columns)) (λ y. absurd (omega (arith, ltb-true (t - 1) (length w.columns) y))) in
    rw (test, ne_eqb (t - 1) (length w.columns) (λ y. absurd (omega arith))) refl

-- ---- what stands

-- a draft with nothing in it
pub begun_stands : (w : WriterState) (l : Layout) (memo id : List ℕ) (k : ℕ) (v : View) → IsMemo l memo → length id ≡ 32 → AreBytes id → 10 ≤ k → k ≤ 50 → w.layout ≡ l → w.memo_length ≡ length memo → w.id ≡ id
    → w.size ≡ k → w.columns ≡ [] → w.count ≡ 0 → w.least ≡ 0 → w.park ≡ [] → w.entries ≡ [] → w.file_length ≡ after_memo memo → HoldsShut w.file (replicate 176 0 ++ memo) v → Stands w (begun l memo id k) v
unfolding columns_for next_after directory tables_bytes park_bytes
begun_stands w l memo id k v allowed il ib low high wy wm wi ws wc wn wl wp we wf file = record {
  parks = [];
  keeps = record {
    draft = record {
      memo = allowed;
      id_length = il;
      id_bytes = ib;
      least = low;
      greatest = high;
      few = omega arith;
      ended = All-nil (IsTable k);
      numbers = record { few = omega arith; rising = λ j h. absurd (omega arith); below = All-nil (λ n. n < 2 ^ (2 * k + 2)) };
      done = λ _. refl;
    };
    layout = wy;
    memo_length = wm;
    id = wi;
    size = ws;
    columns = wc;
    count = wn;
    least = wl;
    written = All-nil (AreNumbers k);
    numbers = sym wp;
    entries = we;
    file_length = wf ∙ (sym (length-append (replicate 176 0) memo) ∙ ap length whole);
    file = subst (λ b. HoldsShut w.file b v) whole file;
  };
  full = All-nil (λ (ns : List ℕ). length ns ≡ full_of l);
  short = subst (λ (y : List ℕ). length y < full_of l) (sym wp) (let some = full_some l in omega arith);
} where
  whole : ◌≡◌ {A = List ℕ} (replicate 176 0 ++ memo) (replicate 176 0 ++ (memo ++ []))
  whole = ap (λ y. replicate 176 0 ++ y) (sym (append-nil memo))

-- a full park written
pub full_stands : (w w' : WriterState) (p : Draft) (parks : List (List ℕ)) (v : View) → All (λ (ns : List ℕ). length ns ≡ full_of p.layout) parks → length w.park ≡ full_of p.layout
    → w'.park ≡ [] → Keeps w' p (parks ++ w.park ∷ []) v → Stands w' p v
full_stands w w' p parks v all full empty keeps = record {
  parks = parks ++ w.park ∷ [];
  keeps = keeps;
  full = All-push (λ (ns : List ℕ). length ns ≡ full_of p.layout) parks w.park all full;
  short = subst (λ (y : List ℕ). length y < full_of p.layout) (sym empty) (let some = full_some p.layout in omega arith);
}

-- the parks of a table whose numbers are all written
pub parks_whole : (w : WriterState) (p : Draft) (v : View) → (s : Stands w p v) → w.park ≡ [] → parks_in p.layout p.numbers ≡ s.parks
unfolding parks_in
parks_whole w p v s empty =
    let e : p.numbers ≡ concat s.parks = s.keeps.numbers ∙ (ap (λ y. concat s.parks ++ y) empty ∙ append-nil (concat s.parks)) in
    ap (λ y. cut (full_of p.layout) (length y) y) e ∙ cut-whole (full_of p.layout) (length (concat s.parks)) s.parks (let some = full_some p.layout in omega arith) s.full (omega arith)

pub parks_last : (w : WriterState) (p : Draft) (v : View) → (s : Stands w p v) → 1 ≤ length w.park → parks_in p.layout p.numbers ≡ s.parks ++ w.park ∷ []
unfolding parks_in
parks_last w p v s more =
    let some = full_some p.layout in
    let short = s.short in
    ap (λ y. cut (full_of p.layout) (length y) y) s.keeps.numbers ∙ cut-full (full_of p.layout) (length (concat s.parks ++ w.park)) s.parks w.park (omega arith) s.full (omega arith) more (omega arith)

pub next_fits : (w : WriterState) (p : Draft) (v : View) (n : ℕ) → Stands w p v → n < 2 ^ (2 * w.size + 2) → n < 2 ^ 102
next_fits w p v n s h =
    let small = s.keeps.draft.greatest in
    let size = s.keeps.size in
    let width : 2 * w.size + 2 ≤ 102 = omega arith in
    let most : 2 ^ (2 * w.size + 2) ≤ 2 ^ 102 = pow_mono width in
    omega arith

-- ---- the end

no_parks : (full : ℕ) (parks : List (List ℕ)) (rest : List ℕ) → 1 ≤ full → All (λ (ns : List ℕ). length ns ≡ full) parks → concat parks ++ rest ≡ [] → parks ≡ []
no_parks full [] rest some all e = refl
no_parks full (p ∷ parks) rest some all e =
    let n = All-head (λ (ns : List ℕ). length ns ≡ full) p parks all in
    let m : length (concat (p ∷ parks) ++ rest) ≡ 0 = ap length e in
    absurd (omega (arith, length-append (concat (p ∷ parks)) rest, length-append p (concat parks)))

-- all seven tables are ended, so no numbers are left
pub all_ended : (w : WriterState) (p : Draft) (v : View) → (s : Stands w p v) → length w.columns ≡ 7 → (length p.ended ≡ 7) × (s.parks ≡ [])
all_ended w p v s seven =
    let e : length p.ended ≡ 7 = sym (ap length s.keeps.columns ∙ length-columns_for p.layout p.k 1 (after_memo p.memo) p.ended) ∙ seven in
    (e, no_parks (full_of p.layout) s.parks w.park (let some = full_some p.layout in omega arith) s.full (sym s.keeps.numbers ∙ s.keeps.draft.done e))

-- what the header of the finished file says
pub finished_header : (w : WriterState) (p : Draft) (v : View) (i : List ℕ) (k : ℕ) (l : Layout) (m : ℕ) (cs : List Column) (n : ℕ) → Stands w p v → length w.columns ≡ 7
    → l ≡ w.layout → m ≡ w.memo_length → i ≡ w.id → k ≡ w.size → cs ≡ w.columns → n ≡ w.file_length → ◌≡◌ {A = Header} (record { layout = l; id = record { 0 = i }; size = k; memo_length = m; columns = cs; file_length = n }) (header_of p.layout p.memo (plot_of p))
unfolding header_of body_of park_bytes
finished_header w p v i k l m cs n s seven el em ei ek ec en =
    let none = (all_ended w p v s seven).1 in
    let total : n ≡ after_memo p.memo + length (tables_bytes p.layout p.k 1 (after_memo p.memo) p.ended) =
    en ∙ (s.keeps.file_length ∙ (length-draft p s.parks ∙ (ap (λ ps. table_start p + length (park_bytes p.k ps)) none ∙ omega arith))) in
    header_from l p.layout i p.id k p.k m (length p.memo) cs (columns_for p.layout p.k 1 (after_memo p.memo) p.ended) n (after_memo p.memo + length (tables_bytes p.layout p.k 1 (after_memo p.memo) p.ended)) (el ∙ s.keeps.layout) (ei ∙ s.keeps.id) (ek ∙ s.keeps.size) (em ∙ s.keeps.memo_length) (ec ∙ s.keeps.columns) total

-- the gate open and the header over the beginning of a file
gate_opened : (header b : List ℕ) → length header ≡ 175 → 176 ≤ length b → opened (written 1 header b) ≡ 1 ∷ (header ++ drop 176 b)
unfolding opened
gate_opened header [] e long = absurd (omega arith)
gate_opened header (x ∷ b) e long = let d : 1 + length header ≡ 176 = omega arith in rw d refl

pub finished_file : (w : WriterState) (p : Draft) (v : View) (h : Header) (header : List ℕ) → (s : Stands w p v) → length w.columns ≡ 7 → h ≡ header_of p.layout p.memo (plot_of p)
    → header ≡ drop 1 (header_bytes p.layout 0 h) → length header ≡ 175 → opened (written 1 header (draft_bytes p s.parks)) ≡ file_of p.layout p.memo (plot_of p)
unfolding header_bytes file_with body_of park_bytes
finished_file w p v h header s seven eh e is =
    let none = (all_ended w p v s seven).1 in
    let body = tables_bytes p.layout p.k 1 (after_memo p.memo) p.ended in
    let z : List ℕ = replicate 176 0 in
    let rest : drop 176 (z ++ (p.memo ++ (body ++ park_bytes p.k s.parks))) ≡ p.memo ++ body =
    ap (λ ps. drop 176 (z ++ (p.memo ++ (body ++ park_bytes p.k ps)))) none ∙ (drop_at z (p.memo ++ (body ++ [])) 176 refl ∙ ap (λ y. p.memo ++ y) (append-nil body)) in
    gate_opened header (draft_bytes p s.parks) is (let n = length-draft p s.parks in omega arith) ∙ ap (λ y. 1 ∷ (header ++ y)) rest ∙ ap (λ y. 1 ∷ (y ++ (p.memo ++ body))) (e ∙ ap (λ y. drop 1 (header_bytes p.layout 0 y)) eh)

pub plot_from_draft : (p : Draft) → IsDraft p → length p.ended ≡ 7 → IsPlot (plot_of p)
plot_from_draft p d seven = record {
  id_length = d.id_length;
  id_bytes = d.id_bytes;
  least = d.least;
  greatest = d.greatest;
  seven = seven;
  tables = d.ended;
}

pub length-opened : (header b : List ℕ) → length header ≡ 175 → 176 ≤ length b → length (opened (written 1 header b)) ≡ length b
length-opened header b e long = ap length (gate_opened header b e long) ∙ omega (arith, length-append header (drop 176 b), length-drop 176 b)
