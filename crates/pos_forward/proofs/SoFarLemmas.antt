-- The tables made so far: one more table behind them, and pieces of a run one after another.
use Rattle.std.proofs.Common.{◌≡◌, ◌≢◌, ◌⊎◌, ℕ, zero, suc, ◌+◌, ◌*◌, ◌-◌, ◌/◌, ◌^◌, ◌≤◌, ◌<◌, ◌==◌, not, cond, Bool, true, false, List, [], ◌∷◌, ◌++◌, length, map, filter, Any, get_or, Err, Option, refl, sym, ap, ◌∙◌, subst, inl, inr, arith, append_assoc, eq-eqb, length-append}
use Rattle.std.specs.Prelude.{IsSome, min}
use Rattle.std.proofs.lemmas.Bool.{cases_eq, cases_lt, false≢true, ne_eqb}
use Rattle.std.proofs.lemmas.List.{get_or-append-add, get_or_append_left, get_or_push, length_push, length-map}
use Rattle.std.proofs.lemmas.Simd.{map-map}
use Rattle.pos_edge.specs.View.{View, IsDisk}
use Rattle.pos_edge.specs.Frame.{NameOf, Just}
use Rattle.pos_edge.specs.ScratchNames.{ScratchState, with_file, without_file, IsLeft, StandsOn}
use Rattle.pos_edge.specs.ScratchWork.{IsNameBetween, IsScratchWork, IsScratchDone, HasWorked}
use Rattle.pos_edge.specs.declared.scratch.ScratchDamage.{ScratchDamage}
use Rattle.pos_edge.specs.declared.scratch.ScratchFile.{ScratchFile}
use Rattle.pos_edge.specs.declared.scratch.WorkFault.{WorkFault}
use Rattle.pos_edge.specs.declared.scratch.WorkFault.TheVariants.{DiskFailed, Exists, Scratch, Memory}
use Rattle.pos_edge.proofs.ScratchFiles.{apart_at}
use Rattle.pos_edge.proofs.ScratchWorkLemmas.{ended_behind, ended_turned, worked_behind}
use Rattle.pos_tuple.specs.declared.entry.Entry.{Entry}
use Rattle.pos_record.specs.Kinds.{value_read, pair_read, pair_width}
use Rattle.pos_lists.specs.TableLists.{pairs_of, entries, with_level}
use Rattle.pos_runs.specs.Pages.{ListPages}
use Rattle.pos_runs.specs.Lists.{ListKept}
use Rattle.pos_runs.specs.Runs.{TablesState, pages_at, no_pages, value_record, pair_record}
use Rattle.pos_runs.proofs.KeptLemmas.{other-names}
use Rattle.pos_runs.proofs.ListLemmas.{holds-kept, stands-kept}
use Rattle.pos_laws.specs.Making.{AreNodes, NeverFalls, IsFull}
use Rattle.pos_laws.proofs.Full.{more_pairs_are_full}
use Rattle.pos_laws.proofs.MadeLevels.{SameUpTo, next_table_is_made, pairs_of-with_level, with_level_same}
use Rattle.pos_forward.specs.declared.drafts.Draft.{Draft}
use Rattle.pos_forward.specs.declared.faults.ForwardFault.{ForwardFault}
use Rattle.pos_forward.specs.declared.faults.ForwardFault.TheVariants.{TableFull, Work}
use Rattle.pos_forward.specs.Drafts.{draft_entry, draft_pair}
use Rattle.pos_forward.specs.Stored.{draft_pair_record}
use Rattle.pos_forward.specs.Tables.{IsSortedTable}
use Rattle.pos_forward.specs.Gathering.{IsGatherAnswer}
use Rattle.pos_forward.specs.NextTables.{IsLastList}
use Rattle.pos_forward.proofs.MadeTables.{IsNextMade}
use Rattle.pos_forward.specs.SevenTables.{IsOutOfOrder}
use Rattle.pos_forward.specs.TablesSoFar.{AreDraftedAs, AreEntriesOf, AreListsByEights, AreTablesTo, HasMoreTables, IsEarlier, IsFileOf, IsMoreCause, IsMoreFault, eights_in}
use Rattle.pos_forward.proofs.ListLemmas.{map-same}
use Rattle.pos_forward.proofs.WayLemmas.{kept_name}

-- ---- numbers

two_less : (n : ℕ) → n + 2 - 2 ≡ n
two_less n = omega arith

-- ---- scratch files that are left

push_any : (P : ScratchFile → Type 0) (files : List ScratchFile) (last : ScratchFile) → Any P files → Any P (files ++ last ∷ [])
push_any P files last (k, x, h, e, p) = (k, x, let l = length_push files last in omega arith, get_or_append_left files (last ∷ []) x k h ∙ e, p)

push_last : (P : ScratchFile → Type 0) (files : List ScratchFile) (last : ScratchFile) → P last → Any P (files ++ last ∷ [])
push_last P files last p = (length files, last, let l = length_push files last in omega arith, get_or_push files last last (length files) refl, p)

any_suc : (P : ScratchFile → Type 0) (x : ScratchFile) (xs : List ScratchFile) → Any P xs → Any P (x ∷ xs)
any_suc P x xs (k, y, h, e, q) = (suc k, y, omega arith, e, q)

-- a file other than the one that was given up
filter_left : (gone f : ℕ) → f ≢ gone → (files : List ScratchFile) → Any (λ kept. kept.file.0 ≡ f) files → Any (λ kept. kept.file.0 ≡ f) (filter (λ kept. not (kept.file.0 == gone)) files)
filter_left gone f other [] (k, x, h, e, p) = absurd (omega arith)
filter_left gone f other (y ∷ ys) (zero, x, h, e, p) =
    let is : y.file.0 ≡ f = ap (λ (z : ScratchFile). z.file.0) e ∙ p in
    let passes : not (y.file.0 == gone) ≡ true = ap not (ne_eqb y.file.0 gone (λ same. other (sym is ∙ same))) in
    subst (λ b. Any (λ kept. kept.file.0 ≡ f) (cond b (y ∷ filter (λ kept. not (kept.file.0 == gone)) ys) (filter (λ kept. not (kept.file.0 == gone)) ys))) (sym passes) (0, y, omega arith, refl, is)
filter_left gone f other (y ∷ ys) (suc k, x, h, e, p) = at (not (y.file.0 == gone)) (filter_left gone f other ys (k, x, omega arith, e, p)) where
  at : (b : Bool) → Any (λ kept. kept.file.0 ≡ f) (filter (λ kept. not (kept.file.0 == gone)) ys)
      → Any (λ kept. kept.file.0 ≡ f) (cond b (y ∷ filter (λ kept. not (kept.file.0 == gone)) ys) (filter (λ kept. not (kept.file.0 == gone)) ys))
  at true any = any_suc (λ kept. kept.file.0 ≡ f) y (filter (λ kept. not (kept.file.0 == gone)) ys) any
  at false any = any

-- a `Scratch` that gave a file up and made two others
still_left : (s : ScratchState) (gone first second f : ℕ) → f ≢ gone → IsLeft s f → IsLeft (with_file (with_file (without_file s gone) first) second) f
still_left s gone first second f other left =
    push_any (λ kept. kept.file.0 ≡ f) ((without_file s gone).left ++ record { number = s.made; file = record { 0 = first } } ∷ []) (record { number = s.made + 1; file = record { 0 = second } })
    (push_any (λ kept. kept.file.0 ≡ f) (without_file s gone).left (record { number = s.made; file = record { 0 = first } }) (filter_left gone f other s.left left))

-- a file that is left after one more was made is that one, or was left before
push_cases : (P : ScratchFile → Type 0) (files : List ScratchFile) (last : ScratchFile) → Any P (files ++ last ∷ []) → Any P files ⊎ P last
push_cases P files last (k, x, h, e, p) = elim (cases_lt k (length files)) [
  | inl less ↦ inl (k, x, less, sym (get_or_append_left files (last ∷ []) x k less) ∙ e, p)
  | inr more ↦ inr (let l = length_push files last in let is : x ≡ last = sym e ∙ get_or_push files last x k (omega arith) in subst P is p)
]

-- and after one was given up it is another one
filter_cases : (gone f : ℕ) (files : List ScratchFile) → Any (λ kept. kept.file.0 ≡ f) (filter (λ kept. not (kept.file.0 == gone)) files) → (f ≢ gone) × Any (λ kept. kept.file.0 ≡ f) files
filter_cases gone f [] (k, x, h, e, p) = absurd (omega arith)
filter_cases gone f (y ∷ ys) any = at (not (y.file.0 == gone)) refl (filter_cases gone f ys) any where
  at : (b : Bool) → not (y.file.0 == gone) ≡ b
      → (Any (λ kept. kept.file.0 ≡ f) (filter (λ kept. not (kept.file.0 == gone)) ys) → (f ≢ gone) × Any (λ kept. kept.file.0 ≡ f) ys)
      → Any (λ kept. kept.file.0 ≡ f) (cond b (y ∷ filter (λ kept. not (kept.file.0 == gone)) ys) (filter (λ kept. not (kept.file.0 == gone)) ys))
      → (f ≢ gone) × Any (λ kept. kept.file.0 ≡ f) (y ∷ ys)
  at true is rest (zero, x, h, e, p) =
      let same : y.file.0 ≡ f = ap (λ (z : ScratchFile). z.file.0) e ∙ p in
      (λ other. false≢true (sym (ap not (eq-eqb y.file.0 gone (same ∙ other))) ∙ is), (0, y, omega arith, refl, same))
  at true is rest (suc k, x, h, e, p) = let found = rest (k, x, omega arith, e, p) in (found.0, any_suc (λ kept. kept.file.0 ≡ f) y ys found.1)
  at false is rest any = let found = rest any in (found.0, any_suc (λ kept. kept.file.0 ≡ f) y ys found.1)

-- after one was given up and two were made
left_of_next : (s : ScratchState) (gone first second f : ℕ) → IsLeft (with_file (with_file (without_file s gone) first) second) f → ((f ≢ gone) × IsLeft s f) ⊎ ((f ≡ first) ⊎ (f ≡ second))
left_of_next s gone first second f left =
    elim (push_cases (λ kept. kept.file.0 ≡ f) ((without_file s gone).left ++ record { number = s.made; file = record { 0 = first } } ∷ []) (record { number = s.made + 1; file = record { 0 = second } }) left) [
      | inl before ↦ elim (push_cases (λ kept. kept.file.0 ≡ f) (without_file s gone).left (record { number = s.made; file = record { 0 = first } }) before) [
        | inl old ↦ inl (filter_cases gone f s.left old)
        | inr is ↦ inr (inl (sym is))
      ]
      | inr is ↦ inr (inr (sym is))
    ]

-- after two were made
pub left_of_two : (s : ScratchState) (first second f : ℕ) → IsLeft (with_file (with_file s first) second) f → IsLeft s f ⊎ ((f ≡ first) ⊎ (f ≡ second))
left_of_two s first second f left =
    elim (push_cases (λ kept. kept.file.0 ≡ f) (s.left ++ record { number = s.made; file = record { 0 = first } } ∷ []) (record { number = s.made + 1; file = record { 0 = second } }) left) [
      | inl before ↦ elim (push_cases (λ kept. kept.file.0 ≡ f) s.left (record { number = s.made; file = record { 0 = first } }) before) [
        | inl old ↦ inl old
        | inr is ↦ inr (inl (sym is))
      ]
      | inr is ↦ inr (inr (sym is))
    ]

pub first_left : (s : ScratchState) (first second : ℕ) → IsLeft (with_file (with_file s first) second) first
first_left s first second =
    push_any (λ kept. kept.file.0 ≡ first) (s.left ++ record { number = s.made; file = record { 0 = first } } ∷ []) (record { number = s.made + 1; file = record { 0 = second } })
    (push_last (λ kept. kept.file.0 ≡ first) s.left (record { number = s.made; file = record { 0 = first } }) refl)

pub second_left : (s : ScratchState) (first second : ℕ) → IsLeft (with_file (with_file s first) second) second
second_left s first second =
    push_last (λ kept. kept.file.0 ≡ second) (s.left ++ record { number = s.made; file = record { 0 = first } } ∷ []) (record { number = s.made + 1; file = record { 0 = second } }) refl

-- the two have two FileIds
pub two_apart : (s : ScratchState) (first second : ℕ) (v : View) → StandsOn (with_file (with_file s first) second) v → first ≢ second
two_apart s first second v stand =
    let p : ScratchFile = record { number = s.made; file = record { 0 = first } } in
    let q : ScratchFile = record { number = s.made + 1; file = record { 0 = second } } in
    let one : length (s.left ++ p ∷ []) ≡ length s.left + 1 = length_push s.left p in
    let two : length ((s.left ++ p ∷ []) ++ q ∷ []) ≡ length (s.left ++ p ∷ []) + 1 = length_push (s.left ++ p ∷ []) q in
    let apart = apart_at ((s.left ++ p ∷ []) ++ q ∷ []) stand.apart (length s.left) (length (s.left ++ p ∷ [])) q (omega arith) (omega arith) in
    let at_first : get_or ((s.left ++ p ∷ []) ++ q ∷ []) (length s.left) q ≡ p =
    get_or_append_left (s.left ++ p ∷ []) (q ∷ []) q (length s.left) (omega arith) ∙ get_or_push s.left p q (length s.left) refl in
    let at_second : get_or ((s.left ++ p ∷ []) ++ q ∷ []) (length (s.left ++ p ∷ [])) q ≡ q = get_or_push (s.left ++ p ∷ []) q q (length (s.left ++ p ∷ [])) refl in
    λ same. apart.ids (ap (λ (z : ScratchFile). z.file.0) at_first ∙ same ∙ ap (λ (z : ScratchFile). z.file.0) (sym at_second))

-- ---- lists of tables

pub at_before : (lists : TablesState) (last : ListPages) (m : ℕ) → m < length lists → pages_at (lists ++ last ∷ []) m ≡ pages_at lists m
at_before lists last m few = get_or_append_left lists (last ∷ []) no_pages m few

at_last : (lists : TablesState) (last : ListPages) (m : ℕ) → length lists ≡ m → pages_at (lists ++ last ∷ []) m ≡ last
at_last lists last m is = get_or_push lists last no_pages m is

-- the files of lists one behind the other
pub file_of_left : (xs ys : TablesState) (f : ℕ) → IsFileOf xs f → IsFileOf (xs ++ ys) f
file_of_left xs ys f (m, less, is) = (m, omega (arith, length-append xs ys), is ∙ ap (λ (z : ListPages). z.file) (sym (get_or_append_left xs ys no_pages m less)))

pub file_of_right : (xs ys : TablesState) (f : ℕ) → IsFileOf ys f → IsFileOf (xs ++ ys) f
file_of_right xs ys f (m, less, is) = (length xs + m, omega (arith, length-append xs ys), is ∙ ap (λ (z : ListPages). z.file) (sym (get_or-append-add xs ys m no_pages)))

pairs_as_records : (drafts : List Draft) → map draft_pair_record drafts ≡ map pair_record (map draft_pair drafts)
pairs_as_records drafts = sym (map-map pair_record draft_pair drafts)

-- ---- one table more

module _ {R S : Type 0} (k c n : ℕ) (entry : R → Entry) (read : List Bool → R) (w : ℕ) (made_of : Draft → S) (next_read : List Bool → S) (x : ℕ) (s u : ScratchState) (rows pairs next : ListPages) (drafts : List Draft) (a d : View)
    (disk : IsDisk a) (last : IsLastList s rows a) (worked : HasWorked 2 rows.number (Just rows.file) s u a d)
    (made : IsNextMade k (n + 2) c entry read w made_of next_read x s u rows pairs next drafts a d) where
  abbrev work : IsScratchWork (IsNameBetween s.base rows.number (u.made + 1)) (Just rows.file) s u a d
  work = worked.work

  abbrev done : IsScratchDone (IsNameBetween s.base rows.number u.made) (Just rows.file) s u a d
  done = worked.done

  next_stands : StandsOn u d
  next_stands = work.stands last.standing

  next_two : u.made ≡ s.made + 2
  next_two = worked.made

  pairs_are_apart : pairs.file ≢ next.file
  pairs_are_apart = two_apart (without_file s rows.file) pairs.file next.file d (subst (λ z. StandsOn z d) made.files.is next_stands)

  -- a list of an earlier table is as it was
  earlier_kept : {X : Type 0} (list_read : List Bool → X) (y : ℕ) (list : ListPages) (xs : List X) → IsEarlier s list_read y list rows xs a → ListKept s.base list_read y list xs d
  earlier_kept list_read y list xs h = record {
    few = h.kept.few;
    named = λ tells. name ∙ h.kept.named (sym done.kept.tells ∙ tells);
    stands = stands-kept y list a d (done.kept.live list.file h.kept.stands.live h.apart)
        (λ tells. subst (λ (z : Option (List ℕ)). IsSome z) (sym name) (h.kept.stands.there (sym done.kept.tells ∙ tells)))
        (let size = done.kept.size list.file h.kept.stands.live h.apart in omega arith) h.kept.stands;
    holds = holds-kept list_read y list xs a d done.kept.tells name (λ m named. done.kept.contents m (not_names m named)) h.kept.holds;
  } where
    small : (m : ℕ) → m < u.made → m < 10000
    small m less = let few = next_stands.few in omega arith

    not_names : (m : List ℕ) → NameOf list.file a m → IsNameBetween s.base rows.number u.made m → ⊥
    not_names m named (number, low, high, is) =
        let before = h.earlier in
        other-names s.base list.number number h.kept.few (small number high) (λ same. omega arith)
        (sym (kept_name s.base list_read y list xs m a disk h.kept named) ∙ is)

    name : d.name_of list.file ≡ a.name_of list.file
    name = done.kept.name list.file h.kept.stands.live h.apart not_names

  earlier_stays : {X : Type 0} (list_read : List Bool → X) (y : ℕ) (list : ListPages) (xs : List X) → IsEarlier s list_read y list rows xs a → IsEarlier u list_read y list next xs d
  earlier_stays list_read y list xs h = record {
    kept = subst (λ base. ListKept base list_read y list xs d) (sym work.base) (earlier_kept list_read y list xs h);
    sealed = h.sealed;
    left = subst (λ z. IsLeft z list.file) (sym made.files.is) (still_left s rows.file pairs.file next.file list.file h.apart h.left);
    earlier = let before = h.earlier in let number = made.files.next_number in let end = last.last in omega arith;
    apart = λ same. h.apart (same ∙ made.files.next_new (sym (ap a.is_live same) ∙ h.kept.stands.live));
  }

  -- and so is the list of its pairs
  pairs_earlier : IsEarlier u (pair_read k) (pair_width k) pairs next (map pair_record (map draft_pair drafts)) d
  pairs_earlier = record {
    kept = subst (λ base. ListKept base (pair_read k) (pair_width k) pairs (map pair_record (map draft_pair drafts)) d) (sym work.base)
        (subst (λ xs. ListKept s.base (pair_read k) (pair_width k) pairs xs d) (pairs_as_records drafts) made.kept.first);
    sealed = made.pairs_sealed;
    left = subst (λ z. IsLeft z pairs.file) (sym made.files.is) (first_left (without_file s rows.file) pairs.file next.file);
    earlier = let first = made.files.pairs_number in let second = made.files.next_number in omega arith;
    apart = pairs_are_apart;
  }

  next_last : IsLastList u next d
  next_last = record {
    standing = next_stands;
    sealed = made.next_sealed;
    left = subst (λ z. IsLeft z next.file) (sym made.files.is) (second_left (without_file s rows.file) pairs.file next.file);
    last = let number = made.files.next_number in let two = next_two in omega arith;
  }

  next_kept : ListKept u.base next_read x next (map made_of drafts) d
  next_kept = subst (λ base. ListKept base next_read x next (map made_of drafts) d) (sym work.base) made.kept.second

  pairs_count : pairs.count ≡ length drafts
  pairs_count = sym made.kept.first.holds.count ∙ length-map drafts draft_pair_record

  next_count : next.count ≡ length drafts
  next_count = sym made.kept.second.holds.count ∙ length-map drafts made_of

  -- the tables with one more
  next_tables : (id : List ℕ) (so_far : TablesState) → AreTablesTo id k c n (AreEntriesOf entry) read w s so_far rows a
      → AreTablesTo id k c (suc n) (AreDraftedAs k (n + 2) made_of) next_read x u (so_far ++ pairs ∷ []) next d
  next_tables id so_far h = record {
    ts = with_level h.ts (map draft_pair drafts);
    es = map (draft_entry k (n + 2)) drafts;
    xs = map made_of drafts;
    so_many = let many = h.so_many in let one = length_push so_far pairs in omega arith;
    deep = let deep = h.deep in let one = length_push h.ts.pairs (map draft_pair drafts) in omega arith;
    values = values_stay;
    pairs = λ m few. elim (cases_lt m n) [ inl less ↦ before m less | inr not_less ↦ at_end m (omega arith) ];
    kept = next_kept;
    as_long = next_count ∙ sym pairs_count ∙ ap (λ (z : ListPages). z.count) (sym (at_last so_far pairs (suc n) h.so_many));
    tied = record { drafts = drafts; entries = refl; kept_as = refl };
    first = ap (λ (z : ListPages). z.count) (at_before so_far pairs 0 (let many = h.so_many in omega arith)) ∙ h.first;
    few = λ m low high. elim (cases_lt m (suc n)) [ inl less ↦ few_before m low less | inr not_less ↦ few_last m (omega arith) ];
    made = λ told.
        let told_before : a.tells ≡ true = sym done.kept.tells ∙ told in
        let was = h.made told_before in
        let same : made.es ≡ h.es = made.same h.xs h.kept.holds told_before ∙ sym h.tied in
        let sorted : IsSortedTable k n h.es drafts = subst (λ es. IsSortedTable k n es drafts) same (subst (λ m. IsSortedTable k m made.es drafts) (two_less n) made.sorted) in
        let more = next_table_is_made h.ts id k n h.es (map draft_pair drafts) (map (draft_entry k (n + 2)) drafts) h.deep was.0 was.1 sorted.table sorted.rise in
        (more.0, more.1, sorted.rise);
  } where
    level_same : SameUpTo h.ts (with_level h.ts (map draft_pair drafts)) n
    level_same = with_level_same h.ts n (map draft_pair drafts) h.deep

    values_stay : IsEarlier u (value_read k) k (pages_at (so_far ++ pairs ∷ []) 0) next (map value_record h.ts.values) d
    values_stay =
        subst (λ list. IsEarlier u (value_read k) k list next (map value_record h.ts.values) d) (sym (at_before so_far pairs 0 (let many = h.so_many in omega arith)))
        (earlier_stays (value_read k) k (pages_at so_far 0) (map value_record h.ts.values) h.values)

    before : (m : ℕ) → m < n → IsEarlier u (pair_read k) (pair_width k) (pages_at (so_far ++ pairs ∷ []) (suc m)) next (map pair_record (pairs_of (with_level h.ts (map draft_pair drafts)) (suc m))) d
    before m less =
        subst (λ list. IsEarlier u (pair_read k) (pair_width k) list next (map pair_record (pairs_of (with_level h.ts (map draft_pair drafts)) (suc m))) d)
        (sym (at_before so_far pairs (suc m) (let many = h.so_many in omega arith)))
        (subst (λ ps. IsEarlier u (pair_read k) (pair_width k) (pages_at so_far (suc m)) next (map pair_record ps) d) (sym (level_same.pairs m less))
        (earlier_stays (pair_read k) (pair_width k) (pages_at so_far (suc m)) (map pair_record (pairs_of h.ts (suc m))) (h.pairs m less)))

    at_end : (m : ℕ) → m ≡ n → IsEarlier u (pair_read k) (pair_width k) (pages_at (so_far ++ pairs ∷ []) (suc m)) next (map pair_record (pairs_of (with_level h.ts (map draft_pair drafts)) (suc m))) d
    at_end m is =
        subst (λ (i : ℕ). IsEarlier u (pair_read k) (pair_width k) (pages_at (so_far ++ pairs ∷ []) (suc i)) next (map pair_record (pairs_of (with_level h.ts (map draft_pair drafts)) (suc i))) d) (sym is)
        (subst (λ list. IsEarlier u (pair_read k) (pair_width k) list next (map pair_record (pairs_of (with_level h.ts (map draft_pair drafts)) (suc n))) d) (sym (at_last so_far pairs (suc n) h.so_many))
        (subst (λ ps. IsEarlier u (pair_read k) (pair_width k) pairs next (map pair_record ps) d) (sym (pairs_of-with_level h.ts n (map draft_pair drafts) h.deep)) pairs_earlier))

    few_before : (m : ℕ) → 0 < m → m < suc n → (pages_at (so_far ++ pairs ∷ []) m).count ≤ c
    few_before m low less = subst (λ (list : ListPages). list.count ≤ c) (sym (at_before so_far pairs m (let many = h.so_many in omega arith))) (h.few m low (omega arith))

    few_last : (m : ℕ) → m ≡ suc n → (pages_at (so_far ++ pairs ∷ []) m).count ≤ c
    few_last m is =
        let count = pairs_count in
        let within = made.within in
        subst (λ (i : ℕ). (pages_at (so_far ++ pairs ∷ []) i).count ≤ c) (sym is) (subst (λ (list : ListPages). list.count ≤ c) (sym (at_last so_far pairs (suc n) h.so_many)) (omega arith))

  next_more : HasMoreTables k c n (suc n) (AreEntriesOf entry) read w (AreDraftedAs k (n + 2) made_of) next_read x s u rows (pairs ∷ []) next a d
  next_more = record {
    many = 2;
    so_many = omega arith;
    worked = worked;
    last = next_last;
    holds = (map made_of drafts, next_kept);
    few = let count = next_count in let within = made.within in omega arith;
    new_file = made.files.next_new;
    only = λ f left. elim (left_of_next s rows.file pairs.file next.file f (subst (λ z. IsLeft z f) made.files.is left)) [
      | inl before ↦ inl before
      | inr new ↦ elim new [ inl is ↦ inr (inl (0, omega arith, is)) | inr is ↦ inr (inr is) ]
    ];
    tables = next_tables;
  }

-- the same where the table is named by its number
pub more_at : {R S : Type 0} (k c n m t : ℕ) (entry : R → Entry) (read : List Bool → R) (w : ℕ) (made_of : Draft → S) (next_read : List Bool → S) (x : ℕ) (s u : ScratchState) (rows pairs next : ListPages) (drafts : List Draft) (a d : View)
    → n + 2 ≡ t → suc n ≡ m → IsDisk a → IsLastList s rows a → HasWorked 2 rows.number (Just rows.file) s u a d → IsNextMade k t c entry read w made_of next_read x s u rows pairs next drafts a d
    → HasMoreTables k c n m (AreEntriesOf entry) read w (AreDraftedAs k t made_of) next_read x s u rows (pairs ∷ []) next a d
more_at k c n m t entry read w made_of next_read x s u rows pairs next drafts a d table level disk last worked made =
    subst (λ z. HasMoreTables k c n z (AreEntriesOf entry) read w (AreDraftedAs k t made_of) next_read x s u rows (pairs ∷ []) next a d) level
    (subst (λ z. HasMoreTables k c n (suc n) (AreEntriesOf entry) read w (AreDraftedAs k z made_of) next_read x s u rows (pairs ∷ []) next a d) table
    (next_more k c n entry read w made_of next_read x s u rows pairs next drafts a d disk last worked
    (subst (λ z. IsNextMade k z c entry read w made_of next_read x s u rows pairs next drafts a d) (sym table) made)))

-- ---- why one table more was not made

-- a level has as many entries as its list has records
pub level_count : {R : Type 0} (id : List ℕ) (k c n : ℕ) (tie : List Entry → List R → Type 0) (read : List Bool → R) (w : ℕ) (s : ScratchState) (lists : TablesState) (rows : ListPages) (v : View) → (h : AreTablesTo id k c n tie read w s lists rows v)
    → (m : ℕ) → 0 < m → m ≤ n → entries h.ts m ≤ c
unfolding entries
level_count id k c n tie read w s lists rows v h zero low high = absurd (omega arith)
level_count id k c n tie read w s lists rows v h (suc m) low high =
    let count = (h.pairs m high).kept.holds.count in
    let few = h.few (suc m) low high in
    let same = length-map (pairs_of h.ts (suc m)) pair_record in
    omega arith

-- a table would be too large, or its rows were out of order
pub gathered_cause : {X R : Type 0} (f : ForwardFault) (k c n t : ℕ) (entry : R → Entry) (read : List Bool → R) (w : ℕ) (rows : ListPages) (s : ScratchState) (a b : View)
    → n + 2 ≡ t → n < 6 → rows.number + 1 ≡ s.made → IsGatherAnswer {X = X} (Err f) k t c entry read w rows a b → IsMoreCause k c n (AreEntriesOf entry) read w rows s s a f
gathered_cause {X} {R} (TableFull table) k c n t entry read w rows s a b level less last h = λ id so_far tables told.
    let pairs = h.full table refl tables.xs tables.kept.holds told in
    let made = tables.made told in
    subst (IsFull id k c) (level ∙ sym (h.table table refl))
    (more_pairs_are_full tables.ts id k n c (map entry tables.xs) pairs.0 less made.0
    (level_count id k c n (AreEntriesOf entry) read w s so_far rows a tables) (subst (AreNodes tables.ts id k n) tables.tied made.1) pairs.2 pairs.1)
gathered_cause {X} {R} (Work DiskFailed) k c n t entry read w rows s a b level less last h = tt
gathered_cause {X} {R} (Work (Exists file)) k c n t entry read w rows s a b level less last h = tt
gathered_cause {X} {R} (Work (Scratch damage)) k c n t entry read w rows s a b level less last h = (
  subst (λ (made : ℕ). IsOutOfOrder k rows.number made damage) last (h.range damage refl),
  λ id so_far tables told. h.never damage refl tables.xs tables.kept.holds told (subst NeverFalls tables.tied (tables.made told).2),
)
gathered_cause {X} {R} (Work Memory) k c n t entry read w rows s a b level less last h = tt

-- the work on scratch files alone ended: nothing is full, and no row out of order
pub stored_cause : {R : Type 0} (e : WorkFault) (k c n : ℕ) (tie : List Entry → List R → Type 0) (read : List Bool → R) (w : ℕ) (rows : ListPages) (s u : ScratchState) (a : View)
    → ((damage : ScratchDamage) → e ≡ Scratch damage → ⊥) → IsMoreCause k c n tie read w rows s u a (Work e)
stored_cause DiskFailed k c n tie read w rows s u a none = tt
stored_cause (Exists file) k c n tie read w rows s u a none = tt
stored_cause (Scratch damage) k c n tie read w rows s u a none = absurd (none damage refl)
stored_cause Memory k c n tie read w rows s u a none = tt

-- ---- pieces one after another

-- the file that is out of order was made later than another one
pub order_from : (k low first made : ℕ) (damage : ScratchDamage) → low ≤ first → IsOutOfOrder k first made damage → IsOutOfOrder k low made damage
order_from k low first made damage above h = record {
  earliest = let from = h.earliest in omega arith;
  last = h.last;
  behind = h.behind;
  below = h.below;
  least = h.least;
  limit = h.limit;
}

-- why the second of two pieces did not end well
more_cause : {R S : Type 0} (f : ForwardFault) (k c n m : ℕ) (tie : List Entry → List R → Type 0) (read : List Bool → R) (w : ℕ) (next_tie : List Entry → List S → Type 0) (next_read : List Bool → S) (x : ℕ)
    (s t u : ScratchState) (rows : ListPages) (lists : TablesState) (next : ListPages) (a b : View) → rows.number ≤ next.number
    → HasMoreTables k c n m tie read w next_tie next_read x s t rows lists next a b → IsMoreCause k c m next_tie next_read x next t u b f → IsMoreCause k c n tie read w rows s u a f
more_cause (TableFull table) k c n m tie read w next_tie next_read x s t u rows lists next a b above p h = λ id so_far tables told. h id (so_far ++ lists) (p.tables id so_far tables) (p.worked.done.kept.tells ∙ told)
more_cause (Work DiskFailed) k c n m tie read w next_tie next_read x s t u rows lists next a b above p h = tt
more_cause (Work (Exists file)) k c n m tie read w next_tie next_read x s t u rows lists next a b above p h = tt
more_cause (Work (Scratch damage)) k c n m tie read w next_tie next_read x s t u rows lists next a b above p h =
    (order_from k rows.number next.number u.made damage above h.0, λ id so_far tables told. h.1 id (so_far ++ lists) (p.tables id so_far tables) (p.worked.done.kept.tells ∙ told))
more_cause (Work Memory) k c n m tie read w next_tie next_read x s t u rows lists next a b above p h = tt

-- with more files allowed
pub more_wider : {R : Type 0} (f : ForwardFault) (k c n most all : ℕ) (tie : List Entry → List R → Type 0) (read : List Bool → R) (w : ℕ) (rows : ListPages) (s u : ScratchState) (a b : View) → most ≤ all
    → IsMoreFault k c n most tie read w rows s u a b f → IsMoreFault k c n all tie read w rows s u a b f
more_wider f k c n most all tie read w rows s u a b within h = record { ended = ended_turned {X = Unit {0}} {Y = Unit {0}} Work most all rows.number (Just rows.file) f s u a b within h.ended; cause = h.cause }

-- the last rows of a piece were made behind those of the one before
rows_above : (number other made after : ℕ) → number + 1 ≡ made → other + 1 ≡ after → made ≤ after → number ≤ other
rows_above number other made after p q more = omega arith

-- numbers of files
both_many : (p q n m l : ℕ) → p + 2 * n ≡ 2 * m → q + 2 * m ≡ 2 * l → p + q + 2 * n ≡ 2 * l
both_many p q n m l first second = omega arith

few_both : (p q n l : ℕ) → p + q + 2 * n ≡ 2 * l → l ≤ 6 → p + q ≤ 40
few_both p q n l both high = omega arith

room_both : (made p q n l : ℕ) → p + q + 2 * n ≡ 2 * l → made + 2 * l ≤ 10000 + 2 * n → made + (p + q) ≤ 10000
room_both made p q n l both room = omega arith

-- the module's arguments: two pieces, of which the first went well
module _ {R S : Type 0} (k c n m : ℕ) (tie : List Entry → List R → Type 0) (read : List Bool → R) (w : ℕ) (mid_tie : List Entry → List S → Type 0) (mid_read : List Bool → S) (y : ℕ)
    (s t u : ScratchState) (rows mid : ListPages) (lists : TablesState) (a b d : View) (list : IsLastList s rows a) (p : HasMoreTables k c n m tie read w mid_tie mid_read y s t rows lists mid a b) where
  abbrev new_rows : (f : ℕ) → a.is_live f ≡ true → f ≡ mid.file → f ≡ rows.file
  new_rows f live is = is ∙ p.new_file (subst (λ g. a.is_live g ≡ true) is live)

  abbrev old_rows : (f : ℕ) → a.is_live f ≡ true → f ≡ rows.file → IsLeft s f ⊎ (b.is_live f ≡ true)
  old_rows f live is = inl (subst (IsLeft s) (sym is) list.left)

  mid_above : rows.number ≤ mid.number
  mid_above = rows_above rows.number mid.number s.made t.made list.last p.last.last p.worked.work.more

  pub more_refused : (f : ForwardFault) (many most all : ℕ) → p.many ≡ many → many + most ≡ all → all ≤ 40 → s.made + all ≤ 10000 → IsMoreFault k c m most mid_tie mid_read y mid t u b d f → IsMoreFault k c n all tie read w rows s u a d f
  more_refused f many most all is sum few room h = subst (λ z. IsMoreFault k c n z tie read w rows s u a d f) (ap (λ z. z + most) is ∙ sum) (record {
    ended = ended_behind p.many most rows.number mid.number (Just rows.file) (Just mid.file) s t u a b d mid_above (subst (λ z. z ≤ 40) (sym (ap (λ z. z + most) is ∙ sum)) few) (subst (λ z. s.made + z ≤ 10000) (sym (ap (λ z. z + most) is ∙ sum)) room)
        new_rows old_rows p.worked Work (Err f) h.ended;
    cause = more_cause f k c n m tie read w mid_tie mid_read y s t u rows lists mid a b mid_above p h.cause;
  })

  -- and what both made
  pub more_then : {Q : Type 0} (l : ℕ) (next_tie : List Entry → List Q → Type 0) (next_read : List Bool → Q) (x : ℕ) (next : ListPages) (others : TablesState) → l ≤ 6 → s.made + 2 * l ≤ 10000 + 2 * n
      → HasMoreTables k c m l mid_tie mid_read y next_tie next_read x t u mid others next b d → HasMoreTables k c n l tie read w next_tie next_read x s u rows (lists ++ others) next a d
  more_then l next_tie next_read x next others high room q =
      let both = both_many p.many q.many n m l p.so_many q.so_many in
      record {
        many = p.many + q.many;
        so_many = both;
        worked = worked_behind p.many q.many rows.number mid.number (Just rows.file) (Just mid.file) s t u a b d mid_above (few_both p.many q.many n l both high) (room_both s.made p.many q.many n l both room) new_rows old_rows p.worked q.worked;
        last = q.last;
        holds = q.holds;
        few = q.few;
        new_file = λ live. elim (cases_eq next.file rows.file) [
          | inl same ↦ same
          | inr other ↦
              let same : next.file ≡ mid.file = q.new_file (p.worked.done.kept.live next.file live other) in
              same ∙ p.new_file (subst (λ f. a.is_live f ≡ true) same live)
        ];
        only = λ f left. elim (q.only f left) [
          | inl before ↦ elim (p.only f before.1) [
            | inl old ↦ inl old
            | inr new ↦ elim new [ inl list ↦ inr (inl (file_of_left lists others f list)) | inr is ↦ absurd (before.0 is) ]
          ]
          | inr new ↦ elim new [ inl list ↦ inr (inl (file_of_right lists others f list)) | inr is ↦ inr (inr is) ]
        ];
        tables = λ id so_far h.
            subst (λ all. AreTablesTo id k c l next_tie next_read x u all next d) (append_assoc so_far lists others) (q.tables id (so_far ++ lists) (p.tables id so_far h));
      }

-- the records may be tied to the entries in another way
retied : {R : Type 0} (id : List ℕ) (k c n : ℕ) (tie other : List Entry → List R → Type 0) (read : List Bool → R) (w : ℕ) (s : ScratchState) (lists : TablesState) (rows : ListPages) (v : View)
    → ((es : List Entry) (xs : List R) → tie es xs → other es xs) → AreTablesTo id k c n tie read w s lists rows v → AreTablesTo id k c n other read w s lists rows v
retied id k c n tie other read w s lists rows v turn h = record {
  ts = h.ts;
  es = h.es;
  xs = h.xs;
  so_many = h.so_many;
  deep = h.deep;
  values = h.values;
  pairs = h.pairs;
  kept = h.kept;
  as_long = h.as_long;
  tied = turn h.es h.xs h.tied;
  first = h.first;
  few = h.few;
  made = h.made;
}

pub more_retied : {R S : Type 0} (k c n m : ℕ) (tie : List Entry → List R → Type 0) (read : List Bool → R) (w : ℕ) (next_tie other : List Entry → List S → Type 0) (next_read : List Bool → S) (x : ℕ) (s u : ScratchState) (rows : ListPages) (lists : TablesState) (next : ListPages) (a d : View)
    → ((es : List Entry) (xs : List S) → next_tie es xs → other es xs) → HasMoreTables k c n m tie read w next_tie next_read x s u rows lists next a d
    → HasMoreTables k c n m tie read w other next_read x s u rows lists next a d
more_retied k c n m tie read w next_tie other next_read x s u rows lists next a d turn h = record {
  last = h.last;
  holds = h.holds;
  many = h.many;
  so_many = h.so_many;
  worked = h.worked;
  few = h.few;
  new_file = h.new_file;
  only = h.only;
  tables = λ id so_far tables. retied id k c m next_tie other next_read x u (so_far ++ lists) next d turn (h.tables id so_far tables);
}

-- drafts kept as rows, and the entries of the rows
pub drafted_entries : {R : Type 0} (k t : ℕ) (made_of : Draft → R) (entry : R → Entry) → ((draft : Draft) → entry (made_of draft) ≡ draft_entry k t draft)
    → (es : List Entry) (xs : List R) → AreDraftedAs k t made_of es xs → AreEntriesOf entry es xs
drafted_entries k t made_of entry same es xs h =
    h.entries ∙ map-same (draft_entry k t) (λ draft. entry (made_of draft)) h.drafts (λ i d lt. sym (same (get_or h.drafts i d)))
    ∙ sym (map-map entry made_of h.drafts) ∙ ap (map entry) (sym h.kept_as)

-- ---- eights

eights_in-append : (xs ys : TablesState) → eights_in (xs ++ ys) ≡ eights_in xs + eights_in ys
eights_in-append [] ys = omega arith
eights_in-append (x ∷ xs) ys = let tail = eights_in-append xs ys in omega arith

-- entries that were made by eights, and then others
pub eights_then : (before middle now : ℕ) (xs ys : TablesState) → AreListsByEights before middle xs → AreListsByEights middle now ys → AreListsByEights before now (xs ++ ys)
eights_then before middle now xs ys first second = let both = eights_in-append xs ys in omega arith

-- those of one table
pub eights_of_one : (before now count x : ℕ) → min (before + x / 8) (2 ^ 64 - 1) ≤ now → count ≡ x → min (before + (count / 8 + 0)) (2 ^ 64 - 1) ≤ now
eights_of_one before now count x h is = omega arith
