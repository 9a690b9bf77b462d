-- The tables of an id from the first on, and what all seven stand for.
use Rattle.std.proofs.Common.{◌≡◌, ◌⊎◌, ℕ, zero, suc, ◌+◌, ◌*◌, ◌-◌, ◌/◌, ◌^◌, ◌≤◌, ◌<◌, Bool, true, false, List, [], ◌∷◌, ◌++◌, map, Err, refl, sym, ap, ◌∙◌, subst, inl, inr, arith}
use Rattle.std.specs.Prelude.{min}
use Rattle.std.proofs.Math.Nat.{pow-le-pow_right}
use Rattle.std.proofs.lemmas.Bool.{cases_Bool, cases_lt, false≢true}
use Rattle.std.proofs.lemmas.List.{length-map}
use Rattle.std.proofs.lemmas.Nat.{pow_pos}
use Rattle.std.proofs.lemmas.Simd.{map-map}
use Rattle.pos_edge.specs.View.{View}
use Rattle.pos_edge.specs.Frame.{Just, Nothing}
use Rattle.pos_edge.specs.ScratchNames.{ScratchState, IsLeft, StandsOn}
use Rattle.pos_edge.specs.ScratchWork.{HasEnded, HasWorked}
use Rattle.pos_edge.specs.declared.scratch.WorkFault.TheVariants.{DiskFailed, Exists, Scratch, Memory}
use Rattle.pos_edge.proofs.ScratchWorkLemmas.{ended_behind, ended_turned, worked_behind}
use Rattle.pos_tuple.specs.declared.entry.Entry.{Entry}
use Rattle.pos_record.specs.Kinds.{first_read, first_width, value_read, pair_read, pair_width, number_read, number_width, NumberFits, RowFits}
use Rattle.pos_record.specs.Fields.{IsRecordSize}
use Rattle.pos_record.specs.declared.kinds.First.{First}
use Rattle.pos_lists.specs.TableLists.{TableLists, pairs_of}
use Rattle.pos_runs.specs.Pages.{ListPages, ListHolds}
use Rattle.pos_runs.specs.Lists.{ListKept}
use Rattle.pos_runs.specs.Runs.{TablesState, TablesStand, IsTablesFile, StandsSealed, level_width, pages_at, value_record, pair_record, number_record}
use Rattle.pos_laws.specs.Making.{IsAbove}
use Rattle.pos_laws.specs.Tables.{Describes}
use Rattle.pos_laws.proofs.Made.{first_table_is_right}
use Rattle.pos_laws.proofs.MadeLevels.{first_table_is_made, made_tables_describe}
use Rattle.pos_laws.proofs.Counting.{none_is_above}
use Rattle.pos_forward.specs.declared.drafts.Draft.{Draft}
use Rattle.pos_forward.specs.declared.faults.ForwardFault.{ForwardFault}
use Rattle.pos_forward.specs.declared.faults.ForwardFault.TheVariants.{TableFull, Work}
use Rattle.pos_forward.specs.Drafts.{draft_entry, first_row_entry, IsPairDraft}
use Rattle.pos_forward.proofs.MadeTables.{AreFirstMade}
use Rattle.pos_forward.specs.SevenTables.{AreSevenTables, IsForwardCause}
use Rattle.pos_forward.specs.Stored.{draft_number, draft_row, first_value}
use Rattle.pos_forward.specs.TablesSoFar.{AreDraftedAs, AreEntriesOf, HasMoreTables, HasTablesTo, IsMoreCause, IsMoreFault, IsTablesFault}
use Rattle.pos_forward.proofs.SoFarLemmas.{at_before, file_of_left, file_of_right, first_left, left_of_two, level_count, order_from, second_left, two_apart}

-- ---- table 1

-- the values of rows of table 1
values_as_records : (rows : List First) → map first_value rows ≡ map value_record (map (λ r. r.x) rows)
values_as_records rows = sym (map-map value_record (λ (r : First). r.x) rows)

power_up : (k : ℕ) → 2 ^ k ≤ 2 ^ (k + 1)
power_up k = pow-le-pow_right {n = 2} (omega arith) (omega arith)

pub first_tables : (id : List ℕ) (k c : ℕ) (s u : ScratchState) (values rows : ListPages) (a b : View) → StandsOn s a
    → HasWorked 2 s.made Nothing s u a b → AreFirstMade id k s u values rows a b
    → HasTablesTo id k c 0 (AreEntriesOf (first_row_entry k)) (first_read k) (first_width k) s u (values ∷ []) rows a b
first_tables id k c s u values rows a b stands worked h = record {
  worked = worked;
  last = record {
    standing = stand;
    sealed = h.rows_sealed;
    left = subst (λ z. IsLeft z rows.file) (sym h.files.is) (second_left s values.file rows.file);
    last = let number = h.files.second_number in let end = two in omega arith;
  };
  few = let up = power_up k in let count = h.table.count in let held = h.kept.second.holds.count in omega arith;
  new_file = h.files.second_new;
  only = λ f left. elim (left_of_two s values.file rows.file f (subst (λ z. IsLeft z f) h.files.is left)) [
    | inl before ↦ inl before
    | inr new ↦ elim new [ inl is ↦ inr (inl (0, omega arith, is)) | inr is ↦ inr (inr is) ]
  ];
  tables = record {
    ts = ts;
    es = map (first_row_entry k) h.firsts;
    xs = h.firsts;
    so_many = refl;
    deep = refl;
    values = record {
      kept = subst (λ base. ListKept base (value_read k) k values (map value_record (map (λ r. r.x) h.firsts)) b) (sym worked.work.base)
          (subst (λ xs. ListKept s.base (value_read k) k values xs b) (values_as_records h.firsts) h.kept.first);
      sealed = h.values_sealed;
      left = subst (λ z. IsLeft z values.file) (sym h.files.is) (first_left s values.file rows.file);
      earlier = let first = h.files.first_number in let second = h.files.second_number in omega arith;
      apart = two_apart s values.file rows.file b (subst (λ z. StandsOn z b) h.files.is stand);
    };
    pairs = λ m less. absurd (omega arith);
    kept = subst (λ base. ListKept base (first_read k) (first_width k) rows h.firsts b) (sym worked.work.base) h.kept.second;
    as_long = sym h.kept.second.holds.count ∙ sym (length-map h.firsts first_value) ∙ h.kept.first.holds.count;
    tied = refl;
    first = sym h.kept.first.holds.count ∙ length-map h.firsts first_value ∙ h.table.count;
    few = λ m low high. absurd (omega arith);
    made = λ told. (first_table_is_made ts id k (map (first_row_entry k) h.firsts) h.table.table h.table.rise, first_table_is_right ts id k (map (first_row_entry k) h.firsts) h.table.table, h.table.rise);
  };
} where
  ts : TableLists
  ts = record { values = map (λ (r : First). r.x) h.firsts; pairs = []; last = [] }

  stand : StandsOn u b
  stand = worked.work.stands stands

  two : u.made ≡ s.made + 2
  two = worked.made

-- table 1 has entries
pub some_rows : (id : List ℕ) (k : ℕ) (s u : ScratchState) (values rows : ListPages) (a b : View) → AreFirstMade id k s u values rows a b → 0 < rows.count
some_rows id k s u values rows a b h =
    let some : 0 < 2 ^ k = pow_pos k in
    let count = h.table.count in
    let held = h.kept.second.holds.count in
    omega arith

-- ---- what fits the records

pub row_fits : (k t : ℕ) (draft : Draft) → IsPairDraft k t (2 ^ (k + 1)) draft → RowFits k t (draft_row t draft)
row_fits k t draft h = (h.y, h.low, h.meta, h.left, h.right)

pub number_fits : (k : ℕ) (draft : Draft) → IsRecordSize k → IsPairDraft k 7 (2 ^ (k + 1)) draft → NumberFits k (draft_number draft)
number_fits k draft size h =
    let least = size.0 in
    let up : 2 ^ (k + 6) ≤ 2 ^ (2 * k + 2) = pow-le-pow_right {n = 2} (omega arith) (omega arith) in
    let y = h.y in
    omega arith

-- ---- tables behind others

first_number : (made number after n : ℕ) → number + 1 ≡ after → after ≡ made + 2 * suc n → made ≤ number
first_number made number after n last two = omega arith

all_many : (many n m : ℕ) → many + 2 * n ≡ 2 * m → 2 * suc n + many ≡ 2 * suc m
all_many many n m so_many = omega arith

few_all : (many n m : ℕ) → many + 2 * n ≡ 2 * m → m ≤ 6 → 2 * suc n + many ≤ 40
few_all many n m so_many high = omega arith

room_all : (made many n m : ℕ) → many + 2 * n ≡ 2 * m → m ≤ 6 → made ≤ 9960 → made + (2 * suc n + many) ≤ 10000
room_all made many n m so_many high room = omega arith

-- why no table of the id was made behind others
tables_cause : {R : Type 0} (f : ForwardFault) (id : List ℕ) (k c n most : ℕ) (tie : List Entry → List R → Type 0) (read : List Bool → R) (w : ℕ) (s t u : ScratchState) (lists : TablesState) (rows : ListPages) (a b d : View)
    → s.made ≤ rows.number → HasEnded {X = Unit {0}} Work most s.made Nothing (Err f) s u a d → HasTablesTo id k c n tie read w s t lists rows a b → IsMoreCause k c n tie read w rows t u b f → IsForwardCause id k c s u a d f
tables_cause (TableFull table) id k c n most tie read w s t u lists rows a b d above ended p h = λ told. h id lists p.tables (p.worked.done.kept.tells ∙ told)
tables_cause (Work DiskFailed) id k c n most tie read w s t u lists rows a b d above ended p h = ended.failed refl
tables_cause (Work (Exists file)) id k c n most tie read w s t u lists rows a b d above ended p h = ended.exists file refl
tables_cause (Work (Scratch damage)) id k c n most tie read w s t u lists rows a b d above ended p h =
    (order_from k s.made rows.number u.made damage above h.0, λ told. h.1 id lists p.tables (p.worked.done.kept.tells ∙ told))
tables_cause (Work Memory) id k c n most tie read w s t u lists rows a b d above ended p h = tt

-- with more files allowed
pub tables_wider : (f : ForwardFault) (id : List ℕ) (k c most all : ℕ) (s u : ScratchState) (a b : View) → most ≤ all → IsTablesFault id k c most s u a b f → IsTablesFault id k c all s u a b f
tables_wider f id k c most all s u a b within h = record { ended = ended_turned {X = Unit {0}} {Y = Unit {0}} Work most all s.made Nothing f s u a b within h.ended; cause = h.cause }

-- the module's arguments: the tables up to level n were made
module _ {R : Type 0} (id : List ℕ) (k c n : ℕ) (tie : List Entry → List R → Type 0) (read : List Bool → R) (w : ℕ) (s t u : ScratchState) (rows : ListPages) (lists : TablesState) (a b d : View)
    (room : s.made ≤ 9960) (p : HasTablesTo id k c n tie read w s t lists rows a b) where
  rows_above : s.made ≤ rows.number
  rows_above = first_number s.made rows.number t.made n p.last.last p.worked.made

  abbrev new_rows : (f : ℕ) → a.is_live f ≡ true → f ≡ rows.file → Nothing f
  new_rows f live is = false≢true (sym p.new_file ∙ ap a.is_live (sym is) ∙ live)

  pub tables_refused : (f : ForwardFault) (most all : ℕ) → 2 * suc n + most ≡ all → all ≤ 40 → IsMoreFault k c n most tie read w rows t u b d f → IsTablesFault id k c all s u a d f
  tables_refused f most all sum few h =
      let ended : HasEnded {X = Unit {0}} Work (2 * suc n + most) s.made Nothing (Err f) s u a d =
      ended_behind (2 * suc n) most s.made rows.number Nothing (Just rows.file) s t u a b d rows_above (subst (λ z. z ≤ 40) (sym sum) few) (subst (λ z. s.made + z ≤ 10000) (sym sum) (let low = room in omega arith))
      new_rows (λ f live x. absurd x) p.worked Work (Err f) h.ended in
      subst (λ z. IsTablesFault id k c z s u a d f) sum (record { ended = ended; cause = tables_cause f id k c n (2 * suc n + most) tie read w s t u lists rows a b d rows_above ended p h.cause })

  pub tables_further : {S : Type 0} (m : ℕ) (next_tie : List Entry → List S → Type 0) (next_read : List Bool → S) (x : ℕ) (next : ListPages) (others : TablesState) → c ≤ 2 ^ (k + 1) → m ≤ 6
      → HasMoreTables k c n m tie read w next_tie next_read x t u rows others next b d → HasTablesTo id k c m next_tie next_read x s u (lists ++ others) next a d
  tables_further m next_tie next_read x next others within high q = record {
    worked = subst (λ z. HasWorked z s.made Nothing s u a d) (all_many q.many n m q.so_many)
        (worked_behind (2 * suc n) q.many s.made rows.number Nothing (Just rows.file) s t u a b d rows_above (few_all q.many n m q.so_many high) (room_all s.made q.many n m q.so_many high room) new_rows (λ f live x. absurd x) p.worked q.worked);
    last = q.last;
    few = let few = q.few in omega arith;
    new_file = not_live (cases_Bool (a.is_live next.file));
    only = λ f left. elim (q.only f left) [
      | inl before ↦ elim (p.only f before.1) [
        | inl old ↦ inl old
        | inr new ↦ elim new [ inl list ↦ inr (inl (file_of_left lists others f list)) | inr is ↦ absurd (before.0 is) ]
      ]
      | inr new ↦ elim new [ inl list ↦ inr (inl (file_of_right lists others f list)) | inr is ↦ inr (inr is) ]
    ];
    tables = q.tables id lists p.tables;
  } where
    not_live : (a.is_live next.file ≡ true) ⊎ (a.is_live next.file ≡ false) → a.is_live next.file ≡ false
    not_live (inr dead) = dead
    not_live (inl live) =
        let same : next.file ≡ rows.file = q.new_file (p.worked.done.kept.live next.file live (λ z. z)) in
        absurd (false≢true (sym p.new_file ∙ ap a.is_live (sym same) ∙ live))

-- ---- all seven

module _ (id : List ℕ) (k c : ℕ) (s u : ScratchState) (v p2 p3 p4 p5 p6 p7 last : ListPages) (a d : View)
    (h : HasTablesTo id k c 6 (AreDraftedAs k 7 draft_number) (number_read k) (number_width k) s u (v ∷ p2 ∷ p3 ∷ p4 ∷ p5 ∷ p6 ∷ p7 ∷ []) last a d) where
  abbrev lists : TablesState
  lists = v ∷ p2 ∷ p3 ∷ p4 ∷ p5 ∷ p6 ∷ p7 ∷ []

  abbrev all : TablesState
  all = v ∷ p2 ∷ p3 ∷ p4 ∷ p5 ∷ p6 ∷ p7 ∷ last ∷ []

  -- the lists with the y of table 7
  abbrev ts : TableLists
  ts = record h.tables.ts { last = map (λ (e : Entry). e.y) h.tables.es }

  same_at : (n : ℕ) → n ≤ 6 → pages_at all n ≡ pages_at lists n
  same_at n few = at_before lists last n (omega arith)

  same_pairs : (n : ℕ) → pairs_of h.tables.ts (suc n) ≡ pairs_of ts (suc n)
  unfolding pairs_of
  same_pairs n = refl

  level_stands : (n : ℕ) → n ≤ 6 → StandsSealed (level_width k n) (pages_at all n) d
  level_stands zero few = record { stands = h.tables.values.kept.stands; sealed = h.tables.values.sealed }
  level_stands (suc n) few =
      let list = h.tables.pairs n few in
      subst (λ z. StandsSealed (pair_width k) z d) (sym (same_at (suc n) few)) (record { stands = list.kept.stands; sealed = list.sealed })

  level_holds : (n : ℕ) → n ≤ 5 → ListHolds (pair_read k) (pair_width k) (pages_at all (suc n)) (map pair_record (pairs_of ts (suc n))) d
  level_holds n few =
      let list = h.tables.pairs n (omega arith) in
      subst (λ z. ListHolds (pair_read k) (pair_width k) z (map pair_record (pairs_of ts (suc n))) d) (sym (same_at (suc n) (omega arith)))
      (subst (λ ps. ListHolds (pair_read k) (pair_width k) (pages_at lists (suc n)) (map pair_record ps) d) (same_pairs n) list.kept.holds)

  last_numbers : h.tables.xs ≡ map number_record (map (λ (e : Entry). e.y) h.tables.es)
  last_numbers =
      let drafts = h.tables.tied.drafts in
      let ys : map (λ (e : Entry). e.y) h.tables.es ≡ map (λ (z : Draft). z.y) drafts = ap (map (λ (e : Entry). e.y)) h.tables.tied.entries ∙ map-map (λ (e : Entry). e.y) (draft_entry k 7) drafts in
      h.tables.tied.kept_as ∙ sym (map-map number_record (λ (z : Draft). z.y) drafts) ∙ ap (map number_record) (sym ys)

  stand : TablesStand k all ts d
  stand = record {
    eight = refl;
    six = h.tables.deep;
    as_long = h.tables.as_long;
    levels = level_stands;
    last = record { stands = h.tables.kept.stands; sealed = h.last.sealed };
    values = h.tables.values.kept.holds;
    pairs = level_holds;
    numbers = subst (λ xs. ListHolds (number_read k) (number_width k) last xs d) last_numbers h.tables.kept.holds;
  }

  seven_tables : (ts : TableLists) × TablesStand k all ts d × (d.tells ≡ true → Describes ts id k)
  seven_tables = (ts, stand, λ told. let made = h.tables.made told in made_tables_describe h.tables.ts id k h.tables.es (map (λ (e : Entry). e.y) h.tables.es) h.tables.deep made.0 made.1 refl)

  left_at : (n : ℕ) → n ≤ 6 → IsLeft u (pages_at lists n).file
  left_at zero few = h.tables.values.left
  left_at (suc n) few = (h.tables.pairs n few).left

  seven_left : (file : ℕ) → IsTablesFile all file → IsLeft u file
  seven_left file (n, few, is) = elim (cases_lt n 7) [
    | inl less ↦ subst (IsLeft u) (ap (λ (z : ListPages). z.file) (sym (same_at n (omega arith))) ∙ sym is) (left_at n (omega arith))
    | inr more ↦ let seven : n ≡ 7 = omega arith in subst (IsLeft u) (ap (λ (i : ℕ). (pages_at all i).file) (sym seven) ∙ sym is) h.last.left
  ]

  seven_only : (file : ℕ) → IsLeft u file → IsLeft s file ⊎ IsTablesFile all file
  seven_only file left = elim (h.only file left) [
    | inl before ↦ inl before
    | inr new ↦ elim new [
      | inl list ↦ inr (list.0, (let less = list.1 in omega arith), list.2 ∙ ap (λ (z : ListPages). z.file) (sym (same_at list.0 (let less = list.1 in omega arith))))
      | inr is ↦ inr (7, omega arith, is)
    ]
  ]

  seven_first : (pages_at all 0).count ≡ 2 ^ k
  seven_first = ap (λ (z : ListPages). z.count) (same_at 0 (omega arith)) ∙ h.tables.first

  seven_within : (n : ℕ) → 0 < n → n ≤ 6 → (pages_at all n).count ≤ c
  seven_within n low high = subst (λ (z : ListPages). z.count ≤ c) (sym (same_at n high)) (h.tables.few n low high)

  seven_none_above : d.tells ≡ true → (n : ℕ) → 0 < n → n ≤ 6 → IsAbove id k n c → ⊥
  seven_none_above told n low high above =
      let made = (h.tables.made told).0 in
      let es = made.made n high in
      let few = level_count id k c 6 (AreDraftedAs k 7 draft_number) (number_read k) (number_width k) u lists last d h.tables n low high in
      none_is_above h.tables.ts id k n c es.0 es.1 (let e = (es.1).one_each in omega arith) above

  -- all of them
  pub seven_all : AreSevenTables id k c s u all a d
  seven_all = record {
    tables = seven_tables;
    made = h.worked.made;
    left = seven_left;
    only = seven_only;
    first = seven_first;
    within = seven_within;
    none_above = λ told. seven_none_above (h.worked.done.kept.tells ∙ told);
  }

-- ---- eights

pub eights_in_all : (before now p q r t v w : ℕ) → min (before + (p / 8 + (q / 8 + (r / 8 + (t / 8 + (v / 8 + (w / 8 + 0))))))) (2 ^ 64 - 1) ≤ now
    → min (before + (p / 8 + q / 8 + r / 8 + t / 8 + v / 8 + w / 8)) (2 ^ 64 - 1) ≤ now
eights_in_all before now p q r t v w h = omega arith
