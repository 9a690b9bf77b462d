-- A table copied park by park, and the tables one by one.
use Rattle.std.proofs.Common.{◌≡◌, ◌⊎◌, ℕ, zero, suc, ◌+◌, ◌*◌, ◌<◌, ◌≤◌, min, List, [], ◌∷◌, ◌++◌, length, Result, Ok, Err, IfOk, refl, sym, ap, ◌∙◌, subst, inl, inr, arith}
use Rattle.std.specs.Prelude.{slice_index_or}
use Rattle.std.proofs.lemmas.Bool.{cases_lt}
use Rattle.std.proofs.lemmas.List.{get_or_append_left, get_or_push, length-append}
use Rattle.pos_edge.specs.View.{View}
use Rattle.pos_edge.specs.declared.scratch.WorkFault.{WorkFault}
use Rattle.pos_layout.specs.declared.damage.Damage.{Damage}
use Rattle.pos_layout.specs.declared.header.Header.{Header}
use Rattle.pos_layout.specs.Drafts.{Draft, Stands, WriterState, begun, table_ended}
use Rattle.pos_layout.specs.Fields.{count_of, header_in, layout_in}
use Rattle.pos_layout.specs.Images.{IsShut}
use Rattle.pos_layout.specs.Layouts.{full_of, park_count, parks_of}
use Rattle.pos_layout.specs.Reading.{read_park}
use Rattle.pos_layout.specs.Writing.{Goes, IsStanding, OpensNext, SameFile, Works, with_numbers}
use Rattle.pos_layout.proofs.WorksLemmas.{with_numbers-append, with_numbers-none}
use Rattle.pos_reader.specs.Plots.{PlotState, IsOpen, IsPlotFile, OnlyReads}
use Rattle.pos_convert.specs.declared.fault.ConvertFault.{ConvertFault}
use Rattle.pos_convert.specs.Faults.{of_work}
use Rattle.pos_convert.specs.Conversions.{IsFileStop, IsSoundPlace, IsTableStop}
use Rattle.pos_convert.specs.Copies.{AreRead, AreSound, HasAdded, HasBegun, HasCopiedPark, HasCopiedTable, HasCopiedTables, IsApart, IsCopying, IsListStop, IsParkDamaged, IsParkStop, filled, least_after}
use Rattle.pos_convert.proofs.SoundLemmas.{least_both, least_none, long_more, park_damaged, park_stop, parks_at, parks_end, parks_none, read_nothing, read_park_more, sound_place}
use Rattle.pos_convert.proofs.CopyingLemmas.{apart_copied, copying_done, copying_none, copying_refused, copying_then, file_copied, goes_read, open_copied, work_copying, work_refused}

-- ---- a park

-- what was added after the park was read
added_from : (p q : PlotState) (t : ℕ) (ns : List ℕ) (next n : ℕ) (w x : WriterState) (a b c : View) → q ≡ p → OnlyReads n a b → HasAdded q t ns next w x b c → HasAdded p t ns next w x a c
added_from p q t ns next n w x a b c same reads h =
    let k : HasAdded p t ns next w x b c = subst (λ (s : PlotState). HasAdded s t ns next w x b c) same h in record {
      sound = k.sound;
      next_is = k.next_is;
      least = k.least;
      columns = k.columns;
      count = k.count;
      goes = goes_read n (with_numbers ns) w x a b c reads k.goes;
    }

pub park_copied : (p q : PlotState) (t park least n : ℕ) (ns : List ℕ) (w x : WriterState) (a b c : View) → q ≡ p → OnlyReads n a b
    → length ns ≡ park_count p.header.layout (count_of p.header t) park → ((bytes : List ℕ) → IsPlotFile p bytes a → read_park (layout_in bytes) bytes t park ≡ Ok ns)
    → HasAdded q t ns least w x b c → HasCopiedPark p t park least w x a c
park_copied p q t park least n ns w x a b c same reads as_many read h = record {
  numbers = ns;
  as_many = as_many;
  reads = read;
  added = added_from p q t ns least n w x a b c same reads h;
}

pub park_answered : (p q : PlotState) (t park n : ℕ) (ns : List ℕ) (w x : WriterState) (r : Result ℕ ConvertFault) (a b c : View) → q ≡ p → OnlyReads n a b
    → length ns ≡ park_count p.header.layout (count_of p.header t) park → ((bytes : List ℕ) → IsPlotFile p bytes a → read_park (layout_in bytes) bytes t park ≡ Ok ns)
    → IfOk r (λ least. HasAdded q t ns least w x b c) → IfOk r (λ least. HasCopiedPark p t park least w x a c)
park_answered p q t park n ns w x (Ok least) a b c same reads as_many read h = park_copied p q t park least n ns w x a b c same reads as_many read h
park_answered p q t park n ns w x (Err e) a b c same reads as_many read h = tt

pub park_stopped : (p q : PlotState) (t park first next : ℕ) (ns bytes : List ℕ) (d : Damage) → q ≡ p → first ≡ full_of p.header.layout * park
    → length ns ≡ park_count p.header.layout (count_of p.header t) park → read_park (layout_in bytes) bytes t park ≡ Ok ns → IsListStop q t first next ns d → IsParkStop p t park next bytes d
park_stopped p q t park first next ns bytes d same at as_many read stop = record {
  numbers = ns;
  read = record { as_many = as_many; reads = read };
  stop = subst (λ (s : PlotState). IsListStop s t (full_of p.header.layout * park) next ns d) same (subst (λ (m : ℕ). IsListStop q t m next ns d) at stop);
}

-- ---- the parks of a table

-- The first parks, so many, were copied.
pub record CopiedSoFar (p q : PlotState) (t c next : ℕ) (before now : WriterState) (old new : View) : Type 0 where
  pub copying : IsCopying p q before now (Ok next) old new
  pub numbers : List ℕ
  pub as_many : length numbers ≡ min (full_of p.header.layout * c) (count_of p.header t)
  pub are_read : AreRead p t numbers old
  pub next_is : next ≡ least_after 0 numbers
  pub least : now.least ≡ next
  pub columns : now.columns ≡ before.columns
  pub count : now.count ≡ length numbers
  pub goes : Goes (with_numbers numbers) before now old new

pub copied_none : (p : PlotState) (t : ℕ) (w : WriterState) (v : View) → IsStanding w v → w.least ≡ 0 → w.count ≡ 0 → CopiedSoFar p p t 0 0 w w v v
copied_none p t w v standing least count = record {
  copying = copying_none p w 0 v standing;
  numbers = [];
  as_many = parks_none p.header.layout (count_of p.header t);
  are_read = read_nothing p t v;
  next_is = least_none 0;
  least = least;
  columns = refl;
  count = count;
  goes = λ d s. subst (λ (e : Draft). Stands w e v) (sym (with_numbers-none d)) s;
}

module _ (p q : PlotState) (t c next : ℕ) (u w : WriterState) (a b : View) (so_far : CopiedSoFar p q t c next u w a b) (standing : IsStanding u a) (is : IsOpen p a) (apart : IsApart p u a) where
  pub copied_standing : IsStanding w b
  copied_standing = (with_numbers so_far.numbers standing.0, so_far.goes standing.0 standing.1)

  pub copied_open : IsOpen q b
  copied_open = open_copied p q u w (Ok next) a b so_far.copying apart is

  pub copied_apart : IsApart q w b
  copied_apart = apart_copied p q u w (Ok next) a b so_far.copying apart

  pub copied_size : u.size ≡ p.header.size → w.size ≡ q.header.size
  copied_size same = so_far.copying.file.size ∙ (same ∙ ap (λ (s : PlotState). s.header.size) (sym so_far.copying.same))

  module _ (there : c < parks_of p.header.layout (count_of p.header t)) where
    so_long : length so_far.numbers ≡ full_of p.header.layout * c
    so_long = so_far.as_many ∙ parks_at p.header.layout (count_of p.header t) c there

    pub copied_park : c < parks_of q.header.layout (count_of q.header t)
    copied_park = subst (λ (s : PlotState). c < parks_of s.header.layout (count_of s.header t)) (sym so_far.copying.same) there

    pub copied_count : w.count ≡ full_of q.header.layout * c
    copied_count = so_far.count ∙ (so_long ∙ ap (λ (s : PlotState). full_of s.header.layout * c) (sym so_far.copying.same))

    pub copied_next : (r : PlotState) (more : ℕ) (x : WriterState) (e : View) → IsCopying q r w x (Ok more) b e → HasCopiedPark q t c more w x b e → CopiedSoFar p r t (c + 1) more u x a e
    copied_next r more x e copying copied = joined (subst (λ (s : PlotState). HasCopiedPark s t c more w x b e) so_far.copying.same copied)
        (λ bytes holds. file_copied p q u w (Ok next) a b so_far.copying apart bytes is holds)
      where
        joined : HasCopiedPark p t c more w x b e → ((bytes : List ℕ) → IsPlotFile p bytes a → IsPlotFile q bytes b) → CopiedSoFar p r t (c + 1) more u x a e
        joined park still =
            let from : w.least ≡ least_after 0 so_far.numbers = so_far.least ∙ so_far.next_is in record {
              copying = copying_then p q r u w x next (Ok more) a b e standing so_far.copying copying;
              numbers = so_far.numbers ++ park.numbers;
              as_many = long_more p.header.layout (count_of p.header t) c so_far.numbers park.numbers so_far.as_many park.as_many;
              are_read = read_park_more p t c so_far.numbers park.numbers a there so_long so_far.are_read park.as_many
                  (λ bytes holds. park.reads bytes (subst (λ (s : PlotState). IsPlotFile s bytes b) so_far.copying.same (still bytes holds)))
                  (subst (λ (m : ℕ). AreSound p t m park.numbers) from park.added.sound);
              next_is = park.added.next_is ∙ (ap (λ m. least_after m park.numbers) from ∙ least_both so_far.numbers park.numbers);
              least = park.added.least;
              columns = park.added.columns ∙ so_far.columns;
              count = park.added.count ∙ (ap (λ m. m + length park.numbers) so_far.count ∙ sym (length-append so_far.numbers park.numbers));
              goes = λ d s. subst (λ (f : Draft). Stands x f e) (with_numbers-append so_far.numbers park.numbers d) (park.added.goes (with_numbers so_far.numbers d) (so_far.goes d s));
            }

    pub copied_damage : (d : Damage) → ((bytes : List ℕ) → IsPlotFile q bytes b → IsParkDamaged t c bytes d ⊎ IsParkStop q t c next bytes d) → (bytes : List ℕ) → IsPlotFile p bytes a → IsTableStop (layout_in bytes) bytes t d
    copied_damage d damage bytes holds = elim (damage bytes (file_copied p q u w (Ok next) a b so_far.copying apart bytes is holds)) [
      | inl damaged ↦ park_damaged p bytes holds.header t c so_far.numbers there so_long so_far.are_read.rise (so_far.are_read.reads bytes holds) d damaged
      | inr stop ↦ park_stop p bytes holds.header t c so_far.numbers there so_long so_far.are_read.rise (so_far.are_read.reads bytes holds) d
          (subst (λ (m : ℕ). IsParkStop p t c m bytes d) so_far.next_is (subst (λ (s : PlotState). IsParkStop s t c next bytes d) so_far.copying.same stop))
    ]

  pub copied_refused : {X Y : Type 0} (r : PlotState) (x : WriterState) (fault : ConvertFault) (result : Result Y ConvertFault) (e : View) → result ≡ Err fault → IsCopying {X = X} q r w x (Err fault) b e
      → IsCopying p r u x result a e
  copied_refused r x fault result e same copying = copying_then p q r u w x next result a b e standing so_far.copying (copying_refused q r w x fault result b e same copying)

  -- the table's end
  pub table_refused : {X Y : Type 0} (f : WorkFault) (x : WriterState) (result : Result Y ConvertFault) (e : View) → result ≡ Err (of_work f) → Works {X = X} IsShut w.file (Err f) b e → SameFile w x → IsCopying p q u x result a e
  table_refused f x result e same works file = copying_then p q q u w x next result a b e standing so_far.copying (work_refused q w x f result b e same works file)

  pub table_copying : {X Y : Type 0} (y : X) (z : Y) (x : WriterState) (e : View) → Works IsShut w.file (Ok y) b e → SameFile w x → IsCopying p q u x (Ok z) a e
  table_copying y z x e works file = copying_then p q q u w x next (Ok z) a b e standing so_far.copying (work_copying q w x y z b e works file)

  pub table_copied : (x : WriterState) (e : View) → parks_of p.header.layout (count_of p.header t) ≤ c → OpensNext w x → Goes table_ended w x b e → HasCopiedTable p t u x a e
  table_copied x e past next goes = record {
    numbers = so_far.numbers;
    as_many = so_far.as_many ∙ parks_end p.header.layout (count_of p.header t) c past;
    are_read = so_far.are_read;
    goes = λ d s. goes (with_numbers so_far.numbers d) (so_far.goes d s);
    next = record { tables = next.tables ∙ ap (λ cs. length cs + 1) so_far.columns; count = next.count; least = next.least };
  }

-- ---- the tables

grown : (P : ℕ → List ℕ → Type 0) (xs : List (List ℕ)) (x : List ℕ) (n : ℕ) → length xs ≡ n → ((j : ℕ) → j < n → P j (slice_index_or xs j [])) → P n x
    → (j : ℕ) → j < n + 1 → P j (slice_index_or (xs ++ x ∷ []) j [])
grown P xs x n long each here j inside = elim (cases_lt j n) [
  | inl less ↦ subst (λ y. P j y) (sym (get_or_append_left xs (x ∷ []) [] j (omega arith))) (each j less)
  | inr more ↦
      let same : n ≡ j = omega arith in
      subst (λ (i : ℕ). P i (slice_index_or (xs ++ x ∷ []) i [])) same (subst (λ y. P n y) (sym (get_or_push xs x [] n long)) here)
]

-- The first tables, so many, were copied.
pub record TablesSoFar (p q : PlotState) (n : ℕ) (before now : WriterState) (old new : View) : Type 0 where
  pub copying : IsCopying p q before now (Ok n) old new
  pub copied : HasCopiedTables p n before now old new

pub tables_none : (p : PlotState) (w : WriterState) (v : View) → HasBegun w v → TablesSoFar p p 0 w w v v
tables_none p w v begins = record {
  copying = copying_none p w 0 v (begun begins.layout begins.memo begins.id begins.k, begins.stands);
  copied = record {
    tables = [];
    are_read = record { as_many = refl; counts = λ j less. absurd (omega arith); each = λ j less. absurd (omega arith) };
    columns = ap length begins.columns;
    count = begins.count;
    least = begins.least;
    stands = λ l memo id k s. s;
  };
}

module _ (p q : PlotState) (n : ℕ) (u w : WriterState) (a b : View) (so_far : TablesSoFar p q n u w a b) (begins : HasBegun u a) (is : IsOpen p a) (apart : IsApart p u a) where
  begun_standing : IsStanding u a
  begun_standing = (begun begins.layout begins.memo begins.id begins.k, begins.stands)

  pub tables_standing : IsStanding w b
  tables_standing = (filled begins.layout begins.memo begins.id begins.k so_far.copied.tables, so_far.copied.stands begins.layout begins.memo begins.id begins.k begins.stands)

  pub tables_open : IsOpen q b
  tables_open = open_copied p q u w (Ok n) a b so_far.copying apart is

  pub tables_apart : IsApart q w b
  tables_apart = apart_copied p q u w (Ok n) a b so_far.copying apart

  pub tables_size : u.size ≡ p.header.size → w.size ≡ q.header.size
  tables_size same = so_far.copying.file.size ∙ (same ∙ ap (λ (s : PlotState). s.header.size) (sym so_far.copying.same))

  still : (bytes : List ℕ) → IsPlotFile p bytes a → IsPlotFile q bytes b
  still bytes holds = file_copied p q u w (Ok n) a b so_far.copying apart bytes is holds

  one_more : suc n ≡ n + 1
  one_more = omega arith

  module _ (t : ℕ) (r : PlotState) (x : WriterState) (e : View) (at : t ≡ n + 1) (copied : HasCopiedTable q t w x b e) where
    abbrev lists : List (List ℕ)
    lists = so_far.copied.tables

    whole_table : HasCopiedTable p (suc n) w x b e
    whole_table = subst (λ (s : PlotState). HasCopiedTable s (suc n) w x b e) so_far.copying.same (subst (λ (m : ℕ). HasCopiedTable q m w x b e) (at ∙ sym one_more) copied)

    from_start : (table : HasCopiedTable p (suc n) w x b e) → AreRead p (suc n) table.numbers a
    from_start table = record {
      rise = table.are_read.rise;
      reads = λ bytes holds. table.are_read.reads bytes (subst (λ (s : PlotState). IsPlotFile s bytes b) so_far.copying.same (still bytes holds));
    }

    joined : (table : HasCopiedTable p (suc n) w x b e) → HasCopiedTables p (n + 1) u x a e
    joined table = record {
      tables = lists ++ table.numbers ∷ [];
      are_read = record {
        as_many = length-append lists (table.numbers ∷ []) ∙ ap (λ m. m + 1) so_far.copied.are_read.as_many;
        counts = grown (λ j ns. length ns ≡ count_of p.header (suc j)) lists table.numbers n so_far.copied.are_read.as_many so_far.copied.are_read.counts table.as_many;
        each = grown (λ j ns. AreRead p (suc j) ns a) lists table.numbers n so_far.copied.are_read.as_many so_far.copied.are_read.each (from_start table);
      };
      columns = table.next.tables ∙ ap (λ m. m + 1) so_far.copied.columns;
      count = table.next.count;
      least = table.next.least;
      stands = λ l memo id k s. table.goes (filled l memo id k lists) (so_far.copied.stands l memo id k s);
    }

    pub tables_next : {X : Type 0} (y : X) → IsCopying q r w x (Ok y) b e → TablesSoFar p r (n + 1) u x a e
    tables_next y copying = record {
      copying = copying_then p q r u w x n (Ok (n + 1)) a b e begun_standing so_far.copying (copying_done q r w x y (n + 1) b e copying);
      copied = joined whole_table;
    }

  pub tables_refused : {X Y : Type 0} (r : PlotState) (x : WriterState) (fault : ConvertFault) (result : Result Y ConvertFault) (e : View) → result ≡ Err fault → IsCopying {X = X} q r w x (Err fault) b e
      → IsCopying p r u x result a e
  tables_refused r x fault result e same copying = copying_then p q r u w x n result a b e begun_standing so_far.copying (copying_refused q r w x fault result b e same copying)

  pub tables_damage : (t : ℕ) (d : Damage) → t ≡ n + 1 → n < 7 → ((bytes : List ℕ) → IsPlotFile q bytes b → IsTableStop (layout_in bytes) bytes t d)
      → (bytes : List ℕ) → IsPlotFile p bytes a → IsFileStop (layout_in bytes) bytes d
  tables_damage t d at few stop bytes holds = record {
    table = t;
    first = omega arith;
    last = omega arith;
    before = sound_before;
    stop = stop bytes (still bytes holds);
  }
    where
      sound_before : (s i : ℕ) → 1 ≤ s → s < t → i < count_of (header_in bytes) s → IsSoundPlace (layout_in bytes) bytes s i
      sound_before zero i some less inside = absurd (omega arith)
      sound_before (suc j) i some less inside =
          let here : j < n = omega arith in
          let numbers : List ℕ = slice_index_or so_far.copied.tables j [] in
          let read = so_far.copied.are_read.each j here in
          let long : length numbers ≡ count_of (header_in bytes) (suc j) = so_far.copied.are_read.counts j here ∙ ap (λ (h : Header). count_of h (suc j)) holds.header in
          sound_place bytes (suc j) numbers read.rise (read.reads bytes holds) i (subst (λ (m : ℕ). i < m) (sym long) inside)
