-- The filling of a plot file: marks on scratch files and then the lists, over tables that stand or were made before.
use Rattle.std.proofs.Common.{ℕ, ◌+◌, ◌^◌, ◌≤◌, ◌<◌, ◌≡◌, ◌⊎◌, true, false, zero, suc, List, [], ◌++◌, length, length-append, Result, Ok, Err, All, refl, sym, ap, ◌∙◌, subst, inl, inr, arith}
use Rattle.std.specs.Prelude.{IfErr, IsErrOf, IsSome, None}
use Rattle.std.proofs.lemmas.Bool.{cases_Bool, cases_lt, false≢true}
use Rattle.std.proofs.lemmas.List.{length-map}
use Rattle.std.proofs.lemmas.List.Elements.{All-nil}
use Rattle.std.proofs.lemmas.Option.{none-some, same_Some}
use Rattle.pos_edge.specs.View.{View, IsDisk}
use Rattle.pos_edge.specs.Faults.{Rose}
use Rattle.pos_edge.specs.Frame.{ChangesOnly, SameFaults, SameFaultsBut, Nothing, Just, NameOf}
use Rattle.pos_edge.specs.FileSets.{IsOutside}
use Rattle.pos_edge.specs.Calls.{WasThere}
use Rattle.pos_edge.specs.ScratchNames.{ScratchState, scratch_name, fresh_scratch, IsScratchName, IsLeft, StandsOn}
use Rattle.pos_edge.specs.declared.scratch.TheConstants.{MAX_SCRATCH_FILES}
use Rattle.pos_edge.specs.ScratchWork.{IsNameBetween, IsSpared, AreLeftOrGone, IsScratchWork, IsScratchDone}
use Rattle.pos_edge.specs.declared.scratch.ScratchDamage.{ScratchDamage}
use Rattle.pos_edge.specs.declared.scratch.WorkFault.{WorkFault}
use Rattle.pos_edge.specs.declared.scratch.WorkFault.TheVariants.{Exists as ScratchExists, DiskFailed as WorkFailed, Scratch as WorkDamage, Memory as WorkMemory}
use Rattle.pos_edge.proofs.Frames.{frame_none, frame_then, frame_wider, each_then}
use Rattle.pos_edge.proofs.FaultLemmas.{Rose-since, faults_then}
use Rattle.pos_edge.proofs.ScratchFiles.{scratch_name-same, same_number}
use Rattle.pos_edge.proofs.ScratchWorkLemmas.{between_wider, cases_between, done_beside, done_then, name_is_there, spared_beside, spared_then, spared_there, there_before, work_absent, work_beside, work_spares, work_then, work_wider}
use Rattle.pos_forward.specs.declared.faults.ForwardFault.{ForwardFault}
use Rattle.pos_forward.specs.declared.faults.ForwardFault.TheVariants.{TableFull as ForwardFull, Work}
use Rattle.pos_forward.specs.SevenTables.{IsForwardCause}
use Rattle.pos_lists.specs.TableLists.{TableLists, entries, pairs_of, PairsInside}
use Rattle.pos_lists.specs.Trees.{IsInRange}
use Rattle.pos_laws.specs.Making.{IsAbove, IsFull}
use Rattle.pos_laws.specs.PlotOf.{PlotOf}
use Rattle.pos_laws.specs.Tables.{Describes}
use Rattle.pos_layout.specs.declared.layout.Layout.{Layout}
use Rattle.pos_layout.specs.Drafts.{Draft, WriterState, Stands, begun, plot_of, draft_bytes}
use Rattle.pos_layout.specs.Images.{EachImageOf, IsShut}
use Rattle.pos_layout.specs.Fields.{after_memo}
use Rattle.pos_layout.specs.Writing.{IsBegun, IsStanding, WritesOnly, with_tables}
use Rattle.pos_layout.proofs.FileLemmas.{length-columns_for}
use Rattle.pos_layout.proofs.WorksLemmas.{shut_beside, stands_beside, stands_live, stands_shut}
use Rattle.pos_marks.specs.declared.set.Marks.{Marks}
use Rattle.pos_record.specs.Fields.{IsRecordSize}
use Rattle.pos_runs.specs.Runs.{TablesState, TablesStand, IsTablesFile, pages_at, value_record, pair_record}
use Rattle.pos_prune.specs.KeptTables.{KeptStand, MarksStand}
use Rattle.pos_relocate.specs.Passes.{IsOutOfRange, IsPass}
use Rattle.pos_relocate.specs.Relocating.{CanRelocate, AreReady, AreUsed, AreAllUsed}
use Rattle.pos_plot.specs.declared.fault.PlotFault.{PlotFault}
use Rattle.pos_plot.specs.declared.fault.PlotFault.TheVariants.{DiskFailed}
use Rattle.pos_plot.specs.declared.run.TheConstants.{SCRATCH_FILES}
use Rattle.pos_plot.specs.Faults.{of_forward, of_work}
use Rattle.pos_plot.specs.Filling.{CanFill, HasLists, IsFilling, IsFillName, IsPlotFrom}
use Rattle.pos_plot.specs.PlotRuns.{IsFirstThere}
use Rattle.pos_plot.specs.Steps.{IsFill, HasFilled, IsFillCause}

-- ---- the writer while scratch files are made

between_is_scratch : (base : List ℕ) (low high : ℕ) (n : List ℕ) → IsNameBetween base low high n → IsScratchName base n
between_is_scratch base low high n (m, from, to, is) = (m, is)

-- over work on scratch files of a writer that stands, whose file is none of them
module _ (s t : ScratchState) (w : WriterState) (a b : View) (work : IsScratchWork (IsNameBetween s.base s.made (t.made + 1)) Nothing s t a b) (stand : StandsOn s a) (standing : IsStanding w a)
    (apart : IsLeft s w.file → ⊥) (other : (n : List ℕ) → NameOf w.file a n → IsScratchName s.base n → ⊥) where
  kept_scratch : ChangesOnly (IsScratchName s.base) Nothing a b
  kept_scratch = frame_wider (IsScratchName s.base) (IsNameBetween s.base s.made (t.made + 1)) Nothing Nothing a b (λ n x. between_is_scratch s.base s.made (t.made + 1) n x) (λ f l x. x) work.kept

  pub filling_live : a.is_live w.file ≡ true
  filling_live = stands_live w standing.0 a standing.1

  pub filling_stands : (p : Draft) → Stands w p a → Stands w p b
  filling_stands p stands = stands_beside w p (IsScratchName s.base) Nothing a b kept_scratch (λ x. x) other stands

  pub filling_standing : IsStanding w b
  filling_standing = (standing.0, filling_stands standing.0 standing.1)

  pub filling_name : b.name_of w.file ≡ a.name_of w.file
  filling_name = kept_scratch.name w.file filling_live (λ x. x) other

  pub filling_shut : EachImageOf IsShut w.file a b
  filling_shut = shut_beside (IsScratchName s.base) Nothing w.file (draft_bytes standing.0 standing.1.parks) a b kept_scratch other (stands_shut w standing.0 a standing.1)

  pub filling_apart : IsLeft t w.file → ⊥
  filling_apart left = elim (work.left w.file left) [ inl before ↦ apart before | inr dead ↦ false≢true (sym dead ∙ filling_live) ]

  pub filling_other : (n : List ℕ) → NameOf w.file b n → IsScratchName t.base n → ⊥
  filling_other n named scratch = other n (sym filling_name ∙ named) (subst (λ base. IsScratchName base n) work.base scratch)

  -- its file is none of the scratch files that are left
  pub filling_outside : IsDisk b → IsOutside (IsLeft t) (NameOf w.file b) (Just w.file) b
  filling_outside disk = record {
    not_ids = λ f left is. filling_apart (subst (λ g. IsLeft t g) is left);
    not_names = λ f n left named_f named_w. filling_other n named_w (named f n left named_f);
  } where
    named : (f : ℕ) (n : List ℕ) → IsLeft t f → NameOf f b n → IsScratchName t.base n
    named f n (k, x, h, e, is) named_f = elim (cases_Bool b.tells) [
      | inl told ↦ (
        x.number,
        same_Some n (scratch_name t.base x.number) (sym named_f ∙ subst (λ g. NameOf g b (scratch_name t.base x.number)) is
            (subst (λ y. NameOf y.file.0 b (scratch_name t.base y.number)) e ((work.stands stand).named told k x h))),
      )
      | inr silent ↦ let there = (disk.named f n named_f).there in absurd (none-some there.0 (sym (disk.no_contents n silent) ∙ there.1))
    ]

  -- the work as a part of the filling
  pub filling_work : IsScratchWork (IsFillName s.base s.made (t.made + 1) w.file a) (Just w.file) s t a b
  filling_work = work_wider (IsFillName s.base s.made (t.made + 1) w.file a) (IsNameBetween s.base s.made (t.made + 1)) (Just w.file) Nothing s t a b (λ n x. inr x) (λ f l x. absurd x) work

  -- ---- the lists, which are written to the plot file alone

  module _ (c : View) (writes : WritesOnly w.file b c) where
    written_work : IsScratchWork (NameOf w.file b) (Just w.file) t t b c
    written_work = work_beside (NameOf w.file b) (Just w.file) t b c writes.kept.frame writes.ids (λ stands m from few named. filling_other (scratch_name t.base m) named (m, refl))

    pub whole_work : IsScratchWork (IsFillName s.base s.made (t.made + 1) w.file a) (Just w.file) s t a c
    whole_work = work_then (IsFillName s.base s.made (t.made + 1) w.file a) (IsNameBetween s.base s.made (t.made + 1)) (NameOf w.file b) (Just w.file) Nothing (Just w.file) s t t a b c
        (λ n x. inr x) (λ n x. inl (sym filling_name ∙ x)) (λ f l x. absurd x) (λ f l x. x) (λ f l x. absurd x) work.most work written_work

    pub whole_images : EachImageOf IsShut w.file a c
    whole_images n is = each_then n IsShut (NameOf w.file b) (Just w.file) a b c writes.kept.frame (filling_shut n is) (writes.images n (filling_name ∙ is))

    pub whole_name : c.name_of w.file ≡ a.name_of w.file
    whole_name = writes.kept.name ∙ filling_name

    pub whole_done : IsDisk b → IsScratchDone (IsNameBetween s.base s.made t.made) Nothing s t a b → IsScratchDone (IsFillName s.base s.made t.made w.file a) (Just w.file) s t a c
    whole_done disk done = done_then (IsFillName s.base s.made t.made w.file a) (IsNameBetween s.base s.made t.made) (NameOf w.file b) (Just w.file) Nothing (Just w.file) s t t a b c
        (λ n x. inr x) (λ n x. inl (sym filling_name ∙ x)) (λ f l x. absurd x) (λ f l x. x) work.base (λ m from to x. absurd (omega arith)) done
        (done_beside (NameOf w.file b) (Just w.file) t b c writes.kept.frame (λ n is none. name_is_there w.file n b disk is none))

-- ---- the tables and the marks

-- a level has as many entries as its list has records
entries_counted : (k : ℕ) (t : TablesState) (ts : TableLists) (v : View) (n : ℕ) → n ≤ 6 → TablesStand k t ts v → entries ts n ≡ (pages_at t n).count
unfolding entries
entries_counted k t ts v zero few h = sym (length-map ts.values value_record) ∙ h.values.count
entries_counted k t ts v (suc n) few h = sym (length-map (pairs_of ts (suc n)) pair_record) ∙ (h.pairs n (omega arith)).count

-- the writer's file is none of the tables' and marks', which are scratch files that are left
pub can_relocate : (k : ℕ) (s : ScratchState) (t : TablesState) (m2 m3 m4 m5 m6 : Marks) (ts : TableLists) (w : WriterState) (v : View) → IsRecordSize k
    → ((n : ℕ) → 1 ≤ n → n ≤ 6 → (pages_at t n).count ≤ 2 ^ (k + 1)) → IsStanding w v → IsBegun w.file w.layout k w → IsOutside (IsLeft s) (NameOf w.file v) (Just w.file) v
    → KeptStand k s t m2 m3 m4 m5 m6 ts v → CanRelocate k t m2 m3 m4 m5 m6 w v
can_relocate k s t m2 m3 m4 m5 m6 ts w v size few standing begins outside kept = record {
  size = size;
  stands = (ts, kept.tables);
  few = few;
  standing = standing;
  begun = begins;
  outside = record {
    not_ids = λ f of_table is. outside.not_ids f (kept.left f of_table) is;
    not_names = λ f n of_table named same. outside.not_names f n (kept.left f of_table) named same;
  };
  ready_2 = ready 1 m2 kept.of_table_2 (entries_counted k t ts v 1 (omega arith) kept.tables);
  ready_3 = ready 2 m3 kept.of_table_3 (entries_counted k t ts v 2 (omega arith) kept.tables);
  ready_4 = ready 3 m4 kept.of_table_4 (entries_counted k t ts v 3 (omega arith) kept.tables);
  ready_5 = ready 4 m5 kept.of_table_5 (entries_counted k t ts v 4 (omega arith) kept.tables);
  ready_6 = ready 5 m6 kept.of_table_6 (entries_counted k t ts v 5 (omega arith) kept.tables);
} where
  ready : (level : ℕ) (m : Marks) → MarksStand s m level ts v → entries ts level ≡ (pages_at t level).count → AreReady level m t w.file v
  ready level m marks as_long = record {
    sealed = marks.sealed;
    places = marks.places ∙ as_long;
    marks = (marks.marks.0, marks.marks.1);
    outside = record {
      not_ids = λ f is same. outside.not_ids f (subst (λ g. IsLeft s g) (sym is) marks.left) same;
      not_names = λ f n is named same. outside.not_names f n (subst (λ g. IsLeft s g) (sym is) marks.left) named same;
    };
  }

-- over a disk that tells, the marks are those of the used places
pub all_used : (k : ℕ) (s : ScratchState) (t : TablesState) (m2 m3 m4 m5 m6 : Marks) (ts : TableLists) (v : View) → v.tells ≡ true → KeptStand k s t m2 m3 m4 m5 m6 ts v → AreAllUsed m2 m3 m4 m5 m6 ts v
all_used k s t m2 m3 m4 m5 m6 ts v told kept = record {
  used_2 = used 1 m2 kept.of_table_2;
  used_3 = used 2 m3 kept.of_table_3;
  used_4 = used 3 m4 kept.of_table_4;
  used_5 = used 4 m5 kept.of_table_5;
  used_6 = used 5 m6 kept.of_table_6;
} where
  used : (level : ℕ) (m : Marks) → MarksStand s m level ts v → AreUsed level m ts v
  used level m marks = record { marked = marks.marks.0; stand = marks.marks.1; used = marks.marks.2 told }

-- ---- the answers of the filling from tables

-- the marks were not made
pub not_pruned : {X : Type 0} (k : ℕ) (tables : TablesState) (s t : ScratchState) (w : WriterState) (e : WorkFault) (a b : View) → CanFill k tables s w a
    → IsScratchWork (IsNameBetween s.base s.made (t.made + 1)) Nothing s t a b
    → ((n : ℕ) → e ≡ ScratchExists n → (n ≡ t.made) × WasThere (scratch_name s.base n) a) → (e ≡ WorkFailed → Rose a.faults b.faults) → SameFaultsBut {X = X} WorkFailed (Err e) a b
    → ((d : ScratchDamage) → e ≡ WorkDamage d → IsOutOfRange d × (a.tells ≡ true → ⊥)) → IsFilling {X = X} k tables s t w.file (Err e) a b
not_pruned k tables s t w e a b can work exists failed quiet never = record {
  work = filling_work s t w a b work can.stand can.standing can.apart can.other;
  images = filling_shut s t w a b work can.stand can.standing can.apart can.other;
  exists = λ n is. let same : e ≡ ScratchExists n = cc in exists n same;
  failed = λ is. let same : e ≡ WorkFailed = cc in failed same;
  quiet = quiet;
  range = λ d is. let same : e ≡ WorkDamage d = cc in (never d same).0;
  never = λ d is. let same : e ≡ WorkDamage d = cc in λ ts id stands told describes. (never d same).1 told;
}

-- the lists were written, or not
pub relocated_from : {X : Type 0} (k : ℕ) (tables : TablesState) (s t : ScratchState) (w : WriterState) (r : Result X WorkFault) (a b c : View) → CanFill k tables s w a
    → IsScratchWork (IsNameBetween s.base s.made (t.made + 1)) Nothing s t a b → SameFaults a b → IsPass w.file r b c
    → ((d : ScratchDamage) → IsErrOf r (WorkDamage d) → (ts : TableLists) (id : List ℕ) → TablesStand k tables ts a → a.tells ≡ true → Describes ts id k → ⊥) → IsFilling k tables s t w.file r a c
relocated_from k tables s t w r a b c can work same pass never = record {
  work = whole_work s t w a b work can.stand can.standing can.apart can.other c pass.writes;
  images = whole_images s t w a b work can.stand can.standing can.apart can.other c pass.writes;
  exists = λ n is. absurd (pass.makes_none n is);
  failed = λ is. Rose-since a.faults b.faults c.faults work.kept.faults (pass.failed is);
  quiet = faults_then WorkFailed r a b c same pass.quiet;
  range = pass.range;
  never = never;
}

-- an answer of another type
pub filling_turned : {X Y : Type 0} (k : ℕ) (tables : TablesState) (s t : ScratchState) (file : ℕ) (e : WorkFault) (a b : View) → IsFilling {X = X} k tables s t file (Err e) a b → IsFilling {X = Y} k tables s t file (Err e) a b
filling_turned k tables s t file e a b p = record {
  work = p.work;
  images = p.images;
  exists = λ n is. let same : e ≡ ScratchExists n = cc in p.exists n (ap (λ f. Err f) same);
  failed = λ is. let same : e ≡ WorkFailed = cc in p.failed (ap (λ f. Err f) same);
  quiet = p.quiet;
  range = λ d is. let same : e ≡ WorkDamage d = cc in p.range d (ap (λ f. Err f) same);
  never = λ d is. let same : e ≡ WorkDamage d = cc in p.never d (ap (λ f. Err f) same);
}

-- the pairs of the tables of an id point inside
pub described_inside : (ts : TableLists) (id : List ℕ) (k : ℕ) → Describes ts id k → PairsInside ts 6
described_inside ts id k describes = describes.inside

-- all seven tables of a writer that had none are ended
pub seven_ended : (k : ℕ) (w after : WriterState) (p : Draft) (lists : List (List ℕ)) (b c : View) → IsBegun w.file w.layout k w → Stands w p b → Stands after (with_tables lists p) c → length lists ≡ 7 → length after.columns ≡ 7
seven_ended k w after p lists b c begins before stands seven =
    let none = ap length begins.columns in
    let first = ap length before.keeps.columns ∙ length-columns_for p.layout p.k 1 (after_memo p.memo) p.ended in
    let last = ap length stands.keeps.columns ∙ length-columns_for p.layout p.k 1 (after_memo p.memo) (p.ended ++ lists) in
    omega (arith, none, first, last, seven, length-append p.ended lists)

-- ---- the tables made before

pub fresh_stands : (base : List ℕ) (v : View) → StandsOn (fresh_scratch base) v
fresh_stands base v = record {
  few = omega arith;
  below = All-nil (λ kept. kept.number < 0);
  apart = tt;
  live = All-nil (λ kept. v.is_live kept.file.0 ≡ true);
  named = λ told. All-nil (λ kept. NameOf kept.file.0 v (scratch_name base kept.number));
}

-- a `Scratch` that has made nothing stands, and has nothing left
pub fresh_on : (s : ScratchState) (v : View) → s ≡ fresh_scratch s.base → StandsOn s v
fresh_on s v fresh = subst (λ x. StandsOn x v) (sym fresh) (fresh_stands s.base v)

pub fresh_none : (s : ScratchState) → s ≡ fresh_scratch s.base → s.made ≡ 0
fresh_none s fresh = ap (λ x. x.made) fresh

pub fresh_left : (s : ScratchState) (file : ℕ) → s ≡ fresh_scratch s.base → IsLeft s file → ⊥
fresh_left s file fresh left = none (subst (λ x. IsLeft x file) fresh left)
  where
    none : IsLeft (fresh_scratch s.base) file → ⊥
    none (k, x, h, e, is) = absurd (omega arith)

few_made : (s t : ScratchState) → s ≡ fresh_scratch s.base → t.made ≤ s.made + 40 → t.made ≤ 40
few_made s t fresh most = let none = fresh_none s fresh in omega arith

pub fresh_room : (s : ScratchState) → s ≡ fresh_scratch s.base → s.made ≤ 9960
fresh_room s fresh = let none = fresh_none s fresh in omega arith

-- ---- the causes of faults

-- the first scratch name that was there, of work from none on
first_there : (s t : ScratchState) (n : ℕ) (a b : View) → s ≡ fresh_scratch s.base → IsScratchWork (IsNameBetween s.base s.made (t.made + 1)) Nothing s t a b → n ≡ t.made → WasThere (scratch_name s.base n) a → IsFirstThere s.base n a
first_there s t n a b fresh work is there = record {
  few = let most = few_made s t fresh work.most in omega arith;
  there = there;
  before = λ m less. work_absent (IsNameBetween s.base s.made (t.made + 1)) Nothing s t a b (fresh_on s a fresh) work m (let none = fresh_none s fresh in omega arith) (omega arith);
}

pub forward_cause : (id : List ℕ) (k capacity : ℕ) (s t : ScratchState) (e : ForwardFault) (a b : View) → s ≡ fresh_scratch s.base → IsScratchWork (IsNameBetween s.base s.made (t.made + 1)) Nothing s t a b
    → IsForwardCause id k capacity s t a b e → IsFillCause id k capacity s.base a b (of_forward e)
forward_cause id k capacity s t (ForwardFull m) a b fresh work cause = cause
forward_cause id k capacity s t (Work (ScratchExists n)) a b fresh work cause = first_there s t n a b fresh work cause.0 cause.1
forward_cause id k capacity s t (Work WorkFailed) a b fresh work cause = cause
forward_cause id k capacity s t (Work (WorkDamage d)) a b fresh work cause = (inl cause.0.below, cause.1)
forward_cause id k capacity s t (Work WorkMemory) a b fresh work cause = tt

pub failure_of_forward : (e : ForwardFault) → e ≡ Work WorkFailed → of_forward e ≡ DiskFailed
failure_of_forward e is = ap of_forward is

-- ---- the writer while the tables are made, and then the filling from them

module _ (s t : ScratchState) (w : WriterState) (a b : View) (work : IsScratchWork (IsNameBetween s.base s.made (t.made + 1)) Nothing s t a b) (fresh : s ≡ fresh_scratch s.base) (standing : IsStanding w a)
    (other : (n : List ℕ) → NameOf w.file a n → IsScratchName s.base n → ⊥) where
  first_stand : StandsOn s a
  first_stand = fresh_on s a fresh

  first_apart : IsLeft s w.file → ⊥
  first_apart = fresh_left s w.file fresh

  none_made : s.made ≡ 0
  none_made = fresh_none s fresh

  first_few : t.made ≤ 40
  first_few = few_made s t fresh work.most

  -- a name that was there, but for the file's
  first_spared : (n : List ℕ) → IsSome (a.contents n) → IsSpared n a b
  first_spared = work_spares s t a b first_stand work

  first_name : b.name_of w.file ≡ a.name_of w.file
  first_name = filling_name s t w a b work first_stand standing first_apart other

  first_kept : ChangesOnly (IsScratchName s.base) Nothing a b
  first_kept = kept_scratch s t w a b work first_stand standing first_apart other

  -- the tables were not made
  pub not_forwarded : {X : Type 0} (id : List ℕ) (k capacity : ℕ) (fault : PlotFault) → IsFillCause id k capacity s.base a b fault → SameFaultsBut {X = X} DiskFailed (Err fault) a b
      → IsFill {X = X} id k capacity s.base w.file (Err fault) a b
  not_forwarded id k capacity fault cause quiet = record {
    kept = frame_wider (λ n. NameOf w.file a n ⊎ IsScratchName s.base n) (IsScratchName s.base) (Just w.file) Nothing a b (λ n x. inr x) (λ f l x. absurd x) first_kept;
    spares = λ n other_name there. first_spared n there;
    images = filling_shut s t w a b work first_stand standing first_apart other;
    cause = cause;
    quiet = quiet;
  }

  -- they were
  pub can_fill_from : (k : ℕ) (tables : TablesState) → IsRecordSize k → ((n : ℕ) → 1 ≤ n → n ≤ 6 → (pages_at tables n).count ≤ 2 ^ (k + 1)) → ((file : ℕ) → IsTablesFile tables file → IsLeft t file)
      → (ts : TableLists) × TablesStand k tables ts b × (b.tells ≡ true → PairsInside ts 6) → IsBegun w.file w.layout k w → CanFill k tables t w b
  can_fill_from k tables size counts left stands begins = record {
    size = size;
    few = counts;
    room = let most = first_few in omega arith;
    stand = work.stands first_stand;
    left = left;
    tables_stand = stands;
    begins = begins;
    standing = filling_standing s t w a b work first_stand standing first_apart other;
    apart = filling_apart s t w a b work first_stand standing first_apart other;
    other = filling_other s t w a b work first_stand standing first_apart other;
  }

  module _ (k : ℕ) (tables : TablesState) (u : ScratchState) (c : View) {X : Type 0} (r : Result X WorkFault) (filling : IsFilling k tables t u w.file r b c) where
    abbrev more : List ℕ → Type 0
    more n = IsFillName t.base t.made (u.made + 1) w.file b n

    few_in_all : u.made ≤ 80
    few_in_all = let most = first_few in let next = filling.work.most in omega arith

    -- a name that was there, but for the file's
    still_spared : (n : List ℕ) → (NameOf w.file a n → ⊥) → IsSome (a.contents n) → IsSpared n a c
    still_spared n not_file there =
        let first = first_spared n there in
        let second : IsSpared n b c = elim (cases_between t.base t.made (u.made + 1) n) [
          | inl (m, from, to, is) ↦
              let most = few_in_all in
              let there_then = subst (λ q. IsSome (b.contents q)) is (spared_there n a b first there) in
              subst (λ q. IsSpared q b c) (sym is) (filling.work.spares (work.stands first_stand) m from (omega arith) there_then).0
          | inr outside ↦ spared_beside more (Just w.file) n b c filling.work.kept (λ x. elim x [ inl named ↦ not_file (sym first_name ∙ named) | inr among ↦ outside among ])
        ] in
        spared_then (IsNameBetween s.base s.made (t.made + 1)) more Nothing (Just w.file) n a b c work.kept filling.work.kept first second

    pub fill_kept : ChangesOnly (λ n. NameOf w.file a n ⊎ IsScratchName s.base n) (Just w.file) a c
    fill_kept = frame_then (λ n. NameOf w.file a n ⊎ IsScratchName s.base n) (IsScratchName s.base) more (Just w.file) Nothing (Just w.file) a b c (λ n x. inr x)
        (λ n x. elim x [ inl named ↦ inl (sym first_name ∙ named) | inr among ↦ inr (subst (λ base. IsScratchName base n) work.base (between_is_scratch t.base t.made (u.made + 1) n among)) ])
        (λ f l x. absurd x) (λ f l x. x) first_kept filling.work.kept

    pub filled : {Y : Type 0} (id : List ℕ) (capacity : ℕ) (q : Result Y PlotFault) → IfErr q (IsFillCause id k capacity s.base a c) → SameFaultsBut DiskFailed q a c → IsFill id k capacity s.base w.file q a c
    filled id capacity q cause quiet = record {
      kept = fill_kept;
      spares = still_spared;
      images = λ n is. each_then n IsShut more (Just w.file) a b c filling.work.kept (filling_shut s t w a b work first_stand standing first_apart other n is) (filling.images n (first_name ∙ is));
      cause = cause;
      quiet = quiet;
    }

    -- no name of a number that was made was there at the beginning
    none_before : IsScratchDone (IsNameBetween s.base s.made t.made) Nothing s t a b → (m : ℕ) → m < u.made → a.contents (scratch_name s.base m) ≡ None
    none_before done m less = elim (cases_lt m t.made) [
      | inl early ↦ work_absent (IsNameBetween s.base s.made (t.made + 1)) Nothing s t a b first_stand work m (let none = none_made in omega arith) early
      | inr late ↦
          let most = few_in_all in
          let then_absent : b.contents (scratch_name s.base m) ≡ None =
          subst (λ base. b.contents (scratch_name base m) ≡ None) work.base (work_absent more (Just w.file) t u b c (work.stands first_stand) filling.work m late less) in
          let same : b.contents (scratch_name s.base m) ≡ a.contents (scratch_name s.base m) =
          done.kept.contents (scratch_name s.base m) (λ (i, from, to, is). let e : m ≡ i = scratch_name-same s.base m i (omega arith) (omega arith) is in absurd (omega arith)) in
          sym same ∙ then_absent
    ]

    -- the cause of a refusal, as since the beginning
    pub from_cause : (id : List ℕ) (capacity : ℕ) (e : WorkFault) → r ≡ Err e → IsScratchDone (IsNameBetween s.base s.made t.made) Nothing s t a b
        → ((d : ScratchDamage) → e ≡ WorkDamage d → a.tells ≡ true → ⊥) → IsFillCause id k capacity s.base a c (of_work e)
    from_cause id capacity (ScratchExists n) is done never =
        let x = filling.exists n is in
        let most = few_in_all in record {
          few = omega (arith, x.0);
          there = there_before s.made Nothing s t n a b (omega (arith, x.0)) (omega (arith, x.0, filling.work.more)) work.base done x.1;
          before = λ m less. none_before done m (omega (arith, x.0));
        }
    from_cause id capacity WorkFailed is done never = Rose-since a.faults b.faults c.faults work.kept.faults (filling.failed is)
    from_cause id capacity (WorkDamage d) is done never = (filling.range d is, never d refl)
    from_cause id capacity WorkMemory is done never = tt

    -- all went well
    pub has_filled : (id : List ℕ) (capacity : ℕ) (after : WriterState) → IsScratchDone (IsNameBetween s.base s.made t.made) Nothing s t a b → t.made ≡ s.made + 14 → HasLists k tables t u w after b c
        → (a.tells ≡ true → (m : ℕ) → 0 < m → m ≤ 6 → IsAbove id k m capacity → ⊥)
        → (ts : TableLists) × TablesStand k tables ts b × (b.tells ≡ true → Describes ts id k) → HasFilled id k capacity s.base u w after a c
    has_filled id capacity after done fourteen lists within ts = record {
      file = lists.file;
      ended = lists.ended;
      base_is = filling.work.base ∙ work.base;
      kept = whole.kept;
      name = lists.name ∙ first_name;
      made = all_made;
      absent = λ m less. whole.absent m (let none = none_made in omega arith) less;
      gone = whole.gone none_yet;
      stand = filling.work.stands (work.stands first_stand);
      left = λ f left. elim (filling.work.left f left) [ inl before ↦ first_left f before | inr dead ↦ was_dead f dead (cases_Bool (a.is_live f)) ];
      within = within;
      lists = λ l memo stands.
          let made = lists.lists l memo id (filling_stands s t w a b work first_stand standing first_apart other (begun l memo id k) stands) in
          (made.0, made.1, made.2.layout, made.2.memo_is, λ told. let told_then = work.kept.tells ∙ told in made.2.plot ts.0 ts.1 told_then (ts.2 told_then));
    } where
      all_made : u.made ≡ SCRATCH_FILES
      all_made = let none = none_made in let five = lists.made in omega arith

      none_yet : AreLeftOrGone s a
      none_yet m h = let none = none_made in absurd (omega arith)

      was_dead : (f : ℕ) → b.is_live f ≡ false → (a.is_live f ≡ true) ⊎ (a.is_live f ≡ false) → a.is_live f ≡ false
      was_dead f dead (inl lives) = absurd (false≢true (sym dead ∙ work.kept.live f lives (λ x. x)))
      was_dead f dead (inr not_live) = not_live

      first_left : (f : ℕ) → IsLeft t f → a.is_live f ≡ false
      first_left f left = elim (work.left f left) [ inl before ↦ absurd (fresh_left s f fresh before) | inr dead ↦ dead ]

      whole : IsScratchDone (λ n. NameOf w.file a n ⊎ IsNameBetween s.base 0 u.made n) (Just w.file) s u a c
      whole = done_then (λ n. NameOf w.file a n ⊎ IsNameBetween s.base 0 u.made n) (IsNameBetween s.base s.made t.made) (IsFillName t.base t.made u.made w.file b) (Just w.file) Nothing (Just w.file) s t u a b c
          (λ n x. inr (between_wider s.base s.made t.made 0 u.made n (omega arith) filling.work.more x))
          (λ n x. elim x [ inl named ↦ inl (sym first_name ∙ named) | inr among ↦ inr (subst (λ base. IsNameBetween base 0 u.made n) work.base (between_wider t.base t.made u.made 0 u.made n (omega arith) (omega arith) among)) ])
          (λ f l x. absurd x) (λ f l x. x) work.base
          (λ m from to (i, low, high, is). let most = few_in_all in let e : m ≡ i = scratch_name-same s.base m i (omega arith) (omega arith) is in absurd (omega arith))
          done lists.done
