-- Levels renumbered one after another, and which used entries of sound tables stop this.
use Rattle.std.proofs.Common.{◌≡◌, ◌≢◌, ℕ, zero, suc, ◌+◌, ◌-◌, ◌*◌, ◌/◌, ◌%◌, ◌^◌, ◌<◌, ◌≤◌, ◌⊎◌, Bool, true, nat_lt, List, [], ◌∷◌, ◌++◌, length, slice_index, slice_index_or, sym, refl, ◌∙◌, ap, subst, inl, inr, arith, append-nil, append_assoc, length-append, eq-eqb, ne_eqb}
use Rattle.std.proofs.Math.Pow.{pow_mono}
use Rattle.std.proofs.lemmas.List.{nil_from_length}
use Rattle.std.proofs.Math.Seq.{get_or-append_seam}
use Rattle.std.proofs.lemmas.Nat.{one_shl}
use Rattle.std.proofs.lemmas.Bool.{cases_eq, cases_lt, ltb-true, lt-ltb}
use Rattle.pos_edge.specs.declared.scratch.ScratchDamage.{ScratchDamage}
use Rattle.pos_edge.specs.View.{View}
use Rattle.pos_edge.specs.Frame.{Just, NameOf, Nothing, ReadsOnly, SameFaults}
use Rattle.pos_edge.specs.FileSets.{IsOutside}
use Rattle.pos_lists.specs.TableLists.{TableLists, entries, left_of, right_of, PairsInside}
use Rattle.std.specs.Prelude.{All}
use Rattle.pos_lists.specs.PlotLists.{PlotLists, numbers, count}
use Rattle.pos_lists.specs.Trees.{IsInRange}
use Rattle.pos_lists.specs.Used.{IsUsed, MarksUsed}
use Rattle.pos_lists.specs.Sound.{IsSound}
use Rattle.pos_lists.proofs.UsedLemmas.{used_at_top, used_is_inside, inside_at_top}
use Rattle.pos_laws.specs.Tables.{Describes}
use Rattle.pos_laws.specs.PlotOf.{PlotOf}
use Rattle.pos_laws.specs.Renumbering.{IsLastTable, IsOneToOne, IsRelocated, IsRenumbered, point_at, with_places}
use Rattle.pos_laws.proofs.Relocation.{relocated_is_the_plot, relocated_is_in_range}
use Rattle.pos_laws.proofs.Sound.{described_is_sound}
use Rattle.pos_laws.proofs.Apart.{left_used, pairs_differ, points_differ, right_used, values_are_apart}
use Rattle.pos_laws.proofs.PassLemmas.{nothing_is_renumbered, a_level_is_renumbered, six_passes_relocate}
use Rattle.pos_layout.specs.declared.layout.Layout.{Layout}
use Rattle.pos_layout.specs.Lists.{IsTable}
use Rattle.pos_layout.specs.Drafts.{Draft, WriterState, Stands, begun, plot_of}
use Rattle.pos_layout.specs.Writing.{Goes, IsStanding, OpensNext, SameFile, WritesOnly, with_table, with_tables}
use Rattle.pos_layout.proofs.WorksLemmas.{stands_beside, writes_then}
use Rattle.pos_marks.specs.declared.set.Marks.{Marks}
use Rattle.pos_marks.specs.Marks.{Marked, marks_file}
use Rattle.pos_marks.proofs.MarkLemmas.{marked_beside}
use Rattle.pos_record.specs.Fields.{IsRecordSize}
use Rattle.pos_runs.specs.Runs.{SameTables, TablesState, TablesStand, IsTablesFile, pages_at}
use Rattle.pos_runs.proofs.TablesLemmas.{same_then}
use Rattle.pos_relocate.specs.declared.chosen.Chosen.{Chosen}
use Rattle.pos_relocate.specs.declared.chosen.Chosen.TheVariants.{Each, Those}
use Rattle.pos_relocate.specs.Passes.{AreBelow, IsLastAdded}
use Rattle.pos_relocate.specs.Choosing.{Chooses}
use Rattle.pos_relocate.specs.Gathering.{CanNumber, HavePoints, IsOneNumber, SomeHasNoPoint}
use Rattle.pos_relocate.specs.Levels.{CanRenumber, IsLevelAdded, IsPointTwice}
use Rattle.pos_relocate.specs.Relocating.{AreAllUsed, AreLevelsAdded, AreReady, AreRelocated, CanRelocate, IsEntryTwice, IsNumberedUp, IsSomethingTwice, IsValueTwice, ValuesDiffer}
use Rattle.pos_relocate.proofs.CountLemmas.{relocated_counts}
use Rattle.pos_relocate.proofs.LastTableLemmas.{standing_kept}
use Rattle.pos_relocate.proofs.LevelLemmas.{outside_now}
use Rattle.pos_relocate.proofs.ValuesLemmas.{entries_count}

-- ---- numbers

n_up : (t m : ℕ) → t ≡ m + 2 → t - 1 ≡ suc m
n_up t m is = omega arith

n_down : (t m : ℕ) → t ≡ m + 2 → t - 2 ≡ m
n_down t m is = omega arith

n_least : (t m : ℕ) → t ≡ m + 2 → 2 ≤ t
n_least t m is = omega arith

n_most : (t m : ℕ) → t ≡ m + 2 → m < 6 → t ≤ 7
n_most t m is low = omega arith

n_low : (m : ℕ) → m < 6 → suc m ≤ 6
n_low m low = omega arith

n_some : (m : ℕ) → 1 ≤ suc m
n_some m = omega arith

n_under : (m : ℕ) → m < 6 → m ≤ 6
n_under m low = omega arith

n_never : {X : Type 0} (m : ℕ) → suc m ≡ 0 → X
n_never m e = absurd (omega arith)

n_few : (most long one other bound : ℕ) → most ≡ long → long ≡ one → one ≡ other → other ≤ bound → most ≤ bound
n_few most long one other bound a b c d = omega arith

n_more : (next now m : ℕ) → next ≡ now + 1 → now ≡ m → next ≡ suc m
n_more next now m a b = omega arith

n_open : (next now m : ℕ) → next ≡ now + 1 → now ≡ m → m < 6 → next < 7
n_open next now m a b low = omega arith

lists_grown : (lists : List (List ℕ)) (points : List ℕ) (m : ℕ) → length lists ≡ m → length (lists ++ points ∷ []) ≡ suc m
lists_grown lists points m is = omega (arith, length-append lists (points ∷ []))

-- numbers below their own count
below_grown : (most one other : ℕ) (ns : List ℕ) → most ≡ length ns → one ≡ other → AreBelow one one ns → AreBelow other most ns
below_grown most one other ns is_most is h =
    let long = h.as_long in record { as_long = long ∙ is; below = λ i l. let b = h.below i (omega arith) in omega arith }

-- numbers below a limit, counted by themselves
below_own : (count limit : ℕ) (ns : List ℕ) → AreBelow count limit ns → AreBelow (length ns) limit ns
below_own count limit ns h = let long = h.as_long in record { as_long = refl; below = λ i l. h.below i (omega arith) }

below_wider : (count other limit : ℕ) (ns : List ℕ) → count ≤ limit → count ≡ other → AreBelow count count ns → AreBelow other limit ns
below_wider count other limit ns few is h =
    let long = h.as_long in record { as_long = long ∙ is; below = λ i l. let b = h.below i (omega arith) in omega arith }

exact_self : (n : ℕ) → n ≤ n
exact_self n = omega arith

-- ---- drafts

-- a writer whose open table is empty stands for a draft without numbers in it
no_numbers : (w : WriterState) (p : Draft) (v : View) → w.count ≡ 0 → Stands w p v → p.numbers ≡ []
no_numbers w p v none s = nil_from_length p.numbers (sym s.keeps.count ∙ none)

draft_none : (p : Draft) → p ≡ with_tables [] p
draft_none p = ap (λ e. let d : Draft = record { layout = p.layout; memo = p.memo; id = p.id; k = p.k; ended = e; numbers = p.numbers } in d) (sym (append-nil p.ended))

pub draft_next : (p : Draft) (lists : List (List ℕ)) (points : List ℕ) → p.numbers ≡ [] → with_table points (with_tables lists p) ≡ with_tables (lists ++ points ∷ []) p
draft_next p lists points none =
    let first : with_table points (with_tables lists p) ≡ (let d : Draft = record { layout = p.layout; memo = p.memo; id = p.id; k = p.k; ended = (p.ended ++ lists) ++ points ∷ []; numbers = [] } in d) =
    ap (λ ns. let d : Draft = record { layout = p.layout; memo = p.memo; id = p.id; k = p.k; ended = (p.ended ++ lists) ++ (ns ++ points) ∷ []; numbers = [] } in d) none in
    let second : (let d : Draft = record { layout = p.layout; memo = p.memo; id = p.id; k = p.k; ended = (p.ended ++ lists) ++ points ∷ []; numbers = [] } in d) ≡ (let d : Draft = record { layout = p.layout; memo = p.memo; id = p.id; k = p.k; ended = p.ended ++ (lists ++ points ∷ []); numbers = [] } in d) =
    ap (λ e. let d : Draft = record { layout = p.layout; memo = p.memo; id = p.id; k = p.k; ended = e; numbers = [] } in d) (append_assoc p.ended lists (points ∷ [])) in
    let third : (let d : Draft = record { layout = p.layout; memo = p.memo; id = p.id; k = p.k; ended = p.ended ++ (lists ++ points ∷ []); numbers = [] } in d) ≡ with_tables (lists ++ points ∷ []) p =
    ap (λ ns. let d : Draft = record { layout = p.layout; memo = p.memo; id = p.id; k = p.k; ended = p.ended ++ (lists ++ points ∷ []); numbers = ns } in d) (sym none) in
    first ∙ (second ∙ third)

-- one table more was added to a writer that had none open with numbers in it
pub added_next : (lists : List (List ℕ)) (points : List ℕ) (before after next : WriterState) (a b c : View) → before.count ≡ 0 → Goes (with_tables lists) before after a b → Goes (with_table points) after next b c
    → Goes (with_tables (lists ++ points ∷ [])) before next a c
added_next lists points before after next a b c none first second = λ p s.
    subst (λ (d : Draft). Stands next d c) (draft_next p lists points (no_numbers before p a none s)) (second (with_tables lists p) (first p s))

-- ---- the levels so far

-- levels 1 to m were renumbered, and their tables added; `places` has the numbers of level m, each below a limit
pub record LevelsSoFar (k m limit : ℕ) (m2 m3 m4 m5 m6 : Marks) (places : List ℕ) (old now : TablesState) (before after : WriterState) (a b : View) : Type 0 where
  pub can : CanRelocate k old m2 m3 m4 m5 m6 before a
  pub low : m ≤ 6
  pub writes : WritesOnly before.file a b
  pub faults : SameFaults a b
  pub same : SameTables k old now a b
  pub same_file : SameFile before after
  pub below : AreBelow (pages_at old m).count limit places
  pub limited : limit ≤ 2 ^ (k + 1)
  pub first : m ≡ 0 → limit ≡ 2 ^ k
  pub later : m ≢ 0 → limit ≡ (pages_at old m).count
  pub columns : length after.columns ≡ m
  pub done : AreLevelsAdded k m m2 m3 m4 m5 m6 places old before after a b

values_limited : (k limit : ℕ) → limit ≡ 2 ^ k → limit ≤ 2 ^ (k + 1)
values_limited k limit is =
    let more : k ≤ k + 1 = omega arith in
    let p : 2 ^ k ≤ 2 ^ (k + 1) = pow_mono more in
    omega arith

pub levels_none : (k limit : ℕ) (m2 m3 m4 m5 m6 : Marks) (values : List ℕ) (old now : TablesState) (w : WriterState) (a b : View) → limit ≡ 2 ^ k → CanRelocate k old m2 m3 m4 m5 m6 w a → ReadsOnly a b → SameFaults a b
    → SameTables k old now a b → AreBelow (pages_at old 0).count (2 ^ k) values → ((ts : TableLists) → TablesStand k old ts a → a.tells ≡ true → values ≡ ts.values)
    → LevelsSoFar k 0 limit m2 m3 m4 m5 m6 values old now w w a b
levels_none k limit m2 m3 m4 m5 m6 values old now w a b is can only faults same below known = record {
  can = can;
  low = omega arith;
  writes = standing_kept w a b only can.standing;
  faults = faults;
  same = same;
  same_file = record { file = refl; layout = refl; size = refl };
  below = subst (λ (n : ℕ). AreBelow (pages_at old 0).count n values) (sym is) below;
  limited = values_limited k limit is;
  first = λ e. is;
  later = λ some. absurd (some refl);
  columns = ap length can.begun.columns;
  done = record {
    lists = [];
    as_long = refl;
    added = λ p s. subst (λ (d : Draft). Stands w d b) (draft_none p) (stands_beside w p Nothing Nothing a b only.kept (λ x. x) (λ n is x. x) s);
    empty = record { size_is = can.begun.size_is; tables = let e = ap length can.begun.columns in omega arith; count = can.begun.count; least = can.begun.least };
    numbered = λ ts stands told sound used. record {
      place = λ n. slice_index ts.values;
      levels = nothing_is_renumbered ts;
      apart = λ n l. absurd (omega arith);
      top = ap slice_index (sym (known ts stands told));
      differ = λ some. absurd (omega arith);
    };
  };
}

-- ---- which entries are numbered

-- of level m + 1, at place m
abbrev pub chosen_levels : Marks → Marks → Marks → Marks → Marks → List Chosen
chosen_levels m2 m3 m4 m5 m6 = Those m2 ∷ Those m3 ∷ Those m4 ∷ Those m5 ∷ Those m6 ∷ Each ∷ []

-- each place of level 6 is used
top_marks : (ts : TableLists) → MarksUsed ts 6 (λ i. nat_lt i (entries ts 6))
top_marks ts i = (λ e. used_at_top ts i (ltb-true i (entries ts 6) e), λ u. lt-ltb i (entries ts 6) (inside_at_top ts i u))

-- the new places of a level that is given, and those of the others
given_place : (m : ℕ) (new : ℕ → ℕ) (place : ℕ → ℕ → ℕ) → with_places m new place m ≡ new
given_place m new place = let e = eq-eqb m m refl in rw e refl

other_place : (m n : ℕ) (new : ℕ → ℕ) (place : ℕ → ℕ → ℕ) → n ≢ m → with_places m new place n ≡ place n
other_place m n new place other = let e = ne_eqb n m other in rw e refl

-- at level 0 the numbers are the values
numbers_are_values : (ts : TableLists) (m : ℕ) (kept : List ℕ) (lists : List (List ℕ)) → IsNumberedUp ts m kept lists → m ≡ 0 → (i : ℕ) → slice_index kept i ≡ slice_index ts.values i
numbers_are_values ts m kept lists numbered none i =
    let top : numbered.place 0 ≡ slice_index kept = subst (λ (n : ℕ). numbered.place n ≡ slice_index kept) none numbered.top in
    ap (λ (f : ℕ → ℕ). f i) (sym top) ∙ numbered.levels.values i

-- at level 1 the numbers are values
values_differ : (ts : TableLists) (m : ℕ) (kept : List ℕ) (lists : List (List ℕ)) → IsNumberedUp ts m kept lists → m ≡ 0
    → ((i : ℕ) → IsUsed ts (suc m) i → slice_index kept (left_of ts (suc m) i) ≢ slice_index kept (right_of ts (suc m) i)) → ValuesDiffer ts
values_differ ts m kept lists numbered none differ i used same =
    let value = numbers_are_values ts m kept lists numbered none in
    let there : IsUsed ts (suc m) i = subst (λ (n : ℕ). IsUsed ts (suc n) i) (sym none) used in
    differ i there
    (value (left_of ts (suc m) i)
    ∙ (ap (λ (n : ℕ). slice_index ts.values (left_of ts (suc n) i)) none ∙ (same ∙ (ap (λ (n : ℕ). slice_index ts.values (right_of ts (suc n) i)) (sym none) ∙ sym (value (right_of ts (suc m) i))))))

-- one level more above those that are numbered
numbered_next : (ts : TableLists) (m : ℕ) (kept more : List ℕ) (lists : List (List ℕ)) (points : List ℕ) → IsNumberedUp ts m kept lists
    → IsRenumbered ts m (slice_index kept) (slice_index more) points → IsOneToOne ts (suc m) (slice_index more)
    → ((i : ℕ) → IsUsed ts (suc m) i → slice_index kept (left_of ts (suc m) i) ≢ slice_index kept (right_of ts (suc m) i)) → IsNumberedUp ts (suc m) more (lists ++ points ∷ [])
numbered_next ts m kept more lists points was renumbered apart points_differ =
    let new = slice_index more in
    let place = with_places (suc m) new was.place in record {
      place = place;
      levels = a_level_is_renumbered ts m was.place lists new points was.levels (subst (λ (f : ℕ → ℕ). IsRenumbered ts m f new points) (sym was.top) renumbered);
      apart = λ n l. elim (cases_lt n m) [
        | inl below ↦ subst (λ (f : ℕ → ℕ). IsOneToOne ts (suc n) f) (sym (other_place (suc m) (suc n) new was.place (λ e. absurd (omega arith)))) (was.apart n below)
        | inr up ↦
            let same : m ≡ n = omega arith in
            subst (λ (q : ℕ). IsOneToOne ts (suc q) (place (suc q))) same (subst (λ (f : ℕ → ℕ). IsOneToOne ts (suc m) f) (sym (given_place (suc m) new was.place)) apart)
      ];
      top = given_place (suc m) new was.place;
      differ = λ some. elim (cases_eq m 0) [
        | inl none ↦ values_differ ts m kept lists was none points_differ
        | inr later ↦ was.differ (omega arith)
      ];
    }

-- ---- what each used pair has

-- the numbers of used pairs differ where those of all numbered pairs do
used_differ : (ts : TableLists) (t m : ℕ) (p : ℕ → Bool) (kept : List ℕ) (count : ℕ) → t ≡ m + 2 → suc m ≤ 6 → entries ts (suc m) ≡ count → PairsInside ts 6 → MarksUsed ts (suc m) p → HavePoints ts (t - 2) p kept count
    → (i : ℕ) → IsUsed ts (suc m) i → slice_index kept (left_of ts (suc m) i) ≢ slice_index kept (right_of ts (suc m) i)
used_differ ts t m p kept count is low as_long inside marks have i used =
    let down : t - 2 ≡ m = n_down t m is in
    let there : i < count = subst (λ (n : ℕ). i < n) as_long (used_is_inside ts (suc m) i low inside used) in
    subst (λ (n : ℕ). slice_index kept (left_of ts (suc n) i) ≢ slice_index kept (right_of ts (suc n) i)) down (have i there ((marks i).1 used))

-- ---- what stops it

-- different used places of level m have different numbers, where m is not 0
numbers_apart : (ts : TableLists) (m : ℕ) (kept : List ℕ) (lists : List (List ℕ)) → IsNumberedUp ts m kept lists → m ≢ 0 → IsOneToOne ts m (slice_index kept)
numbers_apart ts m kept lists numbered some =
    let up : suc (m - 1) ≡ m = omega arith in
    let apart : IsOneToOne ts m (numbered.place m) = subst (λ (n : ℕ). IsOneToOne ts n (numbered.place n)) up (numbered.apart (m - 1) (omega arith)) in
    subst (λ (f : ℕ → ℕ). IsOneToOne ts m f) numbered.top apart

-- a used pair whose two places have one number: over sound tables this is of two values
value_twice : (ts : TableLists) (k m i limit number : ℕ) (kept : List ℕ) (lists : List (List ℕ)) (old : TablesState) (damage : ScratchDamage) → IsSound ts k → m < 6 → IsNumberedUp ts m kept lists → IsUsed ts (suc m) i
    → i < entries ts (suc m) → (m ≡ 0 → limit ≡ 2 ^ k) → number ≡ (pages_at old m).number → IsOneNumber ts m i limit number (slice_index kept) damage → IsValueTwice ts k old damage
value_twice ts k m i limit number kept lists old damage sound low numbered used inside first is_number one = elim (cases_eq m 0) [
  | inl none ↦
      let value = numbers_are_values ts m kept lists numbered none in record {
        pair = i;
        used = subst (λ (n : ℕ). IsUsed ts (suc n) i) none used;
        one = record {
          file_is = one.file_is ∙ (is_number ∙ ap (λ n. (pages_at old n).number) none);
          place = one.place ∙ ap (λ n. right_of ts (suc n) i) none;
          found = one.found ∙ value damage.at;
          same = ap (λ n. slice_index ts.values (left_of ts (suc n) i)) (sym none) ∙ (sym (value (left_of ts (suc m) i)) ∙ one.same);
          least = one.least;
          limit = one.limit ∙ first none;
        };
      }
  | inr some ↦
      let apart = numbers_apart ts m kept lists numbered some in
      let same : slice_index kept (left_of ts (suc m) i) ≡ slice_index kept (right_of ts (suc m) i) = one.same ∙ (one.found ∙ ap (slice_index kept) one.place) in
      absurd (sound.differ m i low inside (apart (left_of ts (suc m) i) (right_of ts (suc m) i) (left_used ts m i low used) (right_used ts m i low used) same))
]

-- two used entries of one point
entry_twice : (ts : TableLists) (k m number : ℕ) (p : ℕ → Bool) (kept : List ℕ) (lists : List (List ℕ)) (old : TablesState) (damage : ScratchDamage) → m < 6 → IsNumberedUp ts m kept lists → MarksUsed ts (suc m) p
    → number ≡ (pages_at old (suc m)).number → IsPointTwice ts k m (λ i. p i ≡ true) (slice_index kept) number damage → IsEntryTwice ts k old damage
entry_twice ts k m number p kept lists old damage low numbered marks is_number twice =
    let point = point_at ts m in record {
      n = m;
      low = low;
      place = numbered.place;
      lists = lists;
      below = numbered.levels;
      apart = λ some.
          let up : suc (m - 1) ≡ m = omega arith in
          subst (λ (n : ℕ). IsOneToOne ts n (numbered.place n)) up (numbered.apart (m - 1) (omega arith));
      twice = record {
        other = twice.other;
        differ = twice.differ;
        other_has = (marks twice.other).0 twice.other_has;
        place_has = (marks damage.at).0 twice.place_has;
        inside = twice.inside;
        found = twice.found ∙ ap (λ (f : ℕ → ℕ). point f damage.at) (sym numbered.top);
        same = ap (λ (f : ℕ → ℕ). point f twice.other) numbered.top ∙ twice.same;
        file_is = twice.file_is ∙ is_number;
        least = twice.least;
        limit = twice.limit;
      };
    }

-- a numbered entry of sound tables that has no point
no_point : (ts : TableLists) (k m limit : ℕ) (p : ℕ → Bool) (kept : List ℕ) (lists : List (List ℕ)) (old now : TablesState) (damage : ScratchDamage) → IsSound ts k → m < 6 → IsNumberedUp ts m kept lists → MarksUsed ts (suc m) p
    → length kept ≡ entries ts m → (m ≡ 0 → limit ≡ 2 ^ k) → (pages_at now m).number ≡ (pages_at old m).number → SomeHasNoPoint ts m p limit kept now damage → IsValueTwice ts k old damage
no_point ts k m limit p kept lists old now damage sound low numbered marks long first number h =
    let inside = sound.inside m h.0 low h.1 in
    let left = inside.0 in
    let right = inside.1 in
    elim h.3 [
      | inl outside ↦
          let above = outside.above in
          let limit_is = outside.limit in
          elim outside.found [
            | inl e ↦ absurd (omega arith)
            | inr e ↦ absurd (omega arith)
          ]
      | inr one ↦ value_twice ts k m h.0 limit (pages_at now m).number kept lists old damage sound low numbered ((marks h.0).0 h.2) h.1 first number one
    ]

-- of the tables of an id no two used entries are alike
pub never_twice : (ts : TableLists) (id : List ℕ) (k : ℕ) (old : TablesState) (damage : ScratchDamage) → Describes ts id k → IsSomethingTwice ts k old damage → ⊥
never_twice ts id k old damage described h = elim h [
  | inl value ↦
      let one = value.one in
      pairs_differ ts id k 0 (slice_index ts.values) value.pair described (omega arith) (values_are_apart ts id k described) value.used (one.same ∙ (one.found ∙ ap (slice_index ts.values) one.place))
  | inr entry ↦
      let twice = entry.twice in
      let apart : IsOneToOne ts entry.n (entry.place entry.n) = elim (cases_eq entry.n 0) [
        | inl none ↦
            subst (λ (n : ℕ). IsOneToOne ts n (entry.place n)) (sym none)
            (λ i j u v e. values_are_apart ts id k described i j u v (sym (entry.below.values i) ∙ (e ∙ entry.below.values j)))
        | inr some ↦ entry.apart (omega arith)
      ] in
      points_differ ts id k entry.n (entry.place entry.n) twice.other damage.at described entry.low apart twice.other_has twice.place_has twice.differ (twice.same ∙ twice.found)
]

module _ (k m limit : ℕ) (m2 m3 m4 m5 m6 : Marks) (places : List ℕ) (old now : TablesState) (before after : WriterState) (a b : View)
    (was : LevelsSoFar k m limit m2 m3 m4 m5 m6 places old now before after a b) where
  pub levels_live : a.is_live before.file ≡ true
  levels_live = was.can.standing.1.keeps.file.bytes.live

  pub levels_standing : IsStanding after b
  levels_standing = (with_tables was.done.lists was.can.standing.0, was.done.added was.can.standing.0 was.can.standing.1)

  -- marks stand as before
  marks_now : (level : ℕ) (mk : Marks) → AreReady level mk old before.file a → (p : ℕ → Bool) → Marked mk p a → Chooses (Those mk) (pages_at now level).count p b
  marks_now level mk ready p h = (
    marked_beside mk p (NameOf before.file a) (Just before.file) a b was.writes.kept.frame (ready.outside.not_ids (marks_file mk) refl) (λ n is other. ready.outside.not_names (marks_file mk) n refl is other) h,
    ready.sealed,
    ready.places ∙ sym (was.same.counts level),
  )

  -- the entries of any level are chosen by some test
  chosen_any : (n : ℕ) → n < 6 → (p : ℕ → Bool) × Chooses (slice_index_or (chosen_levels m2 m3 m4 m5 m6) n Each) (pages_at now (suc n)).count p b
  chosen_any zero l = (was.can.ready_2.marks.0, marks_now 1 m2 was.can.ready_2 was.can.ready_2.marks.0 was.can.ready_2.marks.1)
  chosen_any (suc zero) l = (was.can.ready_3.marks.0, marks_now 2 m3 was.can.ready_3 was.can.ready_3.marks.0 was.can.ready_3.marks.1)
  chosen_any (suc (suc zero)) l = (was.can.ready_4.marks.0, marks_now 3 m4 was.can.ready_4 was.can.ready_4.marks.0 was.can.ready_4.marks.1)
  chosen_any (suc (suc (suc zero))) l = (was.can.ready_5.marks.0, marks_now 4 m5 was.can.ready_5 was.can.ready_5.marks.0 was.can.ready_5.marks.1)
  chosen_any (suc (suc (suc (suc zero)))) l = (was.can.ready_6.marks.0, marks_now 5 m6 was.can.ready_6 was.can.ready_6.marks.0 was.can.ready_6.marks.1)
  chosen_any (suc (suc (suc (suc (suc zero))))) l = (λ i. true, λ i j. refl)
  chosen_any (suc (suc (suc (suc (suc (suc n)))))) l = absurd (omega arith)

  -- and where all marks are of used places, by the test of those
  chosen_used : (ts : TableLists) → TablesStand k old ts a → AreAllUsed m2 m3 m4 m5 m6 ts a → (n : ℕ) → n < 6
      → (p : ℕ → Bool) × Chooses (slice_index_or (chosen_levels m2 m3 m4 m5 m6) n Each) (pages_at now (suc n)).count p b × MarksUsed ts (suc n) p
  chosen_used ts stands used zero l = (used.used_2.marked, marks_now 1 m2 was.can.ready_2 used.used_2.marked used.used_2.stand, used.used_2.used)
  chosen_used ts stands used (suc zero) l = (used.used_3.marked, marks_now 2 m3 was.can.ready_3 used.used_3.marked used.used_3.stand, used.used_3.used)
  chosen_used ts stands used (suc (suc zero)) l = (used.used_4.marked, marks_now 3 m4 was.can.ready_4 used.used_4.marked used.used_4.stand, used.used_4.used)
  chosen_used ts stands used (suc (suc (suc zero))) l = (used.used_5.marked, marks_now 4 m5 was.can.ready_5 used.used_5.marked used.used_5.stand, used.used_5.used)
  chosen_used ts stands used (suc (suc (suc (suc zero)))) l = (used.used_6.marked, marks_now 5 m6 was.can.ready_6 used.used_6.marked used.used_6.stand, used.used_6.used)
  chosen_used ts stands used (suc (suc (suc (suc (suc zero))))) l =
      let count = entries_count k old ts a 6 (omega arith) stands ∙ sym (was.same.counts 6) in
      (λ i. nat_lt i (entries ts 6), λ i j. lt-ltb i (entries ts 6) (omega arith), top_marks ts)
  chosen_used ts stands used (suc (suc (suc (suc (suc (suc n)))))) l = absurd (omega arith)

  -- ---- one level more

  -- the next table can be renumbered
  pub levels_can : (t : ℕ) (chosen : Chosen) → t ≡ m + 2 → m < 6 → chosen ≡ slice_index_or (chosen_levels m2 m3 m4 m5 m6) m Each → CanRenumber k t limit chosen places now after b
  levels_can t chosen is low is_chosen =
      let level : suc m ≡ t - 1 = sym (n_up t m is) in
      let few : (pages_at now (suc m)).count ≤ 2 ^ (k + 1) = subst (λ (n : ℕ). n ≤ 2 ^ (k + 1)) (sym (was.same.counts (suc m))) (was.can.few (suc m) (n_some m) (n_low m low)) in
      let any = chosen_any m low in
      record {
        can = record {
          size = was.can.size;
          first = n_least t m is;
          last = n_most t m is low;
          stands = (was.can.stands.0, was.same.stand was.can.stands.0 was.can.stands.1);
          below_limit = below_own (pages_at old m).count limit places was.below;
          limited = was.limited;
          exact = exact_self (limit * (limit - 1) / 2);
        };
        chooses = (
          any.0,
          subst (λ (n : ℕ). Chooses chosen (pages_at now n).count any.0 b) level
              (subst (λ (c : Chosen). Chooses c (pages_at now (suc m)).count any.0 b) (sym is_chosen) any.1),
        );
        few = subst (λ (n : ℕ). (pages_at now n).count ≤ 2 ^ (k + 1)) level few;
        standing = levels_standing;
        empty = was.done.empty;
        outside = subst (λ (f : ℕ). IsOutside (IsTablesFile now) (NameOf f b) (Just f) b) (sym was.same_file.file)
            (outside_now k before.file old now a b b was.same was.writes.ids was.can.outside);
      }

  -- the marks of the next table
  marks_next : (t : ℕ) (chosen : Chosen) (ts : TableLists) → t ≡ m + 2 → m < 6 → chosen ≡ slice_index_or (chosen_levels m2 m3 m4 m5 m6) m Each → TablesStand k old ts a → AreAllUsed m2 m3 m4 m5 m6 ts a
      → (p : ℕ → Bool) × Chooses chosen (pages_at now (t - 1)).count p b × MarksUsed ts (suc m) p
  marks_next t chosen ts is low is_chosen stands used =
      let level : suc m ≡ t - 1 = sym (n_up t m is) in
      let own_marks = chosen_used ts stands used m low in (
        own_marks.0,
        subst (λ (n : ℕ). Chooses chosen (pages_at now n).count own_marks.0 b) level
            (subst (λ (c : Chosen). Chooses c (pages_at now (suc m)).count own_marks.0 b) (sym is_chosen) own_marks.1),
        own_marks.2,
      )

  -- the level was renumbered
  pub levels_next : (t most : ℕ) (chosen : Chosen) (more : List ℕ) (new : TablesState) (next : WriterState) (c : View) → t ≡ m + 2 → m < 6 → chosen ≡ slice_index_or (chosen_levels m2 m3 m4 m5 m6) m Each → most ≡ length more
      → WritesOnly after.file b c → SameFaults b c → SameTables k now new b c → SameFile after next → OpensNext after next
      → AreBelow (pages_at now (t - 1)).count (pages_at now (t - 1)).count more → IsLevelAdded k t chosen places more now after next b c → LevelsSoFar k (suc m) most m2 m3 m4 m5 m6 more old new before next a c
  levels_next t most chosen more new next c is low is_chosen is_most writes faults same same_file opens below level =
      let up : t - 1 ≡ suc m = n_up t m is in
      let count : (pages_at now (t - 1)).count ≡ (pages_at old (suc m)).count = was.same.counts (t - 1) ∙ ap (λ n. (pages_at old n).count) up in
      record {
        can = was.can;
        low = n_low m low;
        writes = writes_then before.file a b c levels_live was.writes (subst (λ (f : ℕ). WritesOnly f b c) was.same_file.file writes);
        faults = faults ∙ was.faults;
        same = same_then k old now new a b c was.same same;
        same_file = record { file = same_file.file ∙ was.same_file.file; layout = same_file.layout ∙ was.same_file.layout; size = same_file.size ∙ was.same_file.size };
        below = below_grown most (pages_at now (t - 1)).count (pages_at old (suc m)).count more is_most count below;
        limited = n_few most (length more) (pages_at now (t - 1)).count (pages_at old (suc m)).count (2 ^ (k + 1)) is_most below.as_long count (was.can.few (suc m) (n_some m) (n_low m low));
        first = n_never m;
        later = λ some. is_most ∙ (below.as_long ∙ count);
        columns = n_more (length next.columns) (length after.columns) m opens.tables was.columns;
        done = record {
          lists = was.done.lists ++ level.points ∷ [];
          as_long = lists_grown was.done.lists level.points m was.done.as_long;
          added = added_next was.done.lists level.points before after next a b c was.can.begun.count was.done.added level.added;
          empty = record { size_is = same_file.size ∙ was.done.empty.size_is; tables = n_open (length next.columns) (length after.columns) m opens.tables was.columns low; count = opens.count; least = opens.least };
          numbered = λ ts stands told sound used.
              let p = marks_next t chosen ts is low is_chosen stands used in
              let both = level.renumbered ts p.0 (was.same.stand ts stands) p.1 (was.writes.kept.frame.tells ∙ told) sound.inside (subst (λ (n : ℕ). MarksUsed ts n p.0) (sym up) p.2) in
              numbered_next ts m places more was.done.lists level.points (was.done.numbered ts stands told sound used)
              (subst (λ (n : ℕ). IsRenumbered ts n (slice_index places) (slice_index more) level.points) (n_down t m is) both.0)
              (subst (λ (n : ℕ). IsOneToOne ts n (slice_index more)) up both.1)
              (used_differ ts t m p.0 places (pages_at now (t - 1)).count is (n_low m low) (entries_count k old ts a (suc m) (n_low m low) stands ∙ sym count) sound.inside p.2
              (level.have_points ts p.0 (was.same.stand ts stands) p.1 (was.writes.kept.frame.tells ∙ told)));
        };
      }

  -- or stopped
  pub levels_stopped : (t : ℕ) (chosen : Chosen) (damage : ScratchDamage) (ts : TableLists) → t ≡ m + 2 → m < 6 → chosen ≡ slice_index_or (chosen_levels m2 m3 m4 m5 m6) m Each
      → ((p : ℕ → Bool) → TablesStand k now ts b → Chooses chosen (pages_at now (t - 1)).count p b → b.tells ≡ true
      → SomeHasNoPoint ts (t - 2) p limit places now damage ⊎ IsPointTwice ts k (t - 2) (λ i. p i ≡ true) (slice_index places) (pages_at now (t - 1)).number damage)
      → TablesStand k old ts a → a.tells ≡ true → IsSound ts k → AreAllUsed m2 m3 m4 m5 m6 ts a → IsSomethingTwice ts k old damage
  levels_stopped t chosen damage ts is low is_chosen stop stands told sound used =
      let up : t - 1 ≡ suc m = n_up t m is in
      let down : t - 2 ≡ m = n_down t m is in
      let p = marks_next t chosen ts is low is_chosen stands used in
      let numbered = was.done.numbered ts stands told sound used in
      let long : length places ≡ entries ts m = was.below.as_long ∙ sym (entries_count k old ts a m (n_under m low) stands) in
      elim (stop p.0 (was.same.stand ts stands) p.1 (was.writes.kept.frame.tells ∙ told)) [
        | inl without ↦
            inl (no_point ts k m limit p.0 places was.done.lists old now damage sound low numbered p.2 long was.first (was.same.numbers m)
            (subst (λ (n : ℕ). SomeHasNoPoint ts n p.0 limit places now damage) down without))
        | inr twice ↦
            inr (entry_twice ts k m (pages_at now (t - 1)).number p.0 places was.done.lists old damage low numbered p.2
            (was.same.numbers (t - 1) ∙ ap (λ n. (pages_at old n).number) up)
            (subst (λ (n : ℕ). IsPointTwice ts k n (λ i. p.0 i ≡ true) (slice_index places) (pages_at now (t - 1)).number damage) down twice))
      ]

-- ---- the turn of the loop

-- what comes next is the entry's choice of the next level
pub turn_next : (m2 m3 m4 m5 m6 : Marks) (given left : List Chosen) (chosen : Chosen) (rest : List Chosen) → given ++ left ≡ chosen_levels m2 m3 m4 m5 m6 → left ≡ chosen ∷ rest
    → (length given < 6) × (chosen ≡ slice_index_or (chosen_levels m2 m3 m4 m5 m6) (length given) Each) × ((given ++ chosen ∷ []) ++ rest ≡ chosen_levels m2 m3 m4 m5 m6)
turn_next m2 m3 m4 m5 m6 given left chosen rest all is =
    let whole : given ++ chosen ∷ rest ≡ chosen_levels m2 m3 m4 m5 m6 = ap (λ (cs : List Chosen). given ++ cs) (sym is) ∙ all in
    let long : length (given ++ chosen ∷ rest) ≡ 6 = ap length whole in (
      omega (arith, length-append given (chosen ∷ rest)),
      sym (get_or-append_seam given chosen rest Each) ∙ ap (λ (cs : List Chosen). slice_index_or cs (length given) Each) whole,
      append_assoc given (chosen ∷ []) rest ∙ whole,
    )

pub turn_grown : (given : List Chosen) (chosen : Chosen) → suc (length given) ≡ length (given ++ chosen ∷ [])
turn_grown given chosen = omega (arith, length-append given (chosen ∷ []))

pub turn_up : (t : ℕ) (given : List Chosen) (chosen : Chosen) → t ≡ length given + 2 → t + 1 ≡ length (given ++ chosen ∷ []) + 2
turn_up t given chosen is = omega (arith, length-append given (chosen ∷ []))

pub turn_fits : (t m : ℕ) → t ≡ m + 2 → m < 6 → t + 1 < 256
turn_fits t m is low = omega arith

pub limit_of_values : (k : ℕ) → k ≤ 50 → 1 * 2 ^ k % 2 ^ 64 ≡ 2 ^ k
limit_of_values k size = one_shl k 64 (omega arith)

pub turn_last : (m2 m3 m4 m5 m6 : Marks) (given left : List Chosen) → given ++ left ≡ chosen_levels m2 m3 m4 m5 m6 → length left ≡ 0 → length given ≡ 6
turn_last m2 m3 m4 m5 m6 given left all none =
    let long : length (given ++ left) ≡ 6 = ap length all in
    omega (arith, length-append given left)

-- ---- the end

pub same_file_then : (before after next : WriterState) → SameFile before after → SameFile after next → SameFile before next
same_file_then before after next p q = record { file = q.file ∙ p.file; layout = q.layout ∙ p.layout; size = q.size ∙ p.size }

n_six : ◌≢◌ {A = ℕ} 6 0
n_six e = absurd (omega arith)

module _ (k limit : ℕ) (m2 m3 m4 m5 m6 : Marks) (places : List ℕ) (old now : TablesState) (before after : WriterState) (a b : View) (given left : List Chosen)
    (all : given ++ left ≡ chosen_levels m2 m3 m4 m5 m6) (none : length left ≡ 0) (was : LevelsSoFar k (length given) limit m2 m3 m4 m5 m6 places old now before after a b) where
  all_levels : LevelsSoFar k 6 limit m2 m3 m4 m5 m6 places old now before after a b
  all_levels = subst (λ (m : ℕ). LevelsSoFar k m limit m2 m3 m4 m5 m6 places old now before after a b) (turn_last m2 m3 m4 m5 m6 given left all none) was

  pub levels_below : AreBelow (pages_at old 6).count (pages_at old 6).count places
  levels_below = subst (λ (n : ℕ). AreBelow (pages_at old 6).count n places) (all_levels.later n_six) all_levels.below

  pub levels_done : AreLevelsAdded k 6 m2 m3 m4 m5 m6 places old before after a b
  levels_done = all_levels.done

-- ---- the plot of an id

sixth_is_short : (id : List ℕ) (k : ℕ) (lists : List (List ℕ)) → length lists ≡ 7 → All (IsTable k) lists → count (record { id = id; k = k; tables = lists }) 6 ≤ 2 ^ (k + 1)
unfolding numbers
sixth_is_short id k lists seven all = (all 5 [] (omega arith)).few

-- what a writer stands for that had nothing, after relocation of the tables of an id, is the plot of the id
relocated_plot : (l : Layout) (memo id : List ℕ) (k : ℕ) (w : WriterState) (lists : List (List ℕ)) (ts : TableLists) (place : ℕ → ℕ → ℕ) (v : View)
    → Stands w (with_tables lists (begun l memo id k)) v → length lists ≡ 7 → Describes ts id k → IsRelocated ts (plot_of (with_tables lists (begun l memo id k))) place
    → PlotOf (plot_of (with_tables lists (begun l memo id k))) id k × IsInRange (plot_of (with_tables lists (begun l memo id k)))
relocated_plot l memo id k w lists ts place v stands seven describes is =
    let p = plot_of (with_tables lists (begun l memo id k)) in
    let few : count p 6 ≤ 2 ^ (k + 1) = sixth_is_short id k lists seven stands.keeps.draft.ended in
    (relocated_is_the_plot ts id k p place describes is refl refl seven, relocated_is_in_range ts id k p place describes is refl few)

-- the tables of the file, where table 7 followed
pub relocated : (k : ℕ) (m2 m3 m4 m5 m6 : Marks) (places : List ℕ) (old now : TablesState) (before after next : WriterState) (a b c : View) → (pages_at old 6).count ≤ 2 ^ (k + 1) → before.count ≡ 0 → WritesOnly before.file a b → SameTables k old now a b
    → AreLevelsAdded k 6 m2 m3 m4 m5 m6 places old before after a b → IsLastAdded k places now after next b c → AreRelocated k old m2 m3 m4 m5 m6 before next a c
relocated k m2 m3 m4 m5 m6 places old now before after next a b c few none writes same levels last = record {
  lists = lists;
  seven = seven;
  added = added;
  relocated = made;
  differ = λ ts stands told sound used. (levels.numbered ts stands told sound used).differ (omega arith);
  counts = λ ts p stands told sound used size are.
      let r = made ts p stands told sound used size are in
      relocated_counts ts p r.0 r.1 (r.2 5 (omega arith))
      (subst (λ (n : ℕ). entries ts 6 ≤ 2 ^ (n + 1)) (sym size) (subst (λ (n : ℕ). n ≤ 2 ^ (k + 1)) (sym (entries_count k old ts a 6 (omega arith) stands)) few));
  plot = λ ts id l memo stands told described used empty.
      let r = made ts (plot_of (with_tables lists (begun l memo id k))) stands told (described_is_sound ts id k described) used refl refl in
      relocated_plot l memo id k next lists ts r.0 c (added (begun l memo id k) empty) seven described r.1;
} where
  lists : List (List ℕ)
  lists = levels.lists ++ last.lasts ∷ []

  seven : length lists ≡ 7
  seven = lists_grown levels.lists last.lasts 6 levels.as_long

  added : Goes (with_tables lists) before next a c
  added = added_next levels.lists last.lasts before after next a b c none levels.added last.added

  made : (ts : TableLists) (p : PlotLists) → TablesStand k old ts a → a.tells ≡ true → IsSound ts k → AreAllUsed m2 m3 m4 m5 m6 ts a
      → p.k ≡ k → p.tables ≡ lists → (place : ℕ → ℕ → ℕ) × IsRelocated ts p place × ((n : ℕ) → n < 6 → IsOneToOne ts (suc n) (place (suc n)))
  made ts p stands told sound used size are =
      let numbered = levels.numbered ts stands told sound used in
      let seventh = last.seventh ts (same.stand ts stands) (writes.kept.frame.tells ∙ told) sound in (
        numbered.place,
        six_passes_relocate ts p numbered.place levels.lists last.lasts numbered.levels
            (subst (λ (n : ℕ). IsLastTable ts n (numbered.place 6) last.lasts) (sym size) (subst (λ (f : ℕ → ℕ). IsLastTable ts k f last.lasts) (sym numbered.top) seventh)) are,
        numbered.apart,
      )

-- table 7 can be numbered
pub last_can : (k : ℕ) (places : List ℕ) (old now : TablesState) (a b : View) → IsRecordSize k → (ts : TableLists) × TablesStand k old ts a → (pages_at old 6).count ≤ 2 ^ (k + 1) → SameTables k old now a b
    → AreBelow (pages_at old 6).count (pages_at old 6).count places → CanNumber k (2 ^ (2 * k + 1)) places now b
last_can k places old now a b size stands few same below = record {
  size = size;
  stands = (stands.0, same.stand stands.0 stands.1);
  places_below = below_wider (pages_at old 6).count (pages_at now 7).count (2 ^ (k + 1)) places few (sym (same.counts 7 ∙ stands.1.as_long)) below;
  exact = exact_self (2 ^ (2 * k + 1));
}

pub last_few : (k : ℕ) (old now : TablesState) (a b : View) → (ts : TableLists) × TablesStand k old ts a → (pages_at old 6).count ≤ 2 ^ (k + 1) → SameTables k old now a b → (pages_at now 7).count ≤ 2 ^ (k + 1)
last_few k old now a b stands few same = subst (λ (n : ℕ). n ≤ 2 ^ (k + 1)) (sym (same.counts 7 ∙ stands.1.as_long)) few

pub six_few : (k : ℕ) (m2 m3 m4 m5 m6 : Marks) (old : TablesState) (w : WriterState) (a : View) → CanRelocate k old m2 m3 m4 m5 m6 w a → (pages_at old 6).count ≤ 2 ^ (k + 1)
six_few k m2 m3 m4 m5 m6 old w a can = can.few 6 (omega arith) (omega arith)

pub added_stands : (lists : List (List ℕ)) (before after : WriterState) (a b : View) → IsStanding before a → Goes (with_tables lists) before after a b → IsStanding after b
added_stands lists before after a b s goes = (with_tables lists s.0, goes s.0 s.1)

-- over sound tables no number of table 7 comes twice
pub last_apart : (ts : TableLists) (places : List ℕ) (lists : List (List ℕ)) → IsNumberedUp ts 6 places lists → IsOneToOne ts 6 (slice_index places)
last_apart ts places lists numbered = numbers_apart ts 6 places lists numbered n_six
