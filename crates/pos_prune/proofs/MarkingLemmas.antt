-- The making of one level's marks: a new set, a pass, and its seal, past the files that were there.
use Rattle.std.proofs.Common.{◌≡◌, ℕ, suc, ◌+◌, ◌<◌, ◌≤◌, Bool, true, List, [], ◌∷◌, length, Result, Ok, Err, refl, sym, ap, ◌∙◌, subst, inl, inr, arith, get_or}
use Rattle.std.specs.Prelude.{IsErrAnd, IsErrOf}
use Rattle.std.proofs.lemmas.Bool.{cases_Bool, false≢true}
use Rattle.std.proofs.lemmas.List.{get_or_append_left, get_or_push, length_push}
use Rattle.std.proofs.lemmas.Option.{none-some, same_Some}
use Rattle.pos_edge.specs.Faults.{Rose}
use Rattle.pos_edge.specs.View.{View, IsDisk}
use Rattle.pos_edge.specs.Frame.{ChangesFile, ChangesOnly, IsUntouched, Just, KeepsIds, NameOf, Nothing, ReadsOnly, SameFaults}
use Rattle.pos_edge.specs.Calls.{IsCreated, IsHalfCreated, WasThere}
use Rattle.pos_edge.specs.FileSets.{IsOutside}
use Rattle.pos_edge.specs.ScratchNames.{IsLeft, ScratchState, StandsOn, next_name, scratch_name, with_file}
use Rattle.pos_edge.specs.ScratchWork.{HasWorked, IsNameBetween, IsScratchDone, IsScratchWork}
use Rattle.pos_edge.specs.declared.scratch.ScratchDamage.{ScratchDamage}
use Rattle.pos_edge.specs.declared.scratch.ScratchFile.{ScratchFile}
use Rattle.pos_edge.specs.declared.scratch.WorkFault.{WorkFault}
use Rattle.pos_edge.specs.declared.scratch.WorkFault.TheVariants.{DiskFailed, Exists, Memory, Scratch}
use Rattle.pos_edge.proofs.FaultLemmas.{Rose-since}
use Rattle.pos_edge.proofs.FileSetLemmas.{left_name, left_together}
use Rattle.pos_edge.proofs.Frames.{frame_then, frame_wider}
use Rattle.pos_edge.proofs.ScratchFiles.{scratch_name-same}
use Rattle.pos_edge.proofs.ScratchWorkLemmas.{done_beside, done_then, ended_turned, name_is_there, next_between, refused_untouched, work_then, work_written}
use Rattle.pos_lists.specs.Places.{no_place}
use Rattle.pos_lists.specs.TableLists.{TableLists, entries}
use Rattle.pos_lists.specs.Used.{NamedBelow}
use Rattle.pos_lists.proofs.NamedLemmas.{nothing_is_named}
use Rattle.pos_lists.proofs.UsedLemmas.{marked_by_the_next_table}
use Rattle.pos_marks.specs.declared.set.Marks.{Marks}
use Rattle.pos_marks.specs.Marks.{AreNewMarks, AreSealed, Marked, SameMarks, marks_file}
use Rattle.pos_marks.specs.Pages.{IsSealFault}
use Rattle.pos_marks.proofs.MarkLemmas.{marked_beside}
use Rattle.pos_marks.proofs.PageLemmas.{ids_then}
use Rattle.pos_runs.specs.Runs.{IsTablesFile, TablesStand, TablesState, pages_at}
use Rattle.pos_runs.proofs.ListLemmas.{new-done, new-refused, new-work}
use Rattle.pos_runs.proofs.TablesLemmas.{tables-outside}
use Rattle.pos_prune.specs.Marking.{AreMarksMade, IsMarkAnswer}
use Rattle.pos_prune.specs.Passes.{HasAsked, HasMarked, IsPassFault}
use Rattle.pos_prune.proofs.PassLemmas.{entries_count}

-- ---- an error that is handed on

the_fault : {X : Type 0} (e f : WorkFault) → IsErrOf {T = X} (Err e) f → e ≡ f
the_fault e f is = cc

pub handed_on : {X Y : Type 0} (k c most : ℕ) (t : TablesState) (r : Result Y WorkFault) (fault : WorkFault) (s s' : ScratchState) (a b : View) → IsErrAnd r (λ y. y ≡ fault) → c ≤ most
    → IsMarkAnswer {X = X} k c t (Err fault) s s' a b → IsMarkAnswer {X = Y} k most t r s s' a b
handed_on k c most t (Ok x) fault s s' a b is within h = absurd is
handed_on {X} {Y} k c most t (Err e) fault s s' a b is within h =
    let same : fault ≡ e = sym is in
    subst (λ (y : WorkFault). IsMarkAnswer {X = Y} k most t (Err y) s s' a b) same (record {
      ended = ended_turned {X = X} {Y = Y} (λ (y : WorkFault). y) c most s.made Nothing fault s s' a b within h.ended;
      damage = λ d e. h.damage d (ap (λ (y : WorkFault). Err y) (the_fault {X = Y} fault (Scratch d) e));
      never = λ d ts e. h.never d ts (ap (λ (y : WorkFault). Err y) (the_fault {X = Y} fault (Scratch d) e));
    })

-- ---- files that are left beside one that is made

-- the name of a file that is left has a number below those to come
pub left_number : (s : ScratchState) (file : ℕ) (n : List ℕ) (v : View) → IsDisk v → StandsOn s v → IsLeft s file → NameOf file v n → (m : ℕ) × (m < s.made) × (n ≡ scratch_name s.base m)
left_number s file n v disk stands left named =
    let among = left_name s file n v disk stands left named in
    let below : (get_or s.left among.0 among.1).number < s.made = stands.below among.0 among.1 among.2 in
    (among.1.number, subst (λ (y : ScratchFile). y.number < s.made) among.3 below, among.4)

-- so no file that is made from now on has its name
pub left_not_new : (s : ScratchState) (high file : ℕ) (n : List ℕ) (v : View) → IsDisk v → StandsOn s v → high ≤ 10001 → IsLeft s file → NameOf file v n → IsNameBetween s.base s.made high n → ⊥
left_not_new s high file n v disk stands few left named (k, from, to, is) =
    let old = left_number s file n v disk stands left named in
    let small = old.1 in
    let same : old.0 ≡ k = scratch_name-same s.base old.0 k (omega arith) (omega arith) (sym old.2 ∙ is) in
    omega arith

pub outside_new : (s : ScratchState) (high : ℕ) (v : View) → IsDisk v → StandsOn s v → high ≤ 10001 → IsOutside (IsLeft s) (IsNameBetween s.base s.made high) Nothing v
outside_new s high v disk stands few = record {
  not_ids = λ f left may. may;
  not_names = λ f n left named is. left_not_new s high f n v disk stands few left named is;
}

-- the name of a file that was made
pub made_name : (s : ScratchState) (file : ℕ) (n : List ℕ) (a b : View) → IsDisk b → IsCreated (next_name s) file a b → NameOf file b n → n ≡ next_name s
made_name s file n a b disk new is = elim (cases_Bool b.tells) [
  | inl told ↦ same_Some n (next_name s) (sym is ∙ new.named told)
  | inr silent ↦ let t = (disk.named file n is).there in absurd (none-some t.0 (sym (disk.no_contents n silent) ∙ t.1))
]

-- files that were left are no part of a write to the one that was made
pub outside_made : (s : ScratchState) (file : ℕ) (a b c : View) → IsDisk a → IsDisk b → StandsOn s a → s.made < 10000 → IsCreated (next_name s) file a b → KeepsIds Nothing b c
    → IsOutside (IsLeft s) (NameOf file c) (Just file) c
outside_made s file a b c disk_a disk_b stands few new ids = record { not_ids = not_made; not_names = not_named } where
  not_made : (f : ℕ) → IsLeft s f → f ≡ file → ⊥
  not_made f left same = false≢true (sym new.fresh ∙ subst (λ (x : ℕ). a.is_live x ≡ true) same ((left_together s a disk_a stands).live f left))

  not_named : (f : ℕ) (n : List ℕ) → IsLeft s f → NameOf f c n → NameOf file c n → ⊥
  not_named f n left mine yours =
      let before : NameOf f a n = sym (new.others.name f (not_made f left)) ∙ (sym (ids.name f (λ x. x)) ∙ mine) in
      let made : n ≡ next_name s = made_name s file n a b disk_b new (sym (ids.name file (λ x. x)) ∙ yours) in
      left_not_new s (s.made + 1) f n a disk_a stands (omega arith) left before (next_between s n made)

pub outside_part : (own part : ℕ → Type 0) (names : List ℕ → Type 0) (ids : ℕ → Type 0) (v : View) → ((f : ℕ) → part f → own f) → IsOutside own names ids v → IsOutside part names ids v
outside_part own part names ids v some out = record { not_ids = λ f p. out.not_ids f (some f p); not_names = λ f n p. out.not_names f n (some f p) }

-- a file that is left is left with one more
pub left_more : (s : ScratchState) (file f : ℕ) → IsLeft s f → IsLeft (with_file s file) f
left_more s file f (k, x, h, e, p) =
    let last : ScratchFile = record { number = s.made; file = record { 0 = file } } in
    let long = length_push s.left last in
    (k, x, omega arith, get_or_append_left s.left (last ∷ []) x k h ∙ e, p)

pub left_last : (s : ScratchState) (file : ℕ) → IsLeft (with_file s file) file
left_last s file =
    let last : ScratchFile = record { number = s.made; file = record { 0 = file } } in
    let long = length_push s.left last in
    (length s.left, last, omega arith, get_or_push s.left last last (length s.left) refl, refl)

-- ---- the frame of the making

-- what changed once the file was made
pub made_frame : (file : ℕ) (b c d : View) → ReadsOnly b c → ChangesFile file c d → ChangesOnly (NameOf file b) (Just file) b d
made_frame file b c d reads wrote =
    frame_then (NameOf file b) Nothing (NameOf file c) (Just file) Nothing (Just file) b c d (λ n x. absurd x) (λ n x. sym (reads.ids.name file (λ y. y)) ∙ x) (λ f l x. absurd x) (λ f l x. x) reads.kept wrote.frame

pub reads_frame : (file : ℕ) (b c : View) → ReadsOnly b c → ChangesOnly (NameOf file b) (Just file) b c
reads_frame file b c reads = frame_wider (NameOf file b) Nothing (Just file) Nothing b c (λ n x. absurd x) (λ f l x. absurd x) reads.kept

-- what was done once the file was made, and written or only read
made_work : (s t : ScratchState) (file : ℕ) (a b d : View) → IsDisk b → t ≡ with_file s file → ChangesOnly (Just (next_name s)) Nothing a b → IsCreated (next_name s) file a b → (StandsOn s a → StandsOn t b)
    → ChangesOnly (NameOf file b) (Just file) b d → KeepsIds Nothing b d → IsScratchWork (IsNameBetween s.base s.made (t.made + 1)) Nothing s t a d
made_work s t file a b d disk is kept new stands later ids =
    let made : t.made ≡ s.made + 1 = ap (λ (x : ScratchState). x.made) is in
    let left : IsLeft t file = subst (λ (x : ScratchState). IsLeft x file) (sym is) (left_last s file) in
    work_then (IsNameBetween s.base s.made (t.made + 1)) (IsNameBetween s.base s.made (t.made + 1)) (NameOf file b) Nothing Nothing (Just file) s t t a b d
    (λ n x. x) (λ n x. (s.made, omega arith, omega arith, made_name s file n a b disk new x))
    (λ f l x. x) (λ f l x. false≢true (sym new.fresh ∙ subst (λ (y : ℕ). a.is_live y ≡ true) x l)) (λ f l x. absurd x) (omega arith)
    (new-work s t file a b is kept new stands) (work_written t file b d disk left later ids)

-- and where all went well
made_done : (s t : ScratchState) (file : ℕ) (a b d : View) → IsDisk b → s.made < 10000 → t ≡ with_file s file → ChangesOnly (Just (next_name s)) Nothing a b → IsCreated (next_name s) file a b
    → ChangesOnly (NameOf file b) (Just file) b d → IsScratchDone (IsNameBetween s.base s.made t.made) Nothing s t a d
made_done s t file a b d disk few is kept new later =
    let made : t.made ≡ s.made + 1 = ap (λ (x : ScratchState). x.made) is in
    let base : t.base ≡ s.base = ap (λ (x : ScratchState). x.base) is in
    done_then (IsNameBetween s.base s.made t.made) (IsNameBetween s.base s.made t.made) (NameOf file b) Nothing Nothing (Just file) s t t a b d
    (λ n x. x) (λ n x. (s.made, omega arith, omega arith, made_name s file n a b disk new x))
    (λ f l x. x) (λ f l x. false≢true (sym new.fresh ∙ subst (λ (y : ℕ). a.is_live y ≡ true) x l)) base (λ m from to. absurd (omega arith))
    (new-done s t file a b is few kept new) (done_beside (NameOf file b) (Just file) t b d later (λ n named. name_is_there file n b disk named))

made_worked : (s t : ScratchState) (file : ℕ) (a b d : View) → IsDisk b → s.made < 10000 → t ≡ with_file s file → ChangesOnly (Just (next_name s)) Nothing a b → IsCreated (next_name s) file a b → (StandsOn s a → StandsOn t b)
    → ChangesOnly (NameOf file b) (Just file) b d → KeepsIds Nothing b d → SameFaults a d → HasWorked 1 s.made Nothing s t a d
made_worked s t file a b d disk few is kept new stands later ids quiet = record {
  work = made_work s t file a b d disk is kept new stands later ids;
  done = made_done s t file a b d disk few is kept new later;
  made = ap (λ (x : ScratchState). x.made) is;
  quiet = quiet;
}

-- ---- tables and marks past the making

pub tables_made : (k : ℕ) (t : TablesState) (ts : TableLists) (s : ScratchState) (a b : View) → IsDisk a → StandsOn s a → s.made < 10000 → ((file : ℕ) → IsTablesFile t file → IsLeft s file)
    → ChangesOnly (Just (next_name s)) Nothing a b → TablesStand k t ts a → TablesStand k t ts b
tables_made k t ts s a b disk stands few left kept h =
    tables-outside k t ts (IsNameBetween s.base s.made (s.made + 1)) Nothing a b (frame_wider (IsNameBetween s.base s.made (s.made + 1)) (Just (next_name s)) Nothing Nothing a b (next_between s) (λ f l x. x) kept)
    (outside_part (IsLeft s) (IsTablesFile t) (IsNameBetween s.base s.made (s.made + 1)) Nothing a left (outside_new s (s.made + 1) a disk stands (omega arith))) h

pub marks_made : (m : Marks) (p : ℕ → Bool) (s : ScratchState) (a b : View) → IsDisk a → StandsOn s a → s.made < 10000 → IsLeft s (marks_file m)
    → ChangesOnly (Just (next_name s)) Nothing a b → Marked m p a → Marked m p b
marks_made m p s a b disk stands few left kept h =
    marked_beside m p (Just (next_name s)) Nothing a b kept (λ x. x) (λ n named is. left_not_new s (s.made + 1) (marks_file m) n a disk stands (omega arith) left named (next_between s n is)) h

-- ---- a level was made

pub level_made : (k n : ℕ) (upper later : TableLists → (ℕ → Bool) → Type 0) (t u : TablesState) (m0 m1 m2 : Marks) (count : ℕ) (s s' : ScratchState) (a b c d : View)
    → n < 6 → s.made < 10000 → IsDisk a → IsDisk b → StandsOn s a → ((file : ℕ) → IsTablesFile t file → IsLeft s file) → count ≡ (pages_at t n).count
    → ChangesOnly (Just (next_name s)) Nothing a b → IsCreated (next_name s) (marks_file m0) a b → s' ≡ with_file s (marks_file m0) → (StandsOn s a → StandsOn s' b) → AreNewMarks count s.made m0 b → SameFaults a b
    → ((ts : TableLists) (x : ℕ → Bool) → upper ts x → later ts x) → HasMarked k n 0 (pages_at t (suc n)).count later t u m0 m1 b c
    → ChangesFile (marks_file m1) c d → KeepsIds Nothing c d → SameMarks m1 m2 → AreSealed m2 → ((p : ℕ → Bool) → Marked m1 p c → Marked m2 p d) → SameFaults c d
    → AreMarksMade k n upper t u m2 s s' a d
level_made k n upper later t u m0 m1 m2 count s s' a b c d few room disk_a disk_b stands left counted kept new is standing fresh quiet0 turn passed wrote ids same sealed seals quiet1 =
    let file : marks_file m2 ≡ marks_file m0 = same.file ∙ passed.same.file in
    let own : marks_file m1 ≡ marks_file m0 = passed.same.file in
    let wrote0 : ChangesFile (marks_file m0) c d = subst (λ (f : ℕ). ChangesFile f c d) own wrote in
    record {
      scratch = is ∙ ap (with_file s) (sym file);
      worked = made_worked s s' (marks_file m0) a b d disk_b room is kept new standing (made_frame (marks_file m0) b c d passed.only wrote0) (ids_then b c d passed.only.ids ids) (quiet1 ∙ passed.quiet ∙ quiet0);
      lists = passed.lists;
      stands = λ ts h.
          tables-outside k u ts (NameOf (marks_file m0) c) (Just (marks_file m0)) c d wrote0.frame
          (outside_part (IsLeft s) (IsTablesFile u) (NameOf (marks_file m0) c) (Just (marks_file m0)) c
          (λ f (j, small, e). left f (j, small, e ∙ passed.lists.file j)) (outside_made s (marks_file m0) a b c disk_a disk_b stands room new passed.only.ids))
          (passed.stands ts (tables_made k t ts s a b disk_a stands room left kept h));
      sealed = sealed;
      places = same.places ∙ passed.same.places ∙ fresh.places ∙ counted;
      marks = λ ts above h given.
          let got = passed.pairs ts no_place (tables_made k t ts s a b disk_a stands room left kept h) fresh.marked in (
            got.0,
            seals got.0 got.1,
            λ tells inside used.
                let named : NamedBelow ts n above (pages_at t (suc n)).count got.0 = got.2 (kept.tells ∙ tells) above (turn ts above given) (nothing_is_named ts n above) in
                let all : (pages_at t (suc n)).count ≡ entries ts (suc n) = sym (entries_count k t ts a (suc n) (omega arith) h) in
                marked_by_the_next_table ts n above got.0 few inside used (subst (λ (x : ℕ). NamedBelow ts n above x got.0) all named),
          );
    }

-- marks of the level above were asked on the way
pub above_asked : (m0 m1 : Marks) (file : ℕ) (s : ScratchState) (a b c d : View) → IsDisk a → IsDisk b → StandsOn s a → s.made < 10000 → IsLeft s (marks_file m0)
    → ChangesOnly (Just (next_name s)) Nothing a b → IsCreated (next_name s) file a b → HasAsked m0 m1 b c → ReadsOnly b c → ChangesFile file c d → HasAsked m0 m1 a d
above_asked m0 m1 file s a b c d disk_a disk_b stands room left kept new asked reads wrote =
    let out = outside_made s file a b c disk_a disk_b stands room new reads.ids in
    let mine : IsLeft s (marks_file m1) = subst (IsLeft s) (sym asked.same.file) left in
    record {
      same = asked.same;
      sealed = asked.sealed;
      marked = λ p h. marked_beside m1 p (NameOf file c) (Just file) c d wrote.frame (out.not_ids (marks_file m1) mine) (λ n named. out.not_names (marks_file m1) n mine named)
          (asked.marked p (marks_made m0 p s a b disk_a stands room left kept h));
    }

-- ---- why a level was not made

-- its file was not
pub answer_new : {X Y : Type 0} (k : ℕ) (t : TablesState) (r : Result Y WorkFault) (fault : WorkFault) (s s' : ScratchState) (a b : View) → IsErrAnd r (λ y. y ≡ fault) → s' ≡ s
    → ChangesOnly (Just (next_name s)) Nothing a b → (StandsOn s a → StandsOn s' b)
    → ((file : ℕ) → IsErrOf {T = X} (Err fault) (Exists file) → (file ≡ s.made) × WasThere (next_name s) a × IsUntouched a b) → (IsErrOf {T = X} (Err fault) DiskFailed → IsHalfCreated (next_name s) a b)
    → ((d : ScratchDamage) → IsErrOf {T = X} (Err fault) (Scratch d) → ⊥) → (IsErrOf {T = X} (Err fault) Memory → IsUntouched a b) → ((fault ≡ DiskFailed → ⊥) → SameFaults a b)
    → IsMarkAnswer k 1 t r s s' a b
answer_new {X} {Y} k t r fault s s' a b err is kept stands exists failed none memory quiet =
    handed_on k 1 1 t r fault s s' a b err (omega arith) (record {
      ended = record {
        work = new-refused s s' a b is kept stands (refused_untouched {X = X} (Err fault) s a b exists failed none memory);
        few = let made : s'.made ≡ s.made = ap (λ (x : ScratchState). x.made) is in omega arith;
        exists = λ file e. let w = exists file e in (w.0 ∙ sym (ap (λ (x : ScratchState). x.made) is), subst (λ (m : ℕ). WasThere (scratch_name s.base m) a) (sym w.0) w.1);
        failed = λ e. (failed e).rose;
        quiet = quiet;
      };
      damage = λ d e. absurd (none d e);
      never = λ d ts e h tells inside. none d e;
    })

-- the pass over its pairs ended early
pub answer_pass : {Y : Type 0} (k n : ℕ) (t : TablesState) (r : Result Y WorkFault) (fault : WorkFault) (s s' : ScratchState) (file : ℕ) (a b c : View) → IsErrAnd r (λ y. y ≡ fault) → n < 6 → IsDisk b → s' ≡ with_file s file
    → ChangesOnly (Just (next_name s)) Nothing a b → IsCreated (next_name s) file a b → (StandsOn s a → StandsOn s' b) → SameFaults a b
    → ((ts : TableLists) → TablesStand k t ts a → TablesStand k t ts b) → IsPassFault k n t fault b c → IsMarkAnswer k 1 t r s s' a c
answer_pass {Y} k n t r fault s s' file a b c err few disk is kept new standing quiet stands h =
    handed_on {X = Y} k 1 1 t r fault s s' a c err (omega arith) (record {
      ended = record {
        work = made_work s s' file a b c disk is kept new standing (reads_frame file b c h.only) h.only.ids;
        few = let made : s'.made ≡ s.made + 1 = ap (λ (x : ScratchState). x.made) is in omega arith;
        exists = λ number e. absurd (h.no_file number (the_fault fault (Exists number) e));
        failed = λ e. Rose-since a.faults b.faults c.faults kept.faults (h.failed (the_fault fault DiskFailed e));
        quiet = λ other. h.quiet other ∙ quiet;
      };
      damage = λ d e. (n, few, h.damage d (the_fault fault (Scratch d) e));
      never = λ d ts e before tells inside. h.never d ts (the_fault fault (Scratch d) e) (stands ts before) (kept.tells ∙ tells) inside;
    })

-- its marks were not sealed
pub answer_seal : {Y : Type 0} (k n : ℕ) (upper : TableLists → (ℕ → Bool) → Type 0) (t u : TablesState) (r : Result Y WorkFault) (fault : WorkFault) (m0 m1 : Marks) (s s' : ScratchState) (a b c d : View) → IsErrAnd r (λ y. y ≡ fault)
    → IsDisk b → s' ≡ with_file s (marks_file m0) → ChangesOnly (Just (next_name s)) Nothing a b → IsCreated (next_name s) (marks_file m0) a b → (StandsOn s a → StandsOn s' b) → SameFaults a b
    → HasMarked k n 0 (pages_at t (suc n)).count upper t u m0 m1 b c → ChangesFile (marks_file m1) c d → KeepsIds Nothing c d
    → IsSealFault fault → (fault ≡ DiskFailed → Rose c.faults d.faults) → ((fault ≡ DiskFailed → ⊥) → SameFaults c d) → IsMarkAnswer k 1 t r s s' a d
answer_seal {Y} k n upper t u r fault m0 m1 s s' a b c d err disk is kept new standing quiet passed wrote ids known failed quiet1 =
    let own : marks_file m1 ≡ marks_file m0 = passed.same.file in
    handed_on {X = Y} k 1 1 t r fault s s' a d err (omega arith) (record {
      ended = record {
        work = made_work s s' (marks_file m0) a b d disk is kept new standing (made_frame (marks_file m0) b c d passed.only (subst (λ (f : ℕ). ChangesFile f c d) own wrote)) (ids_then b c d passed.only.ids ids);
        few = let made : s'.made ≡ s.made + 1 = ap (λ (x : ScratchState). x.made) is in omega arith;
        exists = λ number e. absurd (no_file fault number known (the_fault fault (Exists number) e));
        failed = λ e. Rose-since a.faults c.faults d.faults (let first = kept.faults in let second = passed.only.kept.faults in omega arith) (failed (the_fault fault DiskFailed e));
        quiet = λ other. quiet1 other ∙ passed.quiet ∙ quiet;
      };
      damage = λ x e. absurd (no_damage fault x known (the_fault fault (Scratch x) e));
      never = λ x ts e before tells inside. no_damage fault x known (the_fault fault (Scratch x) e);
    })
  where
    no_file : (e : WorkFault) (number : ℕ) → IsSealFault e → e ≡ Exists number → ⊥
    no_file e number seal is = subst IsSealFault is seal

    no_damage : (e : WorkFault) (x : ScratchDamage) → IsSealFault e → e ≡ Scratch x → ⊥
    no_damage e x seal is = subst IsSealFault is seal
