-- The marks of several levels, made one after another.
use Rattle.std.proofs.Common.{◌≡◌, ℕ, ◌+◌, ◌<◌, ◌≤◌, Bool, true, false, Result, Ok, Err, sym, ◌∙◌, subst, arith}
use Rattle.std.specs.Prelude.{IfOk, IsErrAnd, IsErrOf, OnOk}
use Rattle.std.proofs.lemmas.Bool.{true≢false}
use Rattle.pos_edge.specs.View.{View, IsDisk}
use Rattle.pos_edge.specs.Frame.{Nothing}
use Rattle.pos_edge.specs.ScratchNames.{IsLeft, ScratchState, StandsOn, with_file}
use Rattle.pos_edge.specs.ScratchWork.{HasWorked}
use Rattle.pos_edge.specs.declared.scratch.WorkFault.{WorkFault}
use Rattle.pos_edge.specs.declared.scratch.WorkFault.TheVariants.{Scratch}
use Rattle.pos_edge.proofs.ScratchWorkLemmas.{ended_then, ended_well, worked_none, worked_then}
use Rattle.pos_lists.specs.TableLists.{PairsInside, TableLists}
use Rattle.pos_marks.specs.declared.set.Marks.{Marks}
use Rattle.pos_marks.specs.Marks.{marks_file}
use Rattle.pos_runs.specs.Runs.{IsTablesFile, TablesState}
use Rattle.pos_prune.specs.KeptTables.{MarksStand}
use Rattle.pos_prune.specs.Marking.{AreLevelsMade, AreLowerMade, AreMarksKept, AreMarksMade, AreUpperMade, IsMarkAnswer}
use Rattle.pos_prune.proofs.KeptLemmas.{marks_past}
use Rattle.pos_prune.proofs.MarkingLemmas.{handed_on, left_more}
use Rattle.pos_prune.proofs.PassLemmas.{damage_then, lists_none, lists_then}

pub so_far_none : (k : ℕ) (t : TablesState) (s : ScratchState) (v : View) → StandsOn s v → ((f : ℕ) → IsTablesFile t f → IsLeft s f) → AreLevelsMade k 0 t t s s v v
so_far_none k t s v files left = record {
  worked = worked_none Nothing s v;
  lists = lists_none t;
  stands = λ ts h. h;
  files = files;
  left = left;
  more = λ f own. own;
}

-- a file that was left before a level's marks were made is left
pub left_then : (s s' : ScratchState) (file : ℕ) → s' ≡ with_file s file → (f : ℕ) → IsLeft s f → IsLeft s' f
left_then s s' file is f left = subst (λ (x : ScratchState). IsLeft x f) (sym is) (left_more s file f left)

-- one level more
pub so_far_more : (k c n : ℕ) (upper : TableLists → (ℕ → Bool) → Type 0) (t u v : TablesState) (m : Marks) (s s' s'' : ScratchState) (a b d : View) → c < 20 → s.made ≤ 9970
    → AreLevelsMade k c t u s s' a b → AreMarksMade k n upper u v m s' s'' b d → AreLevelsMade k (c + 1) t v s s'' a d
so_far_more k c n upper t u v m s s' s'' a b d few room p h = record {
  worked = worked_then c 1 s s' s'' a b d (omega arith) (omega arith) p.worked h.worked;
  lists = lists_then t u v p.lists h.lists;
  stands = λ ts x. h.stands ts (p.stands ts x);
  files = h.worked.work.stands p.files;
  left = λ f (j, small, e). left_then s' s'' (marks_file m) h.scratch f (p.left f (j, small, e ∙ h.lists.file j));
  more = λ f own. left_then s' s'' (marks_file m) h.scratch f (p.more f own);
}

-- what up to d levels more answered, behind c levels that were made
pub answer_behind : {X : Type 0} (k c d : ℕ) (t u : TablesState) (r : Result X WorkFault) (s s' s'' : ScratchState) (a b e : View) → c + d ≤ 20 → s.made ≤ 9970
    → AreLevelsMade k c t u s s' a b → IsMarkAnswer k d u r s' s'' b e → IsMarkAnswer k (c + d) t r s s'' a e
answer_behind k c d t u r s s' s'' a b e few room p q = record {
  ended = ended_then c d s s' s'' a b e (omega arith) (omega arith) p.worked (λ fault. fault) r q.ended;
  damage = λ x is. let at = q.damage x is in (at.0, at.1, damage_then t u at.0 x p.lists at.2);
  never = λ x ts is stands tells inside. q.never x ts is (p.stands ts stands) (p.worked.done.kept.tells ∙ tells) inside;
}

-- an error of theirs is the answer of all
pub exit_behind : {X Y : Type 0} (k c d most : ℕ) (t u : TablesState) (r : Result Y WorkFault) (fault : WorkFault) (s s' s'' : ScratchState) (a b e : View) → IsErrAnd r (λ y. y ≡ fault) → c + d ≤ most → most ≤ 20 → s.made ≤ 9970
    → AreLevelsMade k c t u s s' a b → IsMarkAnswer {X = X} k d u (Err fault) s' s'' b e → IsMarkAnswer {X = Y} k most t r s s'' a e
exit_behind {X} {Y} k c d most t u r fault s s' s'' a b e is within few room p q =
    handed_on {X = X} {Y = Y} k (c + d) most t r fault s s'' a e is within (answer_behind {X = X} k c d t u (Err fault) s s' s'' a b e (omega arith) room p q)

-- all went well
pub answer_well : {X : Type 0} (k c : ℕ) (t u : TablesState) (x : X) (s s' : ScratchState) (a b : View) → HasWorked c s.made Nothing s s' a b → IsMarkAnswer k c t (Ok x) s s' a b
answer_well {X} k c t u x s s' a b worked = record {
  ended = ended_well (λ (fault : WorkFault). fault) c s.made Nothing x s s' a b worked;
  damage = λ d is. absurd (no_error x (Scratch d) is);
  never = λ d ts is h tells inside. no_error x (Scratch d) is;
} where
  no_error : (x : X) (fault : WorkFault) → IsErrOf {T = X} (Ok x) fault → ⊥
  no_error x fault is = true≢false (let e : true ≡ false = cc in e)

-- ---- all five levels

-- numbers, found where nothing else is known
last_fits : (x y z : ℕ) → x ≤ 9970 → y ≡ x + 3 → z ≡ y + 2 → z ≤ 10000
last_fits x y z room one two = omega arith

five_fit : (x : ℕ) → x ≤ 9970 → x + 5 ≤ 10000
five_fit x room = omega arith

high_fits : (x : ℕ) → x ≤ 10000 → x ≤ 10001
high_fits x few = omega arith

-- the marks of levels 5 to 3, and by the last of them those of levels 2 and 1
pub all_kept : (k : ℕ) (t u v : TablesState) (m2 m3 m4 asked m5 m6 : Marks) (s s' s'' : ScratchState) (a b e : View) → IsDisk b → s.made ≤ 9970
    → AreUpperMade k t u m4 m5 m6 s s' a b → AreLowerMade k u v m4 asked m2 m3 s' s'' b e → AreMarksKept k t v m2 m3 asked m5 m6 s s'' a e
all_kept k t u v m2 m3 m4 asked m5 m6 s s' s'' a b e disk room p q =
    let high : s''.made ≤ 10000 = last_fits s.made s'.made s''.made room p.levels.worked.made q.levels.worked.made in
    let told : b.tells ≡ a.tells = p.levels.worked.done.kept.tells in
    let past : (m : Marks) (level : ℕ) (ts : TableLists) → MarksStand s' m level ts b → MarksStand s'' m level ts e =
    λ m level ts h. marks_past s' s'' m level s''.made ts b e disk p.levels.files (high_fits s''.made high) q.levels.worked.done.kept q.levels.more h in
    record {
      worked = worked_then 3 2 s s' s'' a b e (omega arith) (five_fit s.made room) p.levels.worked q.levels.worked;
      lists = lists_then t u v p.levels.lists q.levels.lists;
      kept = λ ts h inside.
          let inside_b : b.tells ≡ true → PairsInside ts 6 = λ tells. inside (sym told ∙ tells) in
          let upper = p.upper ts h inside in
          let lower = q.lower ts (p.levels.stands ts h) inside_b upper.of_table_4 in
          record {
            tables = q.levels.stands ts (p.levels.stands ts h);
            left = q.levels.left;
            of_table_2 = lower.0;
            of_table_3 = lower.1;
            of_table_4 = lower.2;
            of_table_5 = past m5 4 ts upper.of_table_5;
            of_table_6 = past m6 5 ts upper.of_table_6;
          };
    }

-- ---- the parts of an answer

pub on_ok : {X E : Type 0} (r : Result X E) (P : X → Type 0) (Q : Type 0) → ((x : X) → P x → Q) → IfOk r P → OnOk r Q
on_ok (Ok x) P Q f h = f x h
on_ok (Err e) P Q f h = tt

pub if_ok : {X E : Type 0} (r : Result X E) (P Q : X → Type 0) → ((x : X) → P x → Q x) → IfOk r P → IfOk r Q
if_ok (Ok x) P Q f h = f x h
if_ok (Err e) P Q f h = tt
