-- Two new lists from their making to their sealing.
use Rattle.std.proofs.Common.{◌≡◌, ℕ, ◌+◌, ◌^◌, ◌≤◌, ◌<◌, Bool, true, false, List, [], Result, Err, Some, sym, ap, ◌∙◌, subst, inl, inr, arith}
use Rattle.std.specs.Prelude.{IsErrOf}
use Rattle.std.proofs.lemmas.Bool.{cases_Bool, true≢false}
use Rattle.std.proofs.lemmas.Option.{none-some}
use Rattle.pos_edge.specs.Faults.{Rose}
use Rattle.pos_edge.specs.View.{View, IsDisk}
use Rattle.pos_edge.specs.Frame.{Nothing, NameOf, SameFaults, SameFaultsBut}
use Rattle.pos_edge.specs.ScratchNames.{ScratchState, scratch_name, with_file, StandsOn}
use Rattle.pos_edge.specs.ScratchWork.{IsNameBetween, IsScratchWork, IsScratchDone}
use Rattle.pos_edge.specs.declared.scratch.ScratchDamage.{ScratchDamage}
use Rattle.pos_edge.specs.declared.scratch.WorkFault.{WorkFault}
use Rattle.pos_edge.specs.declared.scratch.WorkFault.TheVariants.{DiskFailed, Exists, Scratch}
use Rattle.pos_edge.proofs.ScratchFiles.{scratch_name-same}
use Rattle.pos_edge.proofs.ScratchWorkLemmas.{done_beside, done_then, name_is_there, work_beside, work_then}
use Rattle.pos_runs.specs.Pages.{ListPages}
use Rattle.pos_runs.specs.Lists.{IsPageFault, ListKept}
use Rattle.pos_forward.specs.Storing.{IsNameOfTwo, IsOneOfTwo, AreKept, AreListWrites, AreNewLists, AreSealedBoth, AreStored, AreTwoFiles, HaveMore, IsWorkAnswer}
use Rattle.pos_forward.proofs.WorkLemmas.{answer_err, answer_then}

-- the name of a list's file is that of its number
pub kept_name : {R : Type 0} (base : List ℕ) (read : List Bool → R) (w : ℕ) (s : ListPages) (xs : List R) (n : List ℕ) (a : View) → IsDisk a → ListKept base read w s xs a → NameOf s.file a n → n ≡ scratch_name base s.number
kept_name base read w s xs n a disk h named = elim (cases_Bool a.tells) [
  | inl tells ↦ let same : Some n ≡ Some (scratch_name base s.number) = sym named ∙ h.named tells in cc
  | inr silent ↦
      let there = (disk.named s.file n named).there in
      absurd (none-some there.0 (sym (disk.no_contents n silent) ∙ there.1))
]

-- Two new lists hold these records, and all went well so far.
pub record IsUnderWay {R S : Type 0} (read : List Bool → R) (w : ℕ) (other_read : List Bool → S) (x : ℕ) (s t : ScratchState) (u v : ListPages) (items : List R) (others : List S) (a b : View) : Type 0 where
  pub work : IsScratchWork (IsNameBetween s.base s.made (t.made + 1)) Nothing s t a b
  pub done : IsScratchDone (IsNameBetween s.base s.made t.made) Nothing s t a b
  pub quiet : SameFaults a b
  pub files : AreTwoFiles s t u v a
  pub kept : AreKept s.base read w other_read x u v items others b

made_two : (s t : ScratchState) (u v : ListPages) (a : View) → AreTwoFiles s t u v a → t.made ≡ s.made + 2
made_two s t u v a files = let e = ap (λ (z : ScratchState). z.made) files.is in omega arith

-- a FileId of the two is not one that was live when they were made
not_before : (s t : ScratchState) (u v : ListPages) (a : View) → AreTwoFiles s t u v a → (f : ℕ) → a.is_live f ≡ true → IsOneOfTwo u.file v.file f → ⊥
not_before s t u v a files f live (inl first) = true≢false (sym live ∙ ap a.is_live first ∙ files.first_new)
not_before s t u v a files f live (inr second) = true≢false (sym live ∙ ap a.is_live second ∙ files.second_new)

-- the names of the two
two_names : {R S : Type 0} (read : List Bool → R) (w : ℕ) (other_read : List Bool → S) (x : ℕ) (s t : ScratchState) (u v : ListPages) (items : List R) (others : List S) (a b : View) → IsDisk b
    → AreTwoFiles s t u v a → AreKept s.base read w other_read x u v items others b → (high : ℕ) → t.made ≤ high → (n : List ℕ) → IsNameOfTwo u.file v.file b n → IsNameBetween s.base s.made high n
two_names read w other_read x s t u v items others a b disk files kept high enough n (inl first) =
    let two = made_two s t u v a files in let number = files.first_number in
    (u.number, omega arith, omega arith, kept_name s.base read w u items n b disk kept.first first)
two_names read w other_read x s t u v items others a b disk files kept high enough n (inr second) =
    let two = made_two s t u v a files in let number = files.second_number in
    (v.number, omega arith, omega arith, kept_name s.base other_read x v others n b disk kept.second second)

-- they are no names of numbers that were not made yet
two_below : {R S : Type 0} (read : List Bool → R) (w : ℕ) (other_read : List Bool → S) (x : ℕ) (s t : ScratchState) (u v : ListPages) (items : List R) (others : List S) (a b : View) → IsDisk b
    → t.base ≡ s.base → AreTwoFiles s t u v a → AreKept s.base read w other_read x u v items others b → StandsOn t b → (m : ℕ) → t.made ≤ m → m < 2 ^ 64 → IsNameOfTwo u.file v.file b (scratch_name t.base m) → ⊥
two_below read w other_read x s t u v items others a b disk base files kept stands m from small named =
    let (i, low, high, is) = two_names read w other_read x s t u v items others a b disk files kept t.made (omega arith) (scratch_name t.base m) named in
    let few = stands.few in
    let same : m ≡ i = scratch_name-same s.base m i small (omega arith) (ap (λ z. scratch_name z m) (sym base) ∙ is) in
    omega arith

-- what was done after more writes, whatever they answered
pub way_work : {R S : Type 0} (read : List Bool → R) (w : ℕ) (other_read : List Bool → S) (x : ℕ) (s t : ScratchState) (u u2 v v2 : ListPages) (items : List R) (others : List S) (a b c : View) → IsDisk b
    → IsUnderWay read w other_read x s t u v items others a b → AreListWrites u u2 v v2 b c → IsScratchWork (IsNameBetween s.base s.made (t.made + 1)) Nothing s t a c
way_work read w other_read x s t u u2 v v2 items others a b c disk way writes =
    let two = made_two s t u v a way.files in
    work_then (IsNameBetween s.base s.made (t.made + 1)) (IsNameBetween s.base s.made (t.made + 1)) (IsNameOfTwo u.file v.file b) Nothing Nothing (IsOneOfTwo u.file v.file) s t t a b c
    (λ n p. p) (two_names read w other_read x s t u v items others a b disk way.files way.kept (t.made + 1) (omega arith))
    (λ f l p. p) (not_before s t u v a way.files) (λ f l p. absurd p) (omega arith)
    way.work (work_beside (IsNameOfTwo u.file v.file b) (IsOneOfTwo u.file v.file) t b c writes.frame writes.ids
    (two_below read w other_read x s t u v items others a b disk way.work.base way.files way.kept))

-- and where they went well
pub way_then : {R S : Type 0} (read : List Bool → R) (w : ℕ) (other_read : List Bool → S) (x : ℕ) (s t : ScratchState) (u u2 v v2 : ListPages) (items more : List R) (others rest : List S) (a b c : View) → IsDisk b
    → IsUnderWay read w other_read x s t u v items others a b → AreListWrites u u2 v v2 b c → SameFaults b c → AreKept s.base read w other_read x u2 v2 more rest c
    → IsUnderWay read w other_read x s t u2 v2 more rest a c
way_then read w other_read x s t u u2 v v2 items more others rest a b c disk way writes quiet kept = record {
  work = way_work read w other_read x s t u u2 v v2 items others a b c disk way writes;
  done = done_then (IsNameBetween s.base s.made t.made) (IsNameBetween s.base s.made t.made) (IsNameOfTwo u.file v.file b) Nothing Nothing (IsOneOfTwo u.file v.file) s t t a b c
      (λ n p. p) (two_names read w other_read x s t u v items others a b disk way.files way.kept t.made (omega arith))
      (λ f l p. p) (not_before s t u v a way.files) way.work.base (λ m from to. absurd (omega arith)) way.done
      (done_beside (IsNameOfTwo u.file v.file b) (IsOneOfTwo u.file v.file) t b c writes.frame (λ n is none. elim is [
        | inl first ↦ name_is_there u.file n b disk first none
        | inr second ↦ name_is_there v.file n b disk second none
      ]));
  quiet = quiet ∙ way.quiet;
  files = record {
    is = subst (λ f. t ≡ with_file (with_file s f) v2.file) (sym writes.first.file) (subst (λ f. t ≡ with_file (with_file s u.file) f) (sym writes.second.file) way.files.is);
    first_number = writes.first.number ∙ way.files.first_number;
    second_number = writes.second.number ∙ way.files.second_number;
    first_new = ap a.is_live writes.first.file ∙ way.files.first_new;
    second_new = ap a.is_live writes.second.file ∙ way.files.second_new;
  };
  kept = kept;
}

-- the answer of writes to pages
pub answer_page : {X : Type 0} (e : WorkFault) (s : ScratchState) (a b : View) → (IsErrOf {T = X} (Err e) DiskFailed → Rose a.faults b.faults) → SameFaultsBut {X = X} DiskFailed (Err e) a b → IsPageFault e → IsWorkAnswer {X = X} (Err e) s s a b
answer_page {X} e s a b failed quiet fault = record {
  failed = failed;
  quiet = quiet;
  exists = λ file p. absurd (not_exists file e p fault);
  no_damage = λ damage p. not_damage damage e p fault;
} where
  not_exists : (file : ℕ) (e : WorkFault) → IsErrOf {T = X} (Err e) (Exists file) → IsPageFault e → ⊥
  not_exists file e p (inl failed) = true≢false (let t : true ≡ false = cc in t)
  not_exists file e p (inr memory) = true≢false (let t : true ≡ false = cc in t)

  not_damage : (damage : ScratchDamage) (e : WorkFault) → IsErrOf {T = X} (Err e) (Scratch damage) → IsPageFault e → ⊥
  not_damage damage e p (inl failed) = true≢false (let t : true ≡ false = cc in t)
  not_damage damage e p (inr memory) = true≢false (let t : true ≡ false = cc in t)

-- an answer under way
pub way_answer : {R S X Y : Type 0} (read : List Bool → R) (w : ℕ) (other_read : List Bool → S) (x : ℕ) (s t : ScratchState) (u v : ListPages) (items : List R) (others : List S) (a b c : View) (r : Result Y WorkFault) (y e : WorkFault) → s.made + 2 ≤ 10000
    → IsUnderWay read w other_read x s t u v items others a b → r ≡ Err y → y ≡ e
    → (IsErrOf {T = X} (Err e) DiskFailed → Rose b.faults c.faults) → SameFaultsBut {X = X} DiskFailed (Err e) b c → IsPageFault e → IsWorkAnswer r s t a c
way_answer {R} {S} {X} {Y} read w other_read x s t u v items others a b c r y e few way is same failed quiet fault =
    let two = made_two s t u v a way.files in
    answer_err r y e s t a c is same (answer_then (Err e) s t t a b c way.work.base (omega arith) (omega arith) way.done way.quiet (answer_page {X = X} e t b c failed quiet fault))

-- from two new lists to two that are stored
pub way_new : {R S : Type 0} (read : List Bool → R) (w : ℕ) (other_read : List Bool → S) (x : ℕ) (s t : ScratchState) (u v : ListPages) (a b : View)
    → IsScratchWork (IsNameBetween s.base s.made (t.made + 1)) Nothing s t a b → IsScratchDone (IsNameBetween s.base s.made t.made) Nothing s t a b → SameFaults a b → AreNewLists read w other_read x s t u v a b
    → IsUnderWay read w other_read x s t u v [] [] a b
way_new read w other_read x s t u v a b work done quiet new = record { work = work; done = done; quiet = quiet; files = new.files; kept = new.kept }

pub way_pushed : {R S : Type 0} (read : List Bool → R) (w : ℕ) (other_read : List Bool → S) (x : ℕ) (s t : ScratchState) (u u2 v v2 : ListPages) (items : List R) (others : List S) (a b c : View) → IsDisk b
    → IsUnderWay read w other_read x s t u v [] [] a b → AreListWrites u u2 v v2 b c → SameFaults b c → HaveMore read w other_read x u u2 v v2 items others b c
    → IsUnderWay read w other_read x s t u2 v2 items others a c
way_pushed read w other_read x s t u u2 v v2 items others a b c disk way writes quiet more =
    way_then read w other_read x s t u u2 v v2 [] items [] others a b c disk way writes quiet (more.kept s.base [] [] way.kept)

pub way_sealed : {R S : Type 0} (read : List Bool → R) (w : ℕ) (other_read : List Bool → S) (x : ℕ) (s t : ScratchState) (u u2 v v2 : ListPages) (items : List R) (others : List S) (a b c : View) → IsDisk b
    → IsUnderWay read w other_read x s t u v items others a b → AreListWrites u u2 v v2 b c → SameFaults b c → AreSealedBoth read w other_read x u u2 v v2 b c
    → IsUnderWay read w other_read x s t u2 v2 items others a c
way_sealed read w other_read x s t u u2 v v2 items others a b c disk way writes quiet sealed =
    way_then read w other_read x s t u u2 v v2 items items others others a b c disk way writes quiet (sealed.kept s.base items others way.kept)

pub way_stored : {R S : Type 0} (read : List Bool → R) (w : ℕ) (other_read : List Bool → S) (x : ℕ) (s t : ScratchState) (u u2 v v2 : ListPages) (items : List R) (others : List S) (a b c : View)
    → IsUnderWay read w other_read x s t u2 v2 items others a c → AreSealedBoth read w other_read x u u2 v v2 b c → AreStored read w other_read x s t u2 v2 items others a c
way_stored read w other_read x s t u u2 v v2 items others a b c way sealed = record {
  first = sealed.first.is_sealed;
  second = sealed.second.is_sealed;
  first_page = sealed.first.page;
  second_page = sealed.second.page;
  files = way.files;
  kept = way.kept;
}
