-- Reads of two open files, and the second file's opening and removal.
use Rattle.std.proofs.Common.{◌≡◌, ℕ, ◌+◌, ◌*◌, ◌-◌, ◌/◌, ◌%◌, ◌≤◌, min, true, List, [], ◌∷◌, length, take, drop, IsSome, Result, Ok, Err, Option, Some, None, refl, sym, ap, ◌∙◌, subst, inl, inr, arith}
use Rattle.std.proofs.lemmas.Bool.{cases_Bool, cases_lt, false≢true}
use Rattle.std.proofs.lemmas.Grind.{div_ceil_times}
use Rattle.std.proofs.lemmas.List.{length-drop, take_all, drop_all}
use Rattle.std.proofs.lemmas.Option.{none-some, same_Some}
use Rattle.pos_edge.specs.Faults.{Rose}
use Rattle.pos_edge.specs.View.{View, IsDisk}
use Rattle.pos_edge.specs.Frame.{ChangesOnly, Just, NameOf, Nothing, ReadsOnly, SameFaults}
use Rattle.pos_edge.specs.Calls.{IsGone, IsOpened, WasAbsent}
use Rattle.pos_edge.specs.declared.disk.OpenFault.{OpenFault}
use Rattle.pos_edge.specs.declared.disk.OpenFault.TheVariants.{Absent as IsNotThere, Failed, Memory as OpenMemory}
use Rattle.pos_edge.proofs.Frames.{frame_none, frame_then}
use Rattle.pos_layout.specs.Bytes.{part}
use Rattle.pos_audit.specs.declared.found.Audited.{Audited}
use Rattle.pos_audit.specs.declared.found.Audited.TheVariants.{Same}
use Rattle.pos_audit.specs.declared.fault.AuditFault.{AuditFault}
use Rattle.pos_audit.specs.declared.fault.AuditFault.TheVariants.{DiskFailed}
use Rattle.pos_audit.specs.declared.comparing.TheConstants.{PAGE}
use Rattle.pos_audit.specs.Faults.{of_open}
use Rattle.pos_audit.specs.Comparisons.{HoldsFile, IsComparison, IsLook, IsReadable, IsSecondCompared, PageAnswer}
use Rattle.pos_audit.proofs.DifferenceLemmas.{fronts_joined, fronts_whole, page_differs}

-- ---- an open file that other calls leave alone

pub readable_kept : (names : List ℕ → Type 0) (ids : ℕ → Type 0) (file : ℕ) (a b : View) → ChangesOnly names ids a b
    → (ids file → ⊥) → ((n : List ℕ) → NameOf file a n → names n → ⊥) → IsReadable file a → IsReadable file b
readable_kept names ids file a b kept apart other is =
    let same = kept.name file is.live apart other in
    record {
      live = kept.live file is.live apart;
      there = λ told. subst IsSome (sym same) (is.there (sym kept.tells ∙ told));
    }

pub holds_file_kept : (names : List ℕ → Type 0) (ids : ℕ → Type 0) (file : ℕ) (b : List ℕ) (v w : View) → ChangesOnly names ids v w
    → (ids file → ⊥) → ((n : List ℕ) → NameOf file v n → names n → ⊥) → v.is_live file ≡ true → HoldsFile file b v → HoldsFile file b w
holds_file_kept names ids file b v w kept apart other live h = record {
  name = h.name;
  named = kept.name file live apart other ∙ h.named;
  contents = kept.contents h.name (other h.name h.named) ∙ h.contents;
  size = kept.size file live apart ∙ h.size;
}

pub readable_read : (file : ℕ) (a b : View) → ChangesOnly Nothing Nothing a b → IsReadable file a → IsReadable file b
readable_read file a b kept is = readable_kept Nothing Nothing file a b kept (λ x. x) (λ n named x. x) is

pub holds_file_read : (file : ℕ) (b : List ℕ) (v w : View) → ChangesOnly Nothing Nothing v w → v.is_live file ≡ true → HoldsFile file b v → HoldsFile file b w
holds_file_read file b v w kept live h = holds_file_kept Nothing Nothing file b v w kept (λ x. x) (λ n named x. x) live h

-- ---- reads one after another

pub reads_nothing : (v : View) → ReadsOnly v v
reads_nothing v = record { kept = frame_none Nothing Nothing v; ids = record { live = λ f k. refl; name = λ f k. refl } }

pub reads_both : (a b c : View) → ReadsOnly a b → ReadsOnly b c → ReadsOnly a c
reads_both a b c p q = record {
  kept = frame_then Nothing Nothing Nothing Nothing Nothing Nothing a b c (λ n x. x) (λ n x. x) (λ f l x. x) (λ f l x. x) p.kept q.kept;
  ids = record {
    live = λ f k. q.ids.live f k ∙ p.ids.live f k;
    name = λ f k. q.ids.name f k ∙ p.ids.name f k;
  };
}

-- a look behind reads that went well
pub look_refused : {X Y E : Type 0} (result : Result Y E) (fault : E) (a b c : View) → result ≡ Err fault → ReadsOnly a b → SameFaults a b
    → IsLook {X = X} (Err fault) b c → IsLook result a c
look_refused {X} {Y} {E} result fault a b c is reads same look = subst (λ r. IsLook r a c) (sym is) (record {
  reads = reads_both a b c reads look.reads;
  failed = subst (λ n. Rose n c.faults) same look.failed;
  quiet = tt;
})

pub look_done : {X Y E : Type 0} (x : X) (y : Y) (a b c : View) → ReadsOnly a b → SameFaults a b → IsLook {E = E} (Ok x) b c → IsLook {E = E} (Ok y) a c
look_done x y a b c reads same look = record {
  reads = reads_both a b c reads look.reads;
  failed = tt;
  quiet = look.quiet ∙ same;
}

-- ---- one page

-- what was read from the least of a place and the file's size is the page from that place
pub page_is : (b got : List ℕ) (at start count size n : ℕ) → size ≡ length b → start ≡ min at size → count ≡ min (size - start) n → length got ≡ count
    → got ≡ take ((start + length got) - start) (drop start b) → got ≡ part b at n
unfolding part
page_is b got at start count size n len start_is count_is got_len got_is = elim (cases_lt at size) [
  | inl inside ↦
      let here : start ≡ at = omega arith in
      let k : (start + length got) - start ≡ count = omega arith in
      let l = length-drop at b in
      let got_part : got ≡ take count (drop at b) = got_is ∙ ap (λ m. take m (drop start b)) k ∙ ap (λ s. take count (drop s b)) here in
      elim (cases_lt n (size - start)) [
        | inl long ↦ let e : count ≡ n = omega arith in got_part ∙ ap (λ m. take m (drop at b)) e
        | inr short ↦ let few : length (drop at b) ≤ count = omega arith in
            let fewer : length (drop at b) ≤ n = omega arith in
            got_part ∙ take_all count (drop at b) few ∙ sym (take_all n (drop at b) fewer)
      ]
  | inr past ↦
      let none : length got ≡ 0 = omega arith in
      let after : length b ≤ at = omega arith in
      no_bytes got none ∙ sym (ap (λ xs. take n xs) (drop_all at b after) ∙ take_none n)
]
  where
    no_bytes : (xs : List ℕ) → length xs ≡ 0 → xs ≡ []
    no_bytes [] e = refl
    no_bytes (x ∷ xs) e = absurd (omega arith)

    take_none : (m : ℕ) → take {A = ℕ} m [] ≡ []
    take_none m = take_all m [] (omega arith)

-- ---- the loop

-- The first pages, so many, are the same in both files.
pub record SameSoFar (found want number : ℕ) (old now : View) : Type 0 where
  pub reads : ReadsOnly old now
  pub quiet : SameFaults old now
  pub same : (b c : List ℕ) → HoldsFile found b old → HoldsFile want c old → take (PAGE * number) b ≡ take (PAGE * number) c

pub so_far_none : (found want : ℕ) (v : View) → SameSoFar found want 0 v v
so_far_none found want v = record {
  reads = reads_nothing v;
  quiet = refl;
  same = λ b c h k. let e : PAGE * 0 ≡ 0 = omega arith in ap (λ n. take n b) e ∙ sym (ap (λ n. take n c) e);
}

module _ (found want number at : ℕ) (old now new : View) (so_far : SameSoFar found want number old now) (readable : IsReadable found old) (other : IsReadable want old)
    (at_is : at ≡ number * PAGE) where
  abbrev AnswersPage : Option Audited → Type 0
  AnswersPage answer = (b c : List ℕ) → HoldsFile found b now → HoldsFile want c now → PageAnswer at (part b at PAGE) (part c at PAGE) answer

  front : (b c : List ℕ) → HoldsFile found b old → HoldsFile want c old → take at b ≡ take at c
  front b c h k =
      let e : at ≡ PAGE * number = omega arith in
      ap (λ n. take n b) e ∙ so_far.same b c h k ∙ sym (ap (λ n. take n c) e)

  answered : (answer : Option Audited) → AnswersPage answer → (b c : List ℕ) → HoldsFile found b old → HoldsFile want c old → PageAnswer at (part b at PAGE) (part c at PAGE) answer
  answered answer are b c h k =
      are b c (holds_file_read found b old now so_far.reads.kept readable.live h) (holds_file_read want c old now so_far.reads.kept other.live k)

  pub so_far_next : {E : Type 0} (answer : Option Audited) → answer ≡ None → IsLook {E = E} (Ok answer) now new → AnswersPage answer → SameSoFar found want (number + 1) old new
  so_far_next {E} answer none look are = record {
    reads = reads_both old now new so_far.reads look.reads;
    quiet = look.quiet ∙ so_far.quiet;
    same = λ b c h k.
        let e : PAGE * (number + 1) ≡ at + PAGE = omega arith in
        ap (λ n. take n b) e
        ∙ fronts_joined at PAGE b c (front b c h k) (subst (λ (o : Option Audited). PageAnswer at (part b at PAGE) (part c at PAGE) o) none (answered answer are b c h k))
        ∙ sym (ap (λ n. take n c) e);
  }

  pub so_far_differs : (answer : Option Audited) (audited : Audited) → answer ≡ Some audited → AnswersPage answer → (b c : List ℕ) → HoldsFile found b old → HoldsFile want c old → IsComparison b c audited
  so_far_differs answer audited some are b c h k =
      page_differs at PAGE b c audited (front b c h k) (subst (λ (o : Option Audited). PageAnswer at (part b at PAGE) (part c at PAGE) o) some (answered answer are b c h k))

-- so many pages reach to the end of both files
pub pages_reach : (longest pages number : ℕ) → pages ≡ longest / PAGE + min 1 (longest % PAGE) → pages ≤ number → longest ≤ PAGE * number
pages_reach longest pages number is most = let reach = (div_ceil_times longest PAGE (omega arith)).0 in omega arith

-- all pages were the same
pub so_far_all : (found want number size other : ℕ) (old now : View) → SameSoFar found want number old now → size ≡ old.size_of found → other ≡ old.size_of want
    → size ≤ PAGE * number → other ≤ PAGE * number → (b c : List ℕ) → HoldsFile found b old → HoldsFile want c old → IsComparison b c (Same size)
so_far_all found want number size other old now so_far size_is other_is one two b c h k = (
  fronts_whole (PAGE * number) b c (subst (λ n. n ≤ PAGE * number) (size_is ∙ h.size) one) (subst (λ n. n ≤ PAGE * number) (other_is ∙ k.size) two) (so_far.same b c h k),
  size_is ∙ h.size,
)

-- ---- the second file

-- a disk that names a file tells
pub told_by_name : (file : ℕ) (n : List ℕ) (v : View) → IsDisk v → NameOf file v n → v.tells ≡ true
told_by_name file n v disk named = elim (cases_Bool v.tells) [
  | inl yes_tells ↦ yes_tells
  | inr silent ↦
      let there = (disk.named file n named).there in
      absurd (none-some there.0 (sym (disk.no_contents n silent) ∙ there.1))
]

-- the file was not opened again
second_not_opened : (second : List ℕ) (found : ℕ) (fault : OpenFault) (old new : View) → ChangesOnly Nothing Nothing old new
    → (fault ≡ IsNotThere → WasAbsent second old) → (fault ≡ Failed → Rose old.faults new.faults) → ((fault ≡ Failed → ⊥) → SameFaults old new)
    → IsSecondCompared found second (Err (of_open fault)) old new
second_not_opened second found IsNotThere old new kept absent failed quiet = record {
  others = frame_then (Just second) Nothing Nothing Nothing Nothing Nothing old new new (λ n x. absurd x) (λ n x. absurd x) (λ f l x. x) (λ f l x. x) kept (frame_none Nothing Nothing new);
  quiet = λ other. quiet (λ e. cc);
  cause = absent refl;
  compared = tt;
  gone = tt;
}
second_not_opened second found Failed old new kept absent failed quiet = record {
  others = frame_then (Just second) Nothing Nothing Nothing Nothing Nothing old new new (λ n x. absurd x) (λ n x. absurd x) (λ f l x. x) (λ f l x. x) kept (frame_none Nothing Nothing new);
  quiet = λ other. absurd (other refl);
  cause = failed refl;
  compared = tt;
  gone = tt;
}
second_not_opened second found OpenMemory old new kept absent failed quiet = record {
  others = frame_then (Just second) Nothing Nothing Nothing Nothing Nothing old new new (λ n x. absurd x) (λ n x. absurd x) (λ f l x. x) (λ f l x. x) kept (frame_none Nothing Nothing new);
  quiet = λ other. quiet (λ e. cc);
  cause = tt;
  compared = tt;
  gone = tt;
}

pub second_refused : (second : List ℕ) (found : ℕ) (fault : OpenFault) (result : Result Audited AuditFault) (old new : View) → result ≡ Err (of_open fault) → ChangesOnly Nothing Nothing old new
    → (fault ≡ IsNotThere → WasAbsent second old) → (fault ≡ Failed → Rose old.faults new.faults) → ((fault ≡ Failed → ⊥) → SameFaults old new)
    → IsSecondCompared found second result old new
second_refused second found fault result old new is kept absent failed quiet =
    subst (λ r. IsSecondCompared found second r old new) (sym is) (second_not_opened second found fault old new kept absent failed quiet)

-- it was opened, and both files were read
module _ (second : List ℕ) (found file : ℕ) (old opened read : View) (kept : ChangesOnly Nothing Nothing old opened) (same : SameFaults old opened)
    (is : IsOpened second file old opened) (reads : ReadsOnly opened read) where
  all_kept : ChangesOnly Nothing Nothing old read
  all_kept = frame_then Nothing Nothing Nothing Nothing Nothing Nothing old opened read (λ n x. x) (λ n x. x) (λ f l x. x) (λ f l x. x) kept reads.kept

  wider : ChangesOnly (Just second) Nothing old read
  wider = frame_then (Just second) Nothing Nothing Nothing Nothing Nothing old read read (λ n x. absurd x) (λ n x. absurd x) (λ f l x. x) (λ f l x. x) all_kept (frame_none Nothing Nothing read)

  -- the FileId's only name is that of the second file
  named_second : read.tells ≡ true → NameOf file read second
  named_second told = reads.ids.name file (λ x. x) ∙ is.named (sym reads.kept.tells ∙ told)

  only_second : IsDisk read → (n : List ℕ) → NameOf file read n → n ≡ second
  only_second disk n named = same_Some n second (sym named ∙ named_second (told_by_name file n read disk named))

  -- and it holds the bytes that stood under that name
  pub second_holds : (c : List ℕ) → old.tells ≡ true → old.contents second ≡ Some c → HoldsFile file c opened
  second_holds c told holds =
      let told_then : opened.tells ≡ true = kept.tells ∙ told in
      let size = is.size told_then in
      record {
        name = second;
        named = is.named told_then;
        contents = kept.contents second (λ x. x) ∙ holds;
        size = size.2 ∙ ap length (same_Some size.0 c (sym size.1 ∙ holds));
      }

  compared_by : (audited : Audited) → IsDisk old → IsReadable found old
      → ((b c : List ℕ) → HoldsFile found b opened → HoldsFile file c opened → IsComparison b c audited)
      → (b c : List ℕ) → HoldsFile found b old → old.contents second ≡ Some c → IsComparison b c audited
  compared_by audited disk readable compared b c h holds =
      compared b c (holds_file_read found b old opened kept readable.live h) (second_holds c (told_by_name found h.name old disk h.named) holds)

  pub not_compared : (result : Result Audited AuditFault) → result ≡ Err DiskFailed → Rose opened.faults read.faults → IsSecondCompared found second result old read
  not_compared result failed rose = subst (λ r. IsSecondCompared found second r old read) (sym failed) (record {
    others = wider;
    quiet = λ other. absurd (other refl);
    cause = subst (λ n. Rose n read.faults) same rose;
    compared = tt;
    gone = tt;
  })

  -- and removed, or not
  module _ (new : View) (quiet : SameFaults opened read) (removal : ChangesOnly (NameOf file read) (Just file) read new) (disk : IsDisk read) where
    removed_kept : ChangesOnly (Just second) Nothing old new
    removed_kept = frame_then (Just second) Nothing (NameOf file read) Nothing Nothing (Just file) old read new
        (λ n x. absurd x) (λ n x. only_second disk n x) (λ f l x. x)
        (λ f l x. false≢true (sym is.fresh ∙ subst (λ (i : ℕ). old.is_live i ≡ true) x l)) all_kept removal

    pub not_removed : (result : Result Audited AuditFault) → result ≡ Err DiskFailed → Rose read.faults new.faults → IsSecondCompared found second result old new
    not_removed result failed rose = subst (λ r. IsSecondCompared found second r old new) (sym failed) (record {
      others = removed_kept;
      quiet = λ other. absurd (other refl);
      cause = subst (λ n. Rose n new.faults) (quiet ∙ same) rose;
      compared = tt;
      gone = tt;
    })

    pub second_removed : (audited : Audited) → IsDisk old → IsDisk new → IsReadable found old
        → ((b c : List ℕ) → HoldsFile found b opened → HoldsFile file c opened → IsComparison b c audited)
        → IsGone file read new → SameFaults read new → IsSecondCompared found second (Ok audited) old new
    second_removed audited disk_old disk_new readable compared gone still = record {
      others = removed_kept;
      quiet = still ∙ (quiet ∙ same);
      cause = tt;
      compared = compared_by audited disk_old readable compared;
      gone = elim (cases_Bool read.tells) [
        | inl yes_tells ↦ (gone second (named_second yes_tells)).0
        | inr silent ↦ disk_new.no_contents second (removal.tells ∙ silent)
      ];
    }
