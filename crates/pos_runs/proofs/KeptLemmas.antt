-- Lists of one `Scratch` past each other's calls: a line a list. On every disk a list stands past any call that keeps the
-- life and the name of each FileId; that it holds its records comes from the numbers in the names.
use Rattle.std.proofs.Common.{◌≡◌, ◌≢◌, ℕ, ◌≤◌, ◌<◌, Bool, List, Option, Some, sym, ap, ◌∙◌, subst, inl, inr, arith}
use Rattle.std.specs.Prelude.{[], IsSome}
use Rattle.std.proofs.lemmas.Bool.{cases_Bool, cases_eq, false≢true}
use Rattle.std.proofs.lemmas.Option.{none-some}
use Rattle.pos_edge.specs.View.{View, IsDisk}
use Rattle.pos_edge.specs.Frame.{ChangesOnly, ChangesFile, KeepsIds, ReadsOnly, Nothing, Just, NameOf}
use Rattle.pos_edge.specs.Calls.{IsCreated}
use Rattle.pos_edge.specs.ScratchNames.{ScratchState, scratch_name, next_name}
use Rattle.pos_edge.proofs.ScratchFiles.{scratch_name-same}
use Rattle.pos_runs.specs.Pages.{ListPages, ListStands, ListHolds}
use Rattle.pos_runs.specs.Lists.{IsListWrite, IsListRead, IsNewList, ListKept}
use Rattle.pos_runs.proofs.ListLemmas.{holds-kept, read-holds, read-stands, stands-kept}

-- any list stands past a write to any file
pub stands-beside : (w : ℕ) (s : ListPages) (file : ℕ) (a b : View) → ChangesFile file a b → KeepsIds Nothing a b → ListStands w s a → ListStands w s b
stands-beside w s file a b kept ids h =
    stands-kept w s a b (ids.live s.file (λ x. absurd x) ∙ h.live)
    (λ tells. subst (λ (name : Option (List ℕ)). IsSome name) (sym (ids.name s.file (λ x. absurd x))) (h.there (sym kept.frame.tells ∙ tells)))
    (elim (cases_eq s.file file) [
      | inl same ↦ subst (λ f. a.size_of f ≤ b.size_of f) (sym same) kept.grows
      | inr other ↦ let size = kept.frame.size s.file h.live other in omega arith
    ]) h

-- a list that was made
pub kept-new : {R : Type 0} (read : List Bool → R) (w : ℕ) (scratch : ScratchState) (s : ListPages) (a b : View) → scratch.made < 10000 → IsNewList scratch s a b → ListStands w s b → ListHolds read w s [] b
    → ListKept scratch.base read w s [] b
kept-new read w scratch s a b few new stands holds = record {
  few = let number = new.number in omega arith;
  named = λ tells. subst (λ n. NameOf s.file b (scratch_name scratch.base n)) (sym new.number) (new.created.named tells);
  stands = stands;
  holds = holds;
}

-- the list itself after it was written or read
pub kept-write : {R : Type 0} (base : List ℕ) (read : List Bool → R) (w : ℕ) (s t : ListPages) (xs ys : List R) (a b : View) → IsListWrite s t a b → ListStands w t b
    → (ListHolds read w s xs a → ListHolds read w t ys b) → ListKept base read w s xs a → ListKept base read w t ys b
kept-write base read w s t xs ys a b write stands holds h = record {
  few = let number = write.same.number in let few = h.few in omega arith;
  named = λ tells.
      let before : NameOf s.file a (scratch_name base s.number) = h.named (sym write.frame.frame.tells ∙ tells) in
      let after : NameOf s.file b (scratch_name base s.number) = write.frame.name ∙ before in
      subst (λ n. NameOf t.file b (scratch_name base n)) (sym write.same.number) (subst (λ f. NameOf f b (scratch_name base s.number)) (sym write.same.file) after);
  stands = stands;
  holds = holds h.holds;
}

pub kept-got : {R : Type 0} (base : List ℕ) (read : List Bool → R) (w : ℕ) (s t : ListPages) (xs : List R) (a b : View) → IsListRead s t a b → ListStands w t b
    → (ListHolds read w s xs a → ListHolds read w t xs b) → ListKept base read w s xs a → ListKept base read w t xs b
kept-got base read w s t xs a b got stands holds h = record {
  few = let number = got.same.number in let few = h.few in omega arith;
  named = λ tells.
      let before : NameOf s.file a (scratch_name base s.number) = h.named (sym got.only.kept.tells ∙ tells) in
      let after : NameOf s.file b (scratch_name base s.number) = got.only.ids.name s.file (λ x. absurd x) ∙ before in
      subst (λ n. NameOf t.file b (scratch_name base n)) (sym got.same.number) (subst (λ f. NameOf f b (scratch_name base s.number)) (sym got.same.file) after);
  stands = stands;
  holds = holds h.holds;
}

-- another list past reads of any file
pub kept-read : {R : Type 0} (base : List ℕ) (read : List Bool → R) (w : ℕ) (s : ListPages) (xs : List R) (a b : View) → ReadsOnly a b → ListKept base read w s xs a → ListKept base read w s xs b
kept-read base read w s xs a b only h = record {
  few = h.few;
  named = λ tells. only.ids.name s.file (λ x. absurd x) ∙ h.named (sym only.kept.tells ∙ tells);
  stands = read-stands w s a b only h.stands;
  holds = read-holds read w s xs a b only h.holds;
}

-- names of other numbers are other names
pub other-names : (base : List ℕ) (m n : ℕ) → m < 10000 → n < 10000 → m ≢ n → scratch_name base m ≡ scratch_name base n → ⊥
other-names base m n p q other same = other (scratch_name-same base m n (omega arith) (omega arith) same)

-- the name of a list's file is that of its number, where it has one
name-is : {R : Type 0} (base : List ℕ) (read : List Bool → R) (w : ℕ) (s : ListPages) (xs : List R) (n : List ℕ) (a : View) → IsDisk a → ListKept base read w s xs a → NameOf s.file a n → n ≡ scratch_name base s.number
name-is base read w s xs n a disk h named = elim (cases_Bool a.tells) [
  | inl tells ↦ let same : Some n ≡ Some (scratch_name base s.number) = sym named ∙ h.named tells in cc
  | inr silent ↦
      let there = (disk.named s.file n named).there in
      absurd (none-some there.0 (sym (disk.no_contents n silent) ∙ there.1))
]

-- another list past a write to the file of a list of another number
pub kept-beside : {R S : Type 0} (base : List ℕ) (read : List Bool → R) (w : ℕ) (s : ListPages) (xs : List R) (other_read : List Bool → S) (v : ℕ) (t : ListPages) (ys : List S) (a b : View)
    → IsDisk a → ChangesFile t.file a b → KeepsIds Nothing a b → s.number ≢ t.number → ListKept base other_read v t ys a → ListKept base read w s xs a → ListKept base read w s xs b
kept-beside base read w s xs other_read v t ys a b disk kept ids other own h =
    let name : b.name_of s.file ≡ a.name_of s.file = ids.name s.file (λ x. absurd x) in
    let not_own : (n : List ℕ) → NameOf s.file a n → NameOf t.file a n → ⊥ =
    (λ n mine yours. other-names base s.number t.number h.few own.few other (sym (name-is base read w s xs n a disk h mine) ∙ name-is base other_read v t ys n a disk own yours)) in
    record {
      few = h.few;
      named = λ tells. name ∙ h.named (sym kept.frame.tells ∙ tells);
      stands = stands-beside w s t.file a b kept ids h.stands;
      holds = holds-kept read w s xs a b kept.frame.tells name (λ n named. kept.frame.contents n (not_own n named)) h.holds;
    }

-- another list past the making of one more
pub kept-made : {R : Type 0} (read : List Bool → R) (w : ℕ) (scratch : ScratchState) (s : ListPages) (xs : List R) (file : ℕ) (a b : View) → IsDisk a → scratch.made < 10000 → s.number < scratch.made
    → ChangesOnly (Just (next_name scratch)) Nothing a b → IsCreated (next_name scratch) file a b → ListKept scratch.base read w s xs a → ListKept scratch.base read w s xs b
kept-made read w scratch s xs file a b disk few earlier kept new h =
    let apart : s.file ≡ file → ⊥ = (λ same. false≢true (sym new.fresh ∙ ap a.is_live (sym same) ∙ h.stands.live)) in
    let name : b.name_of s.file ≡ a.name_of s.file = new.others.name s.file apart in
    let size : b.size_of s.file ≡ a.size_of s.file = kept.size s.file h.stands.live (λ x. absurd x) in
    let not_new : (n : List ℕ) → NameOf s.file a n → n ≡ next_name scratch → ⊥ =
    (λ n mine is. other-names scratch.base s.number scratch.made h.few few (λ e. omega arith) (sym (name-is scratch.base read w s xs n a disk h mine) ∙ is)) in
    record {
      few = h.few;
      named = λ tells. name ∙ h.named (sym kept.tells ∙ tells);
      stands = stands-kept w s a b (new.others.live s.file apart ∙ h.stands.live)
          (λ tells. subst (λ (x : Option (List ℕ)). IsSome x) (sym name) (h.stands.there (sym kept.tells ∙ tells))) (omega arith) h.stands;
      holds = holds-kept read w s xs a b kept.tells name (λ n named. kept.contents n (not_new n named)) h.holds;
    }
