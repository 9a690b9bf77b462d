-- Lists of one base past a read of one of them and a push on another.
use Rattle.std.proofs.Common.{◌≡◌, ◌≢◌, ℕ, suc, ◌+◌, Bool, true, false, List, Option, [], ◌∷◌, ◌++◌, take, length, Some, refl, sym, ap, ◌∙◌, subst, arith, append_assoc}
use Rattle.std.specs.Prelude.{slice_get, IsSome}
use Rattle.std.proofs.lemmas.Bool.{false≢true}
use Rattle.std.proofs.Math.Seq.{take-suc}
use Rattle.std.proofs.lemmas.List.{get_or_push, length_push}
use Rattle.std.proofs.lemmas.Option.{get_or_from_slice_get, slice_get_within}
use Rattle.pos_edge.specs.View.{View, IsDisk}
use Rattle.pos_edge.specs.Frame.{ChangesOnly, Nothing, ReadsOnly, SameFaults}
use Rattle.pos_edge.specs.ScratchNames.{ScratchState, with_file, IsLeft}
use Rattle.pos_edge.specs.declared.scratch.ScratchFile.{ScratchFile}
use Rattle.pos_record.specs.Kinds.{value_read, pair_read, pair_width, number_read, number_width}
use Rattle.pos_record.specs.declared.kinds.Pair.{Pair}
use Rattle.pos_runs.specs.Pages.{ListPages, ListStands, ListHolds}
use Rattle.pos_runs.specs.Lists.{IsListWrite, IsListRead, IsNewList, ListKept, HasOneMore}
use Rattle.pos_runs.proofs.KeptLemmas.{kept-beside, kept-got, kept-read, kept-write, stands-beside}
use Rattle.pos_runs.proofs.ListLemmas.{stands-kept}
use Rattle.pos_list_uses.specs.declared.eight.EightLists.{EightLists}
use Rattle.pos_list_uses.specs.Eight.{EightPlainLists, AreMadeInTurn, AreAllKept}

-- a list that is neither read nor pushed on
pub kept-idle : {R : Type 0} (base : List ℕ) (read : List Bool → R) (w : ℕ) (s : ListPages) (xs : List R) (k : ℕ) (t u : ListPages) (ys : List Pair) (a b c : View) → IsDisk b → ReadsOnly a b
    → IsListWrite t u b c → ListKept base (pair_read k) (pair_width k) t ys a → s.number ≢ t.number → ListKept base read w s xs a → ListKept base read w s xs c
kept-idle base read w s xs k t u ys a b c disk only write own other h =
    kept-beside base read w s xs (pair_read k) (pair_width k) t ys b c disk write.frame write.ids other
    (kept-read base (pair_read k) (pair_width k) t ys a b only own) (kept-read base read w s xs a b only h)

-- the list that was read, and then another one was pushed on
pub kept-source : (base : List ℕ) (k : ℕ) (s r t u : ListPages) (xs ys : List Pair) (a b c : View) → IsDisk b → IsListRead s r a b → ListStands (pair_width k) r b
    → (ListHolds (pair_read k) (pair_width k) s xs a → ListHolds (pair_read k) (pair_width k) r xs b) → IsListWrite t u b c → s.number ≢ t.number → ListKept base (pair_read k) (pair_width k) t ys a
    → ListKept base (pair_read k) (pair_width k) s xs a → ListKept base (pair_read k) (pair_width k) r xs c
kept-source base k s r t u xs ys a b c disk got stands holds write other own h =
    kept-beside base (pair_read k) (pair_width k) r xs (pair_read k) (pair_width k) t ys b c disk write.frame write.ids (λ e. other (sym got.same.number ∙ e))
    (kept-read base (pair_read k) (pair_width k) t ys a b got.only own) (kept-got base (pair_read k) (pair_width k) s r xs a b got stands holds h)

-- the list that was pushed on after another one was read
pub kept-target : (base : List ℕ) (k : ℕ) (t u : ListPages) (ys zs : List Pair) (a b c : View) → ReadsOnly a b → IsListWrite t u b c → ListStands (pair_width k) u c
    → (ListHolds (pair_read k) (pair_width k) t ys b → ListHolds (pair_read k) (pair_width k) u zs c)
    → ListKept base (pair_read k) (pair_width k) t ys a → ListKept base (pair_read k) (pair_width k) u zs c
kept-target base k t u ys zs a b c only write stands holds own =
    kept-write base (pair_read k) (pair_width k) t u ys zs b c write stands holds (kept-read base (pair_read k) (pair_width k) t ys a b only own)

-- Eight lists, of which the seventh took what the sixth gave: a line a list.
pub eight-after : (K : ℕ) (base : List ℕ) (s : EightLists K) (xs : EightPlainLists) (r u : ListPages) (item : Pair) (a b c : View) → IsDisk b → IsListRead s.p6 r a b → ListStands (pair_width K) r b
    → ((zs : List Pair) → ListHolds (pair_read K) (pair_width K) s.p6 zs a → ListHolds (pair_read K) (pair_width K) r zs b) → IsListWrite s.p7 u b c → ListStands (pair_width K) u c
    → ((zs : List Pair) → ListHolds (pair_read K) (pair_width K) s.p7 zs b → ListHolds (pair_read K) (pair_width K) u (zs ++ item ∷ []) c) → AreAllKept K base s xs a
    → AreAllKept K base (record s { p6 = r; p7 = u }) (record xs { p7 = xs.p7 ++ item ∷ [] }) c
eight-after K base s xs r u item a b c disk got stands holds write pushed more h = record {
  in_turn = record {
    second = turn.second;
    third = turn.third;
    fourth = turn.fourth;
    fifth = turn.fifth;
    sixth = let same = got.same.number in let less = turn.sixth in omega arith;
    seventh = let same = got.same.number in let one = write.same.number in let less = turn.seventh in omega arith;
    eighth = let one = write.same.number in let less = turn.eighth in omega arith;
  };
  values = idle (value_read K) K s.values xs.values (λ e. omega arith) h.values;
  p2 = idle (pair_read K) (pair_width K) s.p2 xs.p2 (λ e. omega arith) h.p2;
  p3 = idle (pair_read K) (pair_width K) s.p3 xs.p3 (λ e. omega arith) h.p3;
  p4 = idle (pair_read K) (pair_width K) s.p4 xs.p4 (λ e. omega arith) h.p4;
  p5 = idle (pair_read K) (pair_width K) s.p5 xs.p5 (λ e. omega arith) h.p5;
  p6 = kept-source base K s.p6 r s.p7 u xs.p6 xs.p7 a b c disk got stands (holds xs.p6) write (λ e. omega arith) h.p7 h.p6;
  p7 = kept-target base K s.p7 u xs.p7 (xs.p7 ++ item ∷ []) a b c got.only write pushed (more xs.p7) h.p7;
  last = idle (number_read K) (number_width K) s.last xs.last (λ e. omega arith) h.last;
} where
  turn : AreMadeInTurn s
  turn = h.in_turn

  idle : {R : Type 0} (read : List Bool → R) (w : ℕ) (t : ListPages) (ts : List R) → t.number ≢ s.p7.number → ListKept base read w t ts a → ListKept base read w t ts c
  idle read w t ts other = kept-idle base read w t ts K s.p7 u xs.p7 a b c disk got.only write h.p7 other

-- ---- a list copied pair by pair

-- So many pairs of a list, which is now `from`, were put behind those of another, which is now `to`.
pub record AreCopied (k n : ℕ) (from0 from to0 to : ListPages) (start now : View) : Type 0 where
  pub from_stands : ListStands (pair_width k) from now
  pub sealed : from.is_sealed ≡ true
  pub from_count : from.count ≡ from0.count
  pub from_number : from.number ≡ from0.number
  pub to_stands : ListStands (pair_width k) to now
  pub unsealed : to.is_sealed ≡ false
  pub to_count : to.count ≡ to0.count + n
  pub to_number : to.number ≡ to0.number
  pub quiet : SameFaults start now
  pub tells : now.tells ≡ start.tells
  pub kept : (base : List ℕ) (xs ys : List Pair) → ListKept base (pair_read k) (pair_width k) from0 xs start → ListKept base (pair_read k) (pair_width k) to0 ys start
      → (zs : List Pair) × ListKept base (pair_read k) (pair_width k) from xs now × ListKept base (pair_read k) (pair_width k) to zs now × (start.tells ≡ true → zs ≡ ys ++ take n xs)

-- one more pair at the end of those that were taken
pub take-one_more : (xs : List Pair) (n : ℕ) (item : Pair) → slice_get xs n ≡ Some item → take n xs ++ item ∷ [] ≡ take (suc n) xs
take-one_more xs n item is = sym (take-suc xs n item (slice_get_within xs n item is) ∙ ap (λ x. take n xs ++ x ∷ []) (get_or_from_slice_get xs n item item is))

pub copied-more : (k n : ℕ) (s0 s r t0 t u : ListPages) (item : Pair) (start a b c : View) → IsDisk b → s0.number ≢ t0.number → IsListRead s r a b → ListStands (pair_width k) r b
    → ((zs : List Pair) → ListHolds (pair_read k) (pair_width k) s zs a → ListHolds (pair_read k) (pair_width k) r zs b)
    → ((zs : List Pair) → ListHolds (pair_read k) (pair_width k) s zs a → a.tells ≡ true → slice_get zs n ≡ Some item)
    → SameFaults a b → IsListWrite t u b c → ListStands (pair_width k) u c → HasOneMore t u
    → ((zs : List Pair) → ListHolds (pair_read k) (pair_width k) t zs b → ListHolds (pair_read k) (pair_width k) u (zs ++ item ∷ []) c)
    → SameFaults b c → AreCopied k n s0 s t0 t start a → AreCopied k (n + 1) s0 r t0 u start c
copied-more k n s0 s r t0 t u item start a b c disk other got stands holds value quiet_read write pushed one more quiet_write h = record {
  from_stands = stands-past;
  sealed = got.is_sealed ∙ h.sealed;
  from_count = got.count ∙ h.from_count;
  from_number = got.same.number ∙ h.from_number;
  to_stands = pushed;
  unsealed = one.is_sealed;
  to_count = let added = one.count in let before = h.to_count in omega arith;
  to_number = write.same.number ∙ h.to_number;
  quiet = quiet_write ∙ quiet_read ∙ h.quiet;
  tells = write.frame.frame.tells ∙ got.only.kept.tells ∙ h.tells;
  kept = λ base xs ys from to.
      let before : (zs : List Pair) × ListKept base (pair_read k) (pair_width k) s xs a × ListKept base (pair_read k) (pair_width k) t zs a × (start.tells ≡ true → zs ≡ ys ++ take n xs) = h.kept base xs ys from to in (
        before.0 ++ item ∷ [],
        kept-source base k s r t u xs before.0 a b c disk got stands (holds xs) write apart before.2 before.1,
        kept-target base k t u before.0 (before.0 ++ item ∷ []) a b c got.only write pushed (more before.0) before.2,
        λ tells. longer xs ys before.0 (before.3 tells) (value xs before.1.holds (h.tells ∙ tells)),
      );
} where
  apart : s.number ≢ t.number
  apart e = other (sym h.from_number ∙ e ∙ h.to_number)

  stands-past : ListStands (pair_width k) r c
  stands-past = stands-beside (pair_width k) r t.file b c write.frame write.ids stands

  longer : (xs ys zs : List Pair) → zs ≡ ys ++ take n xs → slice_get xs n ≡ Some item → zs ++ item ∷ [] ≡ ys ++ take (n + 1) xs
  longer xs ys zs is at =
      let next : n + 1 ≡ suc n = omega arith in
      ap (λ l. l ++ item ∷ []) is ∙ append_assoc ys (take n xs) (item ∷ []) ∙ ap (λ l. ys ++ l) (take-one_more xs n item at ∙ ap (λ m. take m xs) (sym next))

-- a file that was just made can be removed
pub made-left : (s : ScratchState) (file : ℕ) → IsLeft (with_file s file) file
made-left s file =
    let last : ScratchFile = record { number = s.made; file = record { 0 = file } } in
    (length s.left, last, let l = length_push s.left last in omega arith, get_or_push s.left last last (length s.left) refl, refl)

-- any list stands past the making of another one
pub stands-made : (w : ℕ) (scratch : ScratchState) (s t : ListPages) (names : List ℕ → Type 0) (a b : View) → ChangesOnly names Nothing a b → IsNewList scratch t a b → ListStands w s a → ListStands w s b
stands-made w scratch s t names a b kept new h =
    let apart : s.file ≡ t.file → ⊥ = (λ same. false≢true (sym new.created.fresh ∙ ap a.is_live (sym same) ∙ h.live)) in
    let size : b.size_of s.file ≡ a.size_of s.file = kept.size s.file h.live (λ x. absurd x) in
    stands-kept w s a b (new.created.others.live s.file apart ∙ h.live)
    (λ tells. subst (λ (name : Option (List ℕ)). IsSome name) (sym (new.created.others.name s.file apart)) (h.there (sym kept.tells ∙ tells))) (omega arith) h
