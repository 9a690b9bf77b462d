-- Two lists that are written side by side.
use Rattle.std.proofs.Common.{◌≡◌, ℕ, ◌+◌, ◌<◌, Bool, false, true, List, [], ◌∷◌, ◌++◌, length, map, take, get_or, add-one, refl, sym, ap, ◌∙◌, subst, inl, inr, arith, append_assoc, length-append}
use Rattle.std.proofs.Math.Seq.{take-suc}
use Rattle.std.proofs.lemmas.List.{append-nil, map-append}
use Rattle.pos_edge.specs.View.{View, IsDisk}
use Rattle.std.proofs.lemmas.Bool.{cases_Bool, false≢true}
use Rattle.std.proofs.Common.{◌⊎◌, ◌≤◌}
use Rattle.pos_edge.specs.Frame.{ChangesOnly, NameOf, Nothing, Just}
use Rattle.pos_edge.specs.ScratchNames.{ScratchState, next_name, with_file}
use Rattle.pos_edge.specs.ScratchWork.{IsNameBetween}
use Rattle.pos_edge.proofs.Frames.{frame_none, frame_then, frame_wider}
use Rattle.pos_runs.specs.Pages.{ListPages, ListStands, ListHolds}
use Rattle.pos_runs.specs.Lists.{IsListWrite, IsNewList, IsSealedFrom, HasOneMore, ListKept}
use Rattle.pos_runs.proofs.KeptLemmas.{kept-beside, kept-made, kept-new, kept-write, stands-beside}
use Rattle.pos_forward.specs.Storing.{IsNameOfTwo, IsOneOfTwo, AreListWrites, IsOpenList, AreKept, AreNewLists, AreSealedBoth, HaveMore}

-- a record on each of two lists, one after the other
pub more_both : {R S : Type 0} (read : List Bool → R) (w : ℕ) (other_read : List Bool → S) (x : ℕ) (s t u v : ListPages) (item : R) (other : S) (a b c : View) → IsDisk a → IsDisk b
    → IsListWrite s t a b → ListStands w t b → HasOneMore s t → ((xs : List R) → ListHolds read w s xs a → ListHolds read w t (xs ++ item ∷ []) b)
    → IsListWrite u v b c → ListStands x v c → HasOneMore u v → ((ys : List S) → ListHolds other_read x u ys b → ListHolds other_read x v (ys ++ other ∷ []) c)
    → HaveMore read w other_read x s t u v (item ∷ []) (other ∷ []) a c
more_both {R} {S} read w other_read x s t u v item other a b c disk_a disk_b write stands more holds other_write other_stands other_more other_holds = record {
  first = record { stands = stands-beside w t u.file b c other_write.frame other_write.ids stands; unsealed = more.is_sealed };
  second = record { stands = other_stands; unsealed = other_more.is_sealed };
  first_count = more.count;
  second_count = other_more.count;
  kept = after;
} where
  after : (base : List ℕ) (xs : List R) (ys : List S) → AreKept base read w other_read x s u xs ys a → AreKept base read w other_read x t v (xs ++ item ∷ []) (ys ++ other ∷ []) c
  after base xs ys h =
      let beside : ListKept base other_read x u ys b = kept-beside base other_read x u ys read w s xs a b disk_a write.frame write.ids (λ e. h.apart (sym e)) h.first h.second in
      let own : ListKept base read w t (xs ++ item ∷ []) b = kept-write base read w s t xs (xs ++ item ∷ []) a b write stands (holds xs) h.first in
      record {
        first = kept-beside base read w t (xs ++ item ∷ []) other_read x u ys b c disk_b other_write.frame other_write.ids (λ e. h.apart (sym write.same.number ∙ e)) beside own;
        second = kept-write base other_read x u v ys (ys ++ other ∷ []) b c other_write other_stands (other_holds ys) beside;
        apart = λ e. h.apart (sym write.same.number ∙ e ∙ other_write.same.number);
      }

-- nothing was pushed yet
pub more_none : {R S : Type 0} (read : List Bool → R) (w : ℕ) (other_read : List Bool → S) (x : ℕ) (s u : ListPages) (a : View) → IsOpenList w s a → IsOpenList x u a
    → HaveMore read w other_read x s s u u [] [] a a
more_none read w other_read x s u a first second = record {
  first = first;
  second = second;
  first_count = omega arith;
  second_count = omega arith;
  kept = λ base xs ys h. subst (λ zs. AreKept base read w other_read x s u zs (ys ++ []) a) (sym (append-nil xs)) (subst (λ zs. AreKept base read w other_read x s u xs zs a) (sym (append-nil ys)) h);
}

-- more records behind others
pub more_then : {R S : Type 0} (read : List Bool → R) (w : ℕ) (other_read : List Bool → S) (x : ℕ) (s t q u v z : ListPages) (items more : List R) (others rest : List S) (a b c : View)
    → HaveMore read w other_read x s t u v items others a b → HaveMore read w other_read x t q v z more rest b c
    → HaveMore read w other_read x s q u z (items ++ more) (others ++ rest) a c
more_then read w other_read x s t q u v z items more others rest a b c h g = record {
  first = g.first;
  second = g.second;
  first_count = let p = h.first_count in let r = g.first_count in omega (arith, length-append items more);
  second_count = let p = h.second_count in let r = g.second_count in omega (arith, length-append others rest);
  kept = λ base xs ys both.
      let after = g.kept base (xs ++ items) (ys ++ others) (h.kept base xs ys both) in
      subst (λ zs. AreKept base read w other_read x q z zs (ys ++ (others ++ rest)) c) (append_assoc xs items more)
      (subst (λ zs. AreKept base read w other_read x q z ((xs ++ items) ++ more) zs c) (append_assoc ys others rest) after);
}

-- no list was written yet
pub writes_none : (s u : ListPages) (a : View) → AreListWrites s s u u a a
writes_none s u a = record {
  frame = frame_none (IsNameOfTwo s.file u.file a) (IsOneOfTwo s.file u.file) a;
  ids = record { live = λ f p. refl; name = λ f p. refl };
  reads = refl;
  first = record { file = refl; number = refl };
  second = record { file = refl; number = refl };
}

-- the first list alone was written, or the second
pub first_written : (s t u : ListPages) (a b : View) → IsListWrite s t a b → AreListWrites s t u u a b
first_written s t u a b write = record {
  frame = frame_wider (IsNameOfTwo s.file u.file a) (NameOf s.file a) (IsOneOfTwo s.file u.file) (Just s.file) a b (λ n p. inl p) (λ f l p. inl p) write.frame.frame;
  ids = write.ids;
  reads = write.reads;
  first = write.same;
  second = record { file = refl; number = refl };
}

pub second_written : (s u v : ListPages) (a b : View) → IsListWrite u v a b → AreListWrites s s u v a b
second_written s u v a b write = record {
  frame = frame_wider (IsNameOfTwo s.file u.file a) (NameOf u.file a) (IsOneOfTwo s.file u.file) (Just u.file) a b (λ n p. inr p) (λ f l p. inr p) write.frame.frame;
  ids = write.ids;
  reads = write.reads;
  first = record { file = refl; number = refl };
  second = write.same;
}

-- writes after others
pub writes_then : (s t q u v z : ListPages) (a b c : View) → AreListWrites s t u v a b → AreListWrites t q v z b c → AreListWrites s q u z a c
writes_then s t q u v z a b c h g = record {
  frame = frame_then (IsNameOfTwo s.file u.file a) (IsNameOfTwo s.file u.file a) (IsNameOfTwo t.file v.file b) (IsOneOfTwo s.file u.file) (IsOneOfTwo s.file u.file) (IsOneOfTwo t.file v.file) a b c
      (λ n p. p)
      (λ n p. elim p [
        | inl first ↦ inl (sym (h.ids.name s.file (λ e. e)) ∙ subst (λ f. NameOf f b n) h.first.file first)
        | inr second ↦ inr (sym (h.ids.name u.file (λ e. e)) ∙ subst (λ f. NameOf f b n) h.second.file second)
      ])
      (λ f l p. p)
      (λ f l p. elim p [ inl first ↦ inl (first ∙ h.first.file) | inr second ↦ inr (second ∙ h.second.file) ])
      h.frame g.frame;
  ids = record { live = λ f p. g.ids.live f p ∙ h.ids.live f p; name = λ f p. g.ids.name f p ∙ h.ids.name f p };
  reads = g.reads ∙ h.reads;
  first = record { file = g.first.file ∙ h.first.file; number = g.first.number ∙ h.first.number };
  second = record { file = g.second.file ∙ h.second.file; number = g.second.number ∙ h.second.number };
}

pub both_written : (s t u v : ListPages) (a b c : View) → IsListWrite s t a b → IsListWrite u v b c → AreListWrites s t u v a c
both_written s t u v a b c one two = writes_then s t t u u v a b c (first_written s t u a b one) (second_written t u v b c two)

-- one more of the items that were turned
pub take_more : {X Y : Type 0} (f : X → Y) (xs : List X) (i : ℕ) (x : X) (y : Y) → i < length xs → x ≡ get_or xs i x → y ≡ f x → map f (take (i + 1) xs) ≡ map f (take i xs) ++ y ∷ []
take_more f xs i x y h is made =
    let step : take (i + 1) xs ≡ take i xs ++ get_or xs i x ∷ [] = ap (λ n. take n xs) (add-one i) ∙ take-suc xs i x h in
    ap (map f) step ∙ map-append f (take i xs) (get_or xs i x ∷ []) ∙ ap (λ z. map f (take i xs) ++ z ∷ []) (ap f (sym is) ∙ sym made)

-- one more pair of records
pub more_step : {X R S : Type 0} (read : List Bool → R) (w : ℕ) (other_read : List Bool → S) (x : ℕ) (f : X → R) (g : X → S) (rows : List X) (i : ℕ) (row : X) (item : R) (other : S) (s t q u v z : ListPages) (a b c : View)
    → i < length rows → row ≡ get_or rows i row → item ≡ f row → other ≡ g row
    → HaveMore read w other_read x s t u v (map f (take i rows)) (map g (take i rows)) a b → HaveMore read w other_read x t q v z (item ∷ []) (other ∷ []) b c
    → HaveMore read w other_read x s q u z (map f (take (i + 1) rows)) (map g (take (i + 1) rows)) a c
more_step read w other_read x f g rows i row item other s t q u v z a b c h is made other_made before one =
    let whole = more_then read w other_read x s t q u v z (map f (take i rows)) (item ∷ []) (map g (take i rows)) (other ∷ []) a b c before one in
    subst (λ xs. HaveMore read w other_read x s q u z xs (map g (take (i + 1) rows)) a c) (sym (take_more f rows i row item h is made))
    (subst (λ ys. HaveMore read w other_read x s q u z (map f (take i rows) ++ item ∷ []) ys a c) (sym (take_more g rows i row other h is other_made)) whole)

-- two lists sealed one after the other
pub sealed_both : {R S : Type 0} (read : List Bool → R) (w : ℕ) (other_read : List Bool → S) (x : ℕ) (s t u v : ListPages) (a b c : View) → IsDisk a → IsDisk b
    → IsListWrite s t a b → ListStands w t b → IsSealedFrom s t → ((xs : List R) → ListHolds read w s xs a → ListHolds read w t xs b)
    → IsListWrite u v b c → ListStands x v c → IsSealedFrom u v → ((ys : List S) → ListHolds other_read x u ys b → ListHolds other_read x v ys c)
    → AreSealedBoth read w other_read x s t u v a c
sealed_both {R} {S} read w other_read x s t u v a b c disk_a disk_b write stands from holds other_write other_stands other_from other_holds = record {
  first = from;
  second = other_from;
  kept = after;
} where
  after : (base : List ℕ) (xs : List R) (ys : List S) → AreKept base read w other_read x s u xs ys a → AreKept base read w other_read x t v xs ys c
  after base xs ys h =
      let beside : ListKept base other_read x u ys b = kept-beside base other_read x u ys read w s xs a b disk_a write.frame write.ids (λ e. h.apart (sym e)) h.first h.second in
      let own : ListKept base read w t xs b = kept-write base read w s t xs xs a b write stands (holds xs) h.first in
      record {
        first = kept-beside base read w t xs other_read x u ys b c disk_b other_write.frame other_write.ids (λ e. h.apart (sym write.same.number ∙ e)) beside own;
        second = kept-write base other_read x u v ys ys b c other_write other_stands (other_holds ys) beside;
        apart = λ e. h.apart (sym write.same.number ∙ e ∙ other_write.same.number);
      }

-- two lists made one after the other
pub new_both : {R S : Type 0} (read : List Bool → R) (w : ℕ) (other_read : List Bool → S) (x : ℕ) (s t r : ScratchState) (u v : ListPages) (a b c : View) → IsDisk a → IsDisk b → s.made + 2 ≤ 10000
    → IsNewList s u a b → t ≡ with_file s u.file → ListStands w u b → ListHolds read w u [] b
    → ChangesOnly (Just (next_name t)) Nothing b c → IsNewList t v b c → r ≡ with_file t v.file → ListStands x v c → ListHolds other_read x v [] c
    → ChangesOnly (IsNameBetween s.base s.made t.made) Nothing a b
    → AreNewLists read w other_read x s r u v a c
new_both read w other_read x s t r u v a b c disk_a disk_b few new made stands holds kept other_new other_made other_stands other_holds frame =
    let t_made : t.made ≡ s.made + 1 = ap (λ (z : ScratchState). z.made) made in
    let t_base : t.base ≡ s.base = ap (λ (z : ScratchState). z.base) made in
    let own : ListKept s.base read w u [] b = kept-new read w s u a b (omega arith) new stands holds in
    let moved : ListKept t.base read w u [] b = subst (λ base. ListKept base read w u [] b) (sym t_base) own in
    let past : ListKept t.base read w u [] c = kept-made read w t u [] v.file b c disk_b (omega arith) (let n = new.number in omega arith) kept other_new.created moved in
    let first : ListKept s.base read w u [] c = subst (λ base. ListKept base read w u [] c) t_base past in
    let second : ListKept s.base other_read x v [] c = subst (λ base. ListKept base other_read x v [] c) t_base (kept-new other_read x t v b c (omega arith) other_new other_stands other_holds) in
    record {
      first = record { stands = first.stands; unsealed = new.is_sealed };
      second = record { stands = other_stands; unsealed = other_new.is_sealed };
      first_none = new.count;
      second_none = other_new.count;
      files = record {
        is = other_made ∙ ap (λ z. with_file z v.file) made;
        first_number = new.number;
        second_number = other_new.number ∙ t_made;
        first_new = new.created.fresh;
        second_new = not_live (cases_Bool (a.is_live v.file));
      };
      kept = record { first = first; second = second; apart = λ e. let n = new.number in let m = other_new.number in omega arith };
    } where
      not_live : (a.is_live v.file ≡ true) ⊎ (a.is_live v.file ≡ false) → a.is_live v.file ≡ false
      not_live (inl live) = absurd (false≢true (sym other_new.created.fresh ∙ frame.live v.file live (λ x. x)))
      not_live (inr dead) = dead
