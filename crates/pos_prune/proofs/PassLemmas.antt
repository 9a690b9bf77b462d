-- Passes over the pairs of a table, one place after another.
use Rattle.std.proofs.Common.{◌≡◌, ℕ, zero, suc, ◌+◌, ◌<◌, ◌≤◌, Bool, true, false, Some, Result, Ok, Err, refl, sym, ap, ◌∙◌, subst, inl, inr, arith, get_or-set_other}
use Rattle.std.specs.Prelude.{IfErr, IsErrAnd, slice_get, slice_set}
use Rattle.std.proofs.lemmas.Bool.{cases_eq}
use Rattle.std.proofs.lemmas.List.{length-map}
use Rattle.std.proofs.lemmas.Option.{get_or_from_slice_get}
use Rattle.pos_edge.specs.View.{View}
use Rattle.pos_edge.specs.Frame.{ReadsOnly, Nothing, SameFaults}
use Rattle.pos_edge.specs.declared.scratch.ScratchDamage.{ScratchDamage}
use Rattle.pos_edge.specs.declared.scratch.WorkFault.{WorkFault}
use Rattle.pos_edge.specs.declared.scratch.WorkFault.TheVariants.{Scratch}
use Rattle.pos_edge.proofs.FaultLemmas.{Rose-since}
use Rattle.pos_edge.proofs.Frames.{frame_then}
use Rattle.pos_lists.specs.TableLists.{TableLists, PairsInside, entries, left_of, pairs_of, right_of}
use Rattle.pos_lists.specs.Places.{with_place}
use Rattle.pos_lists.specs.Used.{NamedBelow}
use Rattle.pos_lists.proofs.NamedLemmas.{a_pair_is_named, a_pair_is_passed_over}
use Rattle.pos_marks.specs.declared.set.Marks.{Marks}
use Rattle.pos_marks.specs.Marks.{AreUnsealed, Marked, SameMarks}
use Rattle.pos_marks.proofs.MarkLemmas.{marked_reads}
use Rattle.pos_marks.proofs.PageLemmas.{ids_then}
use Rattle.pos_runs.specs.Lists.{IsListRead}
use Rattle.pos_runs.specs.Pages.{ListPages}
use Rattle.pos_runs.specs.Runs.{TablesState, TablesStand, no_pages, pages_at, pair_record, value_record}
use Rattle.pos_runs.proofs.TablesLemmas.{tables-read}
use Rattle.pos_prune.specs.Passes.{HasAsked, HasMarked, IsPairDamage, IsPassFault, SameLists, gives, is_marked}

-- ---- reads

pub reads_then : (a b c : View) → ReadsOnly a b → ReadsOnly b c → ReadsOnly a c
reads_then a b c p q = record {
  kept = frame_then Nothing Nothing Nothing Nothing Nothing Nothing a b c (λ n x. x) (λ n x. x) (λ f l x. x) (λ f l x. x) p.kept q.kept;
  ids = ids_then a b c p.ids q.ids;
}

pub lists_none : (t : TablesState) → SameLists t t
lists_none t = record { file = λ j. refl; number = λ j. refl; count = λ j. refl }

pub lists_then : (t u v : TablesState) → SameLists t u → SameLists u v → SameLists t v
lists_then t u v p q = record {
  file = λ j. q.file j ∙ p.file j;
  number = λ j. q.number j ∙ p.number j;
  count = λ j. q.count j ∙ p.count j;
}

-- one list was read
pub lists_read : (t u : TablesState) (n : ℕ) (a b : View) → u ≡ slice_set t n (pages_at u n) → IsListRead (pages_at t n) (pages_at u n) a b → SameLists t u
lists_read t u n a b is got = record {
  file = λ j. at j (λ (s : ListPages). s.file) got.same.file;
  number = λ j. at j (λ (s : ListPages). s.number) got.same.number;
  count = λ j. at j (λ (s : ListPages). s.count) got.count;
} where
  at : (j : ℕ) (f : ListPages → ℕ) → f (pages_at u n) ≡ f (pages_at t n) → f (pages_at u j) ≡ f (pages_at t j)
  at j f same = elim (cases_eq j n) [
    | inl e ↦ subst (λ (x : ℕ). f (pages_at u x) ≡ f (pages_at t x)) (sym e) same
    | inr other ↦ ap (λ (x : TablesState). f (pages_at x j)) is ∙ ap f (get_or-set_other t n j (pages_at u n) no_pages other)
  ]

-- ---- what tables stand for

-- a level has as many places as its list has records
pub entries_count : (k : ℕ) (t : TablesState) (ts : TableLists) (v : View) (n : ℕ) → n ≤ 6 → TablesStand k t ts v → entries ts n ≡ (pages_at t n).count
unfolding entries
entries_count k t ts v zero few h = sym (length-map ts.values value_record) ∙ h.values.count
entries_count k t ts v (suc n) few h = sym (length-map (pairs_of ts (suc n)) pair_record) ∙ (h.pairs n (omega arith)).count

-- the places of the pair that was read
pub left_read : (ts : TableLists) (n i : ℕ) (pair : ℕ × ℕ) → slice_get (pairs_of ts n) i ≡ Some pair → left_of ts n i ≡ pair.0
left_read ts n i pair is = ap (λ (p : ℕ × ℕ). p.0) (get_or_from_slice_get (pairs_of ts n) i pair (0, 0) is)

pub right_read : (ts : TableLists) (n i : ℕ) (pair : ℕ × ℕ) → slice_get (pairs_of ts n) i ≡ Some pair → right_of ts n i ≡ pair.1
right_read ts n i pair is = ap (λ (p : ℕ × ℕ). p.1) (get_or_from_slice_get (pairs_of ts n) i pair (0, 0) is)

-- where pairs point inside, so does the one that was read
pub pair_inside : (k : ℕ) (t : TablesState) (ts : TableLists) (v : View) (n i : ℕ) (pair : ℕ × ℕ) → n < 6 → TablesStand k t ts v → PairsInside ts 6 → i < (pages_at t (suc n)).count
    → slice_get (pairs_of ts (suc n)) i ≡ Some pair → (pair.0 < (pages_at t n).count) × (pair.1 < (pages_at t n).count)
pair_inside k t ts v n i pair few h inside there is =
    let above : entries ts (suc n) ≡ (pages_at t (suc n)).count = entries_count k t ts v (suc n) (omega arith) h in
    let below : entries ts n ≡ (pages_at t n).count = entries_count k t ts v n (omega arith) h in
    let both : (left_of ts (suc n) i < entries ts n) × (right_of ts (suc n) i < entries ts n) = inside n i few (omega arith) in
    let left : left_of ts (suc n) i ≡ pair.0 = left_read ts (suc n) i pair is in
    let right : right_of ts (suc n) i ≡ pair.1 = right_read ts (suc n) i pair is in
    let first = both.0 in
    let second = both.1 in
    (omega arith, omega arith)

-- ---- one pair

-- a pair was read and both of its places were marked
pub pair_marked : (k n i m : ℕ) (t u : TablesState) (pair : ℕ × ℕ) (m0 m1 m2 : Marks) (a b c d : View) → m ≡ suc n → c ≡ b → d ≡ c
    → u ≡ slice_set t m (pages_at u m) → IsListRead (pages_at t m) (pages_at u m) a b → SameFaults a b
    → ((ts : TableLists) → TablesStand k t ts a → TablesStand k u ts b)
    → ((ts : TableLists) → TablesStand k t ts a → a.tells ≡ true → slice_get (pairs_of ts m) i ≡ Some pair)
    → SameMarks m0 m1 → SameMarks m1 m2 → AreUnsealed m2
    → ((p : ℕ → Bool) → Marked m0 p b → Marked m1 (with_place pair.0 p) c) → ((p : ℕ → Bool) → Marked m1 p c → Marked m2 (with_place pair.1 p) d)
    → HasMarked k n i (i + 1) (gives i) t u m0 m2 a d
pair_marked k n i m t u pair m0 m1 m2 a b c d level first second others got quiet stands value same0 same1 unsealed set0 set1 =
    let whole : d ≡ b = second ∙ first in
    record {
      only = subst (λ (v : View). ReadsOnly a v) (sym whole) got.only;
      quiet = subst (λ (v : View). SameFaults a v) (sym whole) quiet;
      lists = lists_read t u m a b others got;
      stands = λ ts h. subst (λ (v : View). TablesStand k u ts v) (sym whole) (stands ts h);
      same = record { places = same1.places ∙ same0.places; number = same1.number ∙ same0.number; file = same1.file ∙ same0.file };
      unsealed = unsealed;
      pairs = λ ts p h marks. (
        with_place pair.1 (with_place pair.0 p),
        set1 (with_place pair.0 p) (set0 p (marked_reads m0 p a b got.only marks)),
        λ tells upper given named.
            let is : slice_get (pairs_of ts (suc n)) i ≡ Some pair = subst (λ (x : ℕ). slice_get (pairs_of ts x) i ≡ Some pair) level (value ts h tells) in
            let more : suc i ≡ i + 1 = omega arith in
            subst (λ (x : ℕ). NamedBelow ts n upper x (with_place pair.1 (with_place pair.0 p))) more
            (subst (λ (r : ℕ). NamedBelow ts n upper (suc i) (with_place r (with_place pair.0 p))) (right_read ts (suc n) i pair is)
            (subst (λ (l : ℕ). NamedBelow ts n upper (suc i) (with_place (right_of ts (suc n) i) (with_place l p))) (left_read ts (suc n) i pair is)
            (a_pair_is_named ts n i upper p given named))),
      );
    }

-- a pair was read that points outside
pub pair_outside : (k n i m : ℕ) (t u : TablesState) (pair : ℕ × ℕ) (d : ScratchDamage) (limit : ℕ) (a b : View) → n < 6 → m ≡ suc n → i < (pages_at t m).count
    → u ≡ slice_set t m (pages_at u m) → IsListRead (pages_at t m) (pages_at u m) a b → SameFaults a b
    → ((ts : TableLists) → TablesStand k t ts a → a.tells ≡ true → slice_get (pairs_of ts m) i ≡ Some pair)
    → limit ≡ (pages_at u n).count → d.file ≡ (pages_at u m).number → d.at ≡ i → d.least ≡ 0 → d.limit ≡ limit → limit ≤ d.found
    → ((pair.0 < limit) × (pair.1 < limit) → ⊥)
    → IsPassFault k n t (Scratch d) a b
pair_outside k n i m t u pair d limit a b few level there others got quiet value is file at least top found outside =
    let lists = lists_read t u m a b others got in
    let number : (pages_at u m).number ≡ (pages_at t m).number = lists.number m in
    let count : (pages_at u n).count ≡ (pages_at t n).count = lists.count n in
    let up : (pages_at t m).count ≡ (pages_at t (suc n)).count = ap (λ (x : ℕ). (pages_at t x).count) level in
    record {
      only = got.only;
      failed = λ e. absurd (cc);
      quiet = λ other. quiet;
      no_file = λ f e. cc;
      no_memory = λ e. cc;
      damage = λ x e.
          let same : d ≡ x = cc in
          subst (λ (y : ScratchDamage). IsPairDamage t n y) same
          (record { file = file ∙ number ∙ ap (λ (x : ℕ). (pages_at t x).number) level; at = omega arith; least = least; limit = top ∙ is ∙ count; found = omega arith });
      never = λ x ts e h tells inside.
          let one : slice_get (pairs_of ts (suc n)) i ≡ Some pair = subst (λ (y : ℕ). slice_get (pairs_of ts y) i ≡ Some pair) level (value ts h tells) in
          let both = pair_inside k t ts a n i pair few h inside (omega arith) one in
          let left = both.0 in
          let right = both.1 in
          outside (omega arith, omega arith);
    }

-- ---- several pairs

-- nothing was read yet
pub marked_none : (k n low : ℕ) (upper : TableLists → (ℕ → Bool) → Type 0) (t : TablesState) (m : Marks) (v : View) → ReadsOnly v v → AreUnsealed m → HasMarked k n low low upper t t m m v v
marked_none k n low upper t m v none unsealed = record {
  only = none;
  quiet = refl;
  lists = lists_none t;
  stands = λ ts h. h;
  same = record { places = refl; number = refl; file = refl };
  unsealed = unsealed;
  pairs = λ ts p h marks. (p, marks, λ tells u given named. named);
}

-- a pass after another
pub marked_then : (k n low mid high : ℕ) (upper later : TableLists → (ℕ → Bool) → Type 0) (t u v : TablesState) (m0 m1 m2 : Marks) (a b c : View)
    → ((ts : TableLists) (x : ℕ → Bool) → upper ts x → later ts x) → HasMarked k n low mid upper t u m0 m1 a b → HasMarked k n mid high later u v m1 m2 b c
    → HasMarked k n low high upper t v m0 m2 a c
marked_then k n low mid high upper later t u v m0 m1 m2 a b c turn p q = record {
  only = reads_then a b c p.only q.only;
  quiet = q.quiet ∙ p.quiet;
  lists = lists_then t u v p.lists q.lists;
  stands = λ ts h. q.stands ts (p.stands ts h);
  same = record { places = q.same.places ∙ p.same.places; number = q.same.number ∙ p.same.number; file = q.same.file ∙ p.same.file };
  unsealed = q.unsealed;
  pairs = λ ts x h marks.
      let first = p.pairs ts x h marks in
      let second = q.pairs ts first.0 (p.stands ts h) first.1 in
      (second.0, second.1, λ tells y given named. second.2 (p.only.kept.tells ∙ tells) y (turn ts y given) (first.2 tells y given named));
}

-- a place was asked for that is not marked
pub passed_over : (k n i : ℕ) (t : TablesState) (above m : Marks) (a b : View) → ReadsOnly a b → SameFaults a b → AreUnsealed m
    → ((u : ℕ → Bool) → Marked above u a → a.tells ≡ true → u i ≡ false) → HasMarked k n i (i + 1) (is_marked above a) t t m m a b
passed_over k n i t above m a b only quiet unsealed none = record {
  only = only;
  quiet = quiet;
  lists = lists_none t;
  stands = λ ts h. tables-read k t ts a b only h;
  same = record { places = refl; number = refl; file = refl };
  unsealed = unsealed;
  pairs = λ ts p h marks. (
    p,
    marked_reads m p a b only marks,
    λ tells u given named.
        let more : suc i ≡ i + 1 = omega arith in
        subst (λ (x : ℕ). NamedBelow ts n u x p) more (a_pair_is_passed_over ts n i u p (none u given tells) named),
  );
}

-- a place was asked for that is marked, and its pair was read
pub passed_on : (k n i : ℕ) (t u : TablesState) (above m0 m1 : Marks) (a b c : View) → ReadsOnly a b → SameFaults a b
    → ((x : ℕ → Bool) → Marked above x a → a.tells ≡ true → x i ≡ true) → HasMarked k n i (i + 1) (gives i) t u m0 m1 b c
    → HasMarked k n i (i + 1) (is_marked above a) t u m0 m1 a c
passed_on k n i t u above m0 m1 a b c only quiet is h = record {
  only = reads_then a b c only h.only;
  quiet = h.quiet ∙ quiet;
  lists = h.lists;
  stands = λ ts x. h.stands ts (tables-read k t ts a b only x);
  same = h.same;
  unsealed = h.unsealed;
  pairs = λ ts p stands marks.
      let after = h.pairs ts p (tables-read k t ts a b only stands) (marked_reads m0 p a b only marks) in
      (after.0, after.1, λ tells x given named. after.2 (only.kept.tells ∙ tells) x (is x given tells) named);
}

pub asked_then : (m0 m1 m2 : Marks) (a b c : View) → HasAsked m0 m1 a b → HasAsked m1 m2 b c → HasAsked m0 m2 a c
asked_then m0 m1 m2 a b c p q = record {
  same = record { places = q.same.places ∙ p.same.places; number = q.same.number ∙ p.same.number; file = q.same.file ∙ p.same.file };
  sealed = q.sealed;
  marked = λ u h. q.marked u (p.marked u h);
}

pub asked_read : (m0 m1 : Marks) (a b c : View) → HasAsked m0 m1 a b → ReadsOnly b c → HasAsked m0 m1 a c
asked_read m0 m1 a b c p only = record { same = p.same; sealed = p.sealed; marked = λ u h. marked_reads m1 u b c only (p.marked u h) }

-- ---- a pass that ended early after one that went well

-- tables of the same lists have the same damage
pub damage_then : (t u : TablesState) (n : ℕ) (d : ScratchDamage) → SameLists t u → IsPairDamage u n d → IsPairDamage t n d
damage_then t u n d lists is =
    let at = is.at in
    let count = lists.count (suc n) in
    record { file = is.file ∙ lists.number (suc n); at = omega arith; least = is.least; limit = is.limit ∙ lists.count n; found = is.found }

pub fault_then : (k n : ℕ) (t u : TablesState) (fault : WorkFault) (a b c : View) → ReadsOnly a b → SameFaults a b → SameLists t u
    → ((ts : TableLists) → TablesStand k t ts a → TablesStand k u ts b) → IsPassFault k n u fault b c → IsPassFault k n t fault a c
fault_then k n t u fault a b c only quiet lists stands h = record {
  only = reads_then a b c only h.only;
  failed = λ e. Rose-since a.faults b.faults c.faults only.kept.faults (h.failed e);
  quiet = λ other. h.quiet other ∙ quiet;
  no_file = h.no_file;
  no_memory = h.no_memory;
  damage = λ d e. damage_then t u n d lists (h.damage d e);
  never = λ d ts e before tells inside. h.never d ts e (stands ts before) (only.kept.tells ∙ tells) inside;
}

-- ---- an error that is handed on

pub if_err : {X E : Type 0} (P : E → Type 0) (r : Result X E) (e : E) → IsErrAnd r (λ y. y ≡ e) → P e → IfErr r P
if_err P (Ok x) e is p = tt
if_err P (Err y) e is p = subst P (sym is) p
