-- Sorted points added to the open table one after another.
use Rattle.std.proofs.Common.{◌≡◌, ℕ, ◌+◌, ◌-◌, ◌*◌, ◌^◌, ◌<◌, ◌≤◌, List, [], ◌∷◌, ◌++◌, length, map, take, slice_index_or, AllPairs, Ok, sym, refl, ◌∙◌, ap, subst, inl, inr, arith}
use Rattle.std.specs.List.Sorted.{IsNonDecreasingBy}
use Rattle.std.proofs.Math.Seq.{take-length}
use Rattle.std.proofs.lemmas.Bool.{cases_eq, cases_lt}
use Rattle.std.proofs.lemmas.List.{get_or-map, get_or_default, length-map, take_more}
use Rattle.std.proofs.lemmas.List.Sorted.{IsPermutation-refl}
use Rattle.pos_edge.specs.declared.scratch.ScratchDamage.{ScratchDamage}
use Rattle.pos_edge.specs.View.{View}
use Rattle.pos_edge.specs.Frame.{SameFaults}
use Rattle.pos_lists.specs.Rank.{first_in, second_in}
use Rattle.pos_laws.specs.Renumbering.{firsts}
use Rattle.pos_laws.proofs.Ranks.{length-firsts, at-firsts}
use Rattle.pos_layout.specs.Images.{IsShut}
use Rattle.pos_layout.specs.Drafts.{Draft, WriterState, Stands, draft_bytes, added}
use Rattle.pos_layout.specs.Writing.{Works, WritesOnly, IsStanding, Goes, MayAdd, SameFile, OneMore, with_numbers}
use Rattle.pos_layout.proofs.WorksLemmas.{works_only, writes_none, writes_then, with_numbers-none, with_numbers-append}
use Rattle.pos_relocate.specs.Passes.{HasEmptyTable, IsRepetition}

-- the first i points were added, the next may be `least` or above
pub record AddedSoFar (size i least : ℕ) (xs : List (ℕ × ℕ)) (before after : WriterState) (old new : View) : Type 0 where
  pub standing : IsStanding before old
  pub goes : Goes (with_numbers (take i (firsts xs))) before after old new
  pub writes : WritesOnly before.file old new
  pub faults : SameFaults old new
  pub same : SameFile before after
  pub columns : after.columns ≡ before.columns
  pub size_is : after.size ≡ size
  pub tables : length after.columns < 7
  pub count : after.count ≡ i
  pub least_is : after.least ≡ least
  pub before_one : i ≡ 0 → least ≡ 0
  pub after_one : 0 < i → least ≡ first_in xs (i - 1) + 1
  pub rises : (s t : ℕ) → s < t → t < i → first_in xs s < first_in xs t

pub added_none : (size : ℕ) (xs : List (ℕ × ℕ)) (w : WriterState) (v : View) → IsStanding w v → HasEmptyTable size w → AddedSoFar size 0 0 xs w w v v
added_none size xs w v standing empty = record {
  standing = standing;
  goes = λ p s. subst (λ (d : Draft). Stands w d v) (sym (with_numbers-none p)) s;
  writes = writes_none w.file (draft_bytes standing.0 standing.1.parks) v standing.1.keeps.file;
  faults = refl;
  same = record { file = refl; layout = refl; size = refl };
  columns = refl;
  size_is = empty.size_is;
  tables = empty.tables;
  count = empty.count;
  least_is = empty.least;
  before_one = λ e. refl;
  after_one = λ some. absurd (omega arith);
  rises = λ s t below few. absurd (omega arith);
}

-- the writer stands, and takes the next point
pub added_stands : (size i least : ℕ) (xs : List (ℕ × ℕ)) (before after : WriterState) (old new : View) → AddedSoFar size i least xs before after old new → IsStanding after new
added_stands size i least xs before after old new was = (with_numbers (take i (firsts xs)) was.standing.0, was.goes was.standing.0 was.standing.1)

pub added_takes : (size i least point : ℕ) (xs : List (ℕ × ℕ)) (before after : WriterState) (old new : View) → AddedSoFar size i least xs before after old new
    → least ≤ point → point < 2 ^ (2 * size + 2) → i < 2 ^ (size + 1) → MayAdd point after
added_takes size i least point xs before after old new was above below few =
    let low = was.least_is in
    let count = was.count in record {
      tables = was.tables;
      above = omega arith;
      below = subst (λ (k : ℕ). point < 2 ^ (2 * k + 2)) (sym was.size_is) below;
      few = subst (λ (k : ℕ). after.count < 2 ^ (k + 1)) (sym was.size_is) (omega arith);
    }

pub added_next : {X : Type 0} (x : X) (size i least : ℕ) (xs : List (ℕ × ℕ)) (before between after : WriterState) (old mid new : View) → i < length xs → AddedSoFar size i least xs before between old mid
    → least ≤ first_in xs i → Works IsShut between.file (Ok x) mid new → SameFile between after → after.columns ≡ between.columns
    → OneMore (first_in xs i) between after → Goes (added (first_in xs i)) between after mid new
    → AddedSoFar size (i + 1) (first_in xs i + 1) xs before after old new
added_next x size i least xs before between after old mid new l was above works same columns one goes =
    let live = was.standing.1.keeps.file.bytes.live in
    let file = was.same.file in
    let len = length-firsts xs in
    let more : take (i + 1) (firsts xs) ≡ take i (firsts xs) ++ first_in xs i ∷ [] =
    take_more (firsts xs) i 0 (omega arith) ∙ ap (λ n. take i (firsts xs) ++ n ∷ []) (at-firsts xs i 0 l) in
    let only : WritesOnly before.file mid new = subst (λ (f : ℕ). WritesOnly f mid new) file (works_only between.file (Ok x) mid new works) in
    record {
      standing = was.standing;
      goes = λ p s.
          let step = goes (with_numbers (take i (firsts xs)) p) (was.goes p s) in
          let same : added (first_in xs i) (with_numbers (take i (firsts xs)) p) ≡ with_numbers (take (i + 1) (firsts xs)) p =
          with_numbers-append (take i (firsts xs)) (first_in xs i ∷ []) p ∙ ap (λ ns. with_numbers ns p) (sym more) in
          subst (λ (d : Draft). Stands after d new) same step;
      writes = writes_then before.file old mid new live was.writes only;
      faults = works.quiet ∙ was.faults;
      same = record { file = same.file ∙ file; layout = same.layout ∙ was.same.layout; size = same.size ∙ was.same.size };
      columns = columns ∙ was.columns;
      size_is = same.size ∙ was.size_is;
      tables = subst (λ (cs : List _). length cs < 7) (sym columns) was.tables;
      count = one.count ∙ ap (λ n. n + 1) was.count;
      least_is = one.least;
      before_one = λ e. absurd (omega arith);
      after_one = λ some. let e : i + 1 - 1 ≡ i = omega arith in ap (λ n. first_in xs n + 1) (sym e);
      rises = λ s t below few. elim (cases_lt t i) [
        | inl early ↦ was.rises s t below early
        | inr late ↦
            let last : t ≡ i = omega arith in
            let step : first_in xs s < first_in xs i = elim (cases_eq s (i - 1)) [
              | inl e ↦ let a = was.after_one (omega arith) in let b : first_in xs s ≡ first_in xs (i - 1) = ap (first_in xs) e in omega arith
              | inr e ↦ let a = was.after_one (omega arith) in let b = was.rises s (i - 1) (omega arith) (omega arith) in omega arith
            ] in
            subst (λ (n : ℕ). first_in xs s < first_in xs n) (sym last) step
      ];
    }

-- all were added
pub added_all : (size least i : ℕ) (xs : List (ℕ × ℕ)) (before after : WriterState) (old new : View) → i ≡ length xs → AddedSoFar size i least xs before after old new
    → (AllPairs (λ a b. a.0 < b.0) xs) × Goes (with_numbers (firsts xs)) before after old new
added_all size least i xs before after old new end was = (
  λ s t d below few.
      let a : slice_index_or xs s d ≡ slice_index_or xs s (0, 0) = get_or_default xs s d (0, 0) (omega arith) in
      let b : slice_index_or xs t d ≡ slice_index_or xs t (0, 0) = get_or_default xs t d (0, 0) (omega arith) in
      let rise = was.rises s t below (omega arith) in
      let p : (slice_index_or xs s d).0 ≡ first_in xs s = ap (λ (e : ℕ × ℕ). e.0) a in
      let q : (slice_index_or xs t d).0 ≡ first_in xs t = ap (λ (e : ℕ × ℕ). e.0) b in
      omega arith,
  λ p s.
      let whole : take i (firsts xs) ≡ firsts xs = ap (λ n. take n (firsts xs)) (end ∙ sym (length-firsts xs)) ∙ take-length (firsts xs) in
      subst (λ (ns : List ℕ). Stands after (with_numbers ns p) new) whole (was.goes p s),
)

-- the points of sorted entries never fall
falls_not : {X : Type 0} (pair : X → ℕ × ℕ) (entries : List X) → IsNonDecreasingBy (λ e. (pair e).0) entries → (s t : ℕ) → s ≤ t → t < length entries
    → first_in (map pair entries) s ≤ first_in (map pair entries) t
falls_not pair [] sorted s t less few = absurd (omega arith)
falls_not pair (x ∷ xs) sorted s t less few =
    let a = ap (λ (e : ℕ × ℕ). e.0) (get_or-map pair (x ∷ xs) s x (0, 0) (omega arith)) in
    let b = ap (λ (e : ℕ × ℕ). e.0) (get_or-map pair (x ∷ xs) t x (0, 0) few) in
    let order = sorted s t x less few in
    omega arith

-- a point below the least is the one before it
pub added_repeats : {X : Type 0} (pair : X → ℕ × ℕ) (entries : List X) (size i least point old_place file limit bound : ℕ) (before after : WriterState) (old new : View) (damage : ScratchDamage)
    → IsNonDecreasingBy (λ e. (pair e).0) entries → i < length entries → AddedSoFar size i least (map pair entries) before after old new
    → point < least → point ≡ first_in (map pair entries) i → old_place ≡ second_in (map pair entries) i → limit ≡ bound
    → damage ≡ record { file = file; at = old_place; found = point; least = least; limit = limit }
    → IsRepetition file bound (map pair entries) damage
added_repeats pair entries size i least point old_place file limit bound before after old new damage sorted l was below is_point is_old is_limit is =
    let xs = map pair entries in
    let len = length-map entries pair in
    let lenf = length-firsts xs in
    let begins = was.before_one in
    let some : 0 < i = elim (cases_eq i 0) [
      | inl none ↦ let zero = begins none in absurd (omega arith)
      | inr more ↦ omega arith
    ] in
    let last = was.after_one some in
    let falls : first_in xs (i - 1) ≤ first_in xs i = falls_not pair entries sorted (i - 1) i (omega arith) l in
    let same : first_in xs i ≡ first_in xs (i - 1) = omega arith in
    let found : damage.found ≡ point = ap (λ (d : ScratchDamage). d.found) is in
    let low : damage.least ≡ least = ap (λ (d : ScratchDamage). d.least) is in
    record {
      pointed = xs;
      at = i;
      permuted = IsPermutation-refl xs;
      repeated = record {
        after = some;
        inside = omega arith;
        same = at-firsts xs i 0 (omega arith) ∙ same ∙ sym (at-firsts xs (i - 1) 0 (omega arith));
        rise = λ s t less few.
            let a = at-firsts xs s 0 (omega arith) in
            let b = at-firsts xs t 0 (omega arith) in
            let r = was.rises s t less few in
            omega arith;
      };
      file_is = ap (λ (d : ScratchDamage). d.file) is;
      place = ap (λ (d : ScratchDamage). d.at) is ∙ is_old;
      found = found ∙ is_point;
      least = omega arith;
      limit = ap (λ (d : ScratchDamage). d.limit) is ∙ is_limit;
    }
