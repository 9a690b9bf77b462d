-- The renumbering of one table: its files beside the writer's, what it gives, and what never comes over the tables of an id.
use Rattle.std.proofs.Common.{◌≡◌, ℕ, suc, ◌+◌, ◌-◌, ◌*◌, ◌/◌, ◌^◌, ◌<◌, ◌≤◌, Bool, true, List, slice_index, sym, refl, ◌∙◌, ap, subst, arith}
use Rattle.pos_edge.specs.declared.scratch.ScratchDamage.{ScratchDamage}
use Rattle.pos_edge.specs.View.{View}
use Rattle.pos_edge.specs.Frame.{Just, KeepsIds, NameOf, Nothing}
use Rattle.pos_edge.specs.FileSets.{IsOutside}
use Rattle.pos_lists.specs.TableLists.{TableLists, entries, PairsInside}
use Rattle.pos_lists.specs.Used.{MarksUsed}
use Rattle.pos_lists.specs.Rank.{second_in}
use Rattle.pos_lists.specs.Numbering.{AreGathered, AreNumbered}
use Rattle.pos_laws.specs.Renumbering.{firsts, point_at, IsRenumbered, IsOneToOne}
use Rattle.pos_laws.proofs.Ranks.{length-firsts, at-firsts}
use Rattle.pos_laws.proofs.Gathered.{gathered_is_renumbered}
use Rattle.pos_layout.specs.Drafts.{WriterState}
use Rattle.pos_layout.specs.Writing.{WritesOnly}
use Rattle.pos_layout.proofs.WorksLemmas.{stands_beside}
use Rattle.pos_edge.specs.Frame.{ReadsOnly}
use Rattle.pos_runs.specs.Runs.{SameTables, TablesState, TablesStand, IsTablesFile, pages_at}
use Rattle.pos_runs.proofs.TablesLemmas.{tables-outside}
use Rattle.pos_relocate.specs.declared.chosen.Chosen.{Chosen}
use Rattle.pos_relocate.specs.Passes.{AreListed, AreShuffled, IsRepetition, IsTableAdded}
use Rattle.pos_relocate.specs.Choosing.{Chooses}
use Rattle.pos_relocate.specs.Gathering.{CanPoint, HavePoints}
use Rattle.pos_relocate.specs.Levels.{IsLevelAdded, IsPointTwice}
use Rattle.pos_relocate.proofs.SortedLemmas.{sorted_one}
use Rattle.pos_relocate.proofs.EntryLemmas.{shuffled_once}
use Rattle.pos_relocate.proofs.ValuesLemmas.{entries_count}

-- ---- the tables' files beside the writer's

files_first : (k : ℕ) (old now : TablesState) (a b : View) → SameTables k old now a b → (file : ℕ) → IsTablesFile now file → IsTablesFile old file
files_first k old now a b same file own = (own.0, own.1, own.2 ∙ same.files own.0)

-- the writer's file is none of them while each FileId keeps its name
pub outside_now : (k file : ℕ) (old now : TablesState) (a b c : View) → SameTables k old now a b → KeepsIds Nothing a c → IsOutside (IsTablesFile old) (NameOf file a) (Just file) a
    → IsOutside (IsTablesFile now) (NameOf file c) (Just file) c
outside_now k file old now a b c same ids out = record {
  not_ids = λ f own is. out.not_ids f (files_first k old now a b same f own) is;
  not_names = λ f n own named written. out.not_names f n (files_first k old now a b same f own) (sym (ids.name f (λ x. x)) ∙ named) (sym (ids.name file (λ x. x)) ∙ written);
}

-- the tables while the writer's file is written
pub same_written : (k file : ℕ) (t : TablesState) (a b : View) → WritesOnly file a b → IsOutside (IsTablesFile t) (NameOf file a) (Just file) a → SameTables k t t a b
same_written k file t a b writes out = record {
  stand = λ ts h. tables-outside k t ts (NameOf file a) (Just file) a b writes.kept.frame out h;
  counts = λ n. refl;
  files = λ n. refl;
  numbers = λ n. refl;
}

-- ---- the width

-- a greater bound is a bound
pub can_wider : (k t limit bound wide : ℕ) (below : List ℕ) (tables : TablesState) (v : View) → bound ≤ wide → CanPoint k t limit bound below tables v → CanPoint k t limit wide below tables v
can_wider k t limit bound wide below tables v most h = record {
  size = h.size;
  first = h.first;
  last = h.last;
  stands = h.stands;
  below_limit = h.below_limit;
  limited = h.limited;
  exact = let e = h.exact in omega arith;
}

-- ---- what it gives

-- the level is renumbered
pub level_renumbered : (ts : TableLists) (t count : ℕ) (p : ℕ → Bool) (below places : List ℕ) (xs pointed : List (ℕ × ℕ)) → 2 ≤ t → t ≤ 7 → entries ts (suc (t - 2)) ≡ count → PairsInside ts 6 → MarksUsed ts (t - 1) p
    → AreGathered p (point_at ts (t - 2) (slice_index below)) count xs → AreNumbered xs pointed places
    → IsRenumbered ts (t - 2) (slice_index below) (slice_index places) (firsts pointed) × IsOneToOne ts (t - 1) (slice_index places)
level_renumbered ts t count p below places xs pointed first last is inside marks g numbered =
    let level : suc (t - 2) ≡ t - 1 = omega arith in
    let used : MarksUsed ts (suc (t - 2)) p = subst (λ (n : ℕ). MarksUsed ts n p) (sym level) marks in
    let all : AreGathered p (point_at ts (t - 2) (slice_index below)) (entries ts (suc (t - 2))) xs = subst (λ (n : ℕ). AreGathered p (point_at ts (t - 2) (slice_index below)) n xs) (sym is) g in
    let done = gathered_is_renumbered ts (t - 2) (slice_index below) xs pointed places p (omega arith) inside used all numbered in
    (done.0, subst (λ (n : ℕ). IsOneToOne ts n (slice_index places)) level done.1)

pub level_count : (k t : ℕ) (tables : TablesState) (ts : TableLists) (v : View) → 2 ≤ t → t ≤ 7 → TablesStand k tables ts v → entries ts (suc (t - 2)) ≡ (pages_at tables (t - 1)).count
level_count k t tables ts v first last stands =
    let level : suc (t - 2) ≡ t - 1 = omega arith in
    entries_count k tables ts v (suc (t - 2)) (omega arith) stands ∙ ap (λ n. (pages_at tables n).count) level

-- the table that was added is that of the level
pub level_added : (k t limit : ℕ) (chosen : Chosen) (below places : List ℕ) (xs : List (ℕ × ℕ)) (tables : TablesState) (before after : WriterState) (a b c : View)
    → CanPoint k t limit (limit * (limit - 1) / 2) below tables a → ReadsOnly a b → IsTableAdded xs places before after b c
    → ((ts : TableLists) (p : ℕ → Bool) → TablesStand k tables ts a → Chooses chosen (pages_at tables (t - 1)).count p a → a.tells ≡ true
    → AreGathered p (point_at ts (t - 2) (slice_index below)) (pages_at tables (t - 1)).count xs)
    → ((ts : TableLists) (p : ℕ → Bool) → TablesStand k tables ts a → Chooses chosen (pages_at tables (t - 1)).count p a → a.tells ≡ true
    → HavePoints ts (t - 2) p below (pages_at tables (t - 1)).count)
    → IsLevelAdded k t chosen below places tables before after a c
level_added k t limit chosen below places xs tables before after a b c can only table gathered have = record {
  points = firsts table.pointed;
  added = λ p s. table.added p (stands_beside before p Nothing Nothing a b only.kept (λ x. x) (λ n is x. x) s);
  renumbered = λ ts p stands chooses told inside marks.
      level_renumbered ts t (pages_at tables (t - 1)).count p below places xs table.pointed can.first can.last (level_count k t tables ts a can.first can.last stands) inside marks
      (gathered ts p stands chooses told) table.numbered;
  have_points = have;
}

-- ---- what is wrong

-- a repetition is of two numbered entries
pub point_twice : (ts : TableLists) (k n count bound : ℕ) (p : ℕ → Bool) (below : List ℕ) (xs : List (ℕ × ℕ)) (file number : ℕ) (damage : ScratchDamage) → entries ts (suc n) ≡ count → AreListed count bound xs
    → AreGathered p (point_at ts n (slice_index below)) count xs → IsRepetition file (2 ^ (2 * k + 2)) xs damage → file ≡ number → IsPointTwice ts k n (λ i. p i ≡ true) (slice_index below) number damage
point_twice ts k n count bound p below xs file number damage is listed g r is_file =
    let point = point_at ts n (slice_index below) in
    let pointed = r.pointed in
    let at = r.at in
    let rep = r.repeated in
    let after = rep.after in
    let inside = rep.inside in
    let len = length-firsts pointed in
    let shuffled : AreShuffled count pointed = record { gathered = xs; bound = bound; listed = listed; permuted = r.permuted } in
    let one = sorted_one p point count xs pointed g r.permuted at (omega arith) in
    let other = sorted_one p point count xs pointed g r.permuted (at - 1) (omega arith) in
    let a = at-firsts pointed at 0 (omega arith) in
    let b = at-firsts pointed (at - 1) 0 (omega arith) in
    let found : damage.found ≡ point damage.at = r.found ∙ (one.points ∙ ap point (sym r.place)) in record {
      other = second_in pointed (at - 1);
      differ = λ e. let same = shuffled_once count pointed shuffled (at - 1) at (omega arith) (omega arith) (e ∙ r.place) in absurd (omega arith);
      other_has = other.only;
      place_has = subst (λ (i : ℕ). p i ≡ true) (sym r.place) one.only;
      inside = subst (λ (i : ℕ). i < entries ts (suc n)) (sym r.place) (subst (λ (m : ℕ). second_in pointed at < m) (sym is) one.below);
      found = found;
      same = sym other.points ∙ (sym b ∙ (sym rep.same ∙ (a ∙ sym r.found)));
      file_is = r.file_is ∙ is_file;
      least = r.least;
      limit = r.limit;
    }
