-- Marks of a level, and tables with their kept places, past other calls.
use Rattle.std.proofs.Common.{◌≡◌, ℕ, suc, ◌<◌, ◌≤◌, Bool, true, List, ltb, sym, ◌∙◌, subst, arith, lt-ltb, ltb-true}
use Rattle.pos_edge.specs.View.{View, IsDisk}
use Rattle.pos_edge.specs.Frame.{ChangesOnly, Nothing}
use Rattle.pos_edge.specs.FileSets.{IsOutside}
use Rattle.pos_edge.specs.ScratchNames.{IsLeft, ScratchState, StandsOn}
use Rattle.pos_edge.specs.ScratchWork.{IsNameBetween}
use Rattle.pos_lists.specs.TableLists.{PairsInside, TableLists, entries}
use Rattle.pos_lists.specs.Used.{MarksUsed}
use Rattle.pos_lists.proofs.UsedLemmas.{inside_at_top, used_at_top}
use Rattle.pos_marks.specs.declared.set.Marks.{Marks}
use Rattle.pos_marks.specs.Marks.{marks_file, place_count}
use Rattle.pos_marks.proofs.MarkLemmas.{marked_beside}
use Rattle.pos_runs.specs.Runs.{TablesStand, TablesState, pages_at}
use Rattle.pos_prune.specs.KeptTables.{MarksStand}
use Rattle.pos_prune.specs.Marking.{AreMarksMade}
use Rattle.pos_prune.specs.Passes.{HasAsked, gives_below}
use Rattle.pos_prune.proofs.MarkingLemmas.{left_last, left_not_new}
use Rattle.pos_prune.proofs.PassLemmas.{entries_count}

-- ---- past any call

-- marks of a level past what leaves the files alone that are left
pub marks_outside : (s s' : ScratchState) (m : Marks) (level : ℕ) (ts : TableLists) (names : List ℕ → Type 0) (ids : ℕ → Type 0) (a b : View) → ChangesOnly names ids a b → IsOutside (IsLeft s) names ids a
    → ((f : ℕ) → IsLeft s f → IsLeft s' f) → MarksStand s m level ts a → MarksStand s' m level ts b
marks_outside s s' m level ts names ids a b kept out more h = record {
  sealed = h.sealed;
  places = h.places;
  left = more (marks_file m) h.left;
  marks = (
    h.marks.0,
    marked_beside m h.marks.0 names ids a b kept (out.not_ids (marks_file m) h.left) (λ n named. out.not_names (marks_file m) n h.left named) h.marks.1,
    λ tells. h.marks.2 (sym kept.tells ∙ tells),
  );
}

-- ---- marks that were asked, or stand beside others that are made

pub marks_asked : (s s' : ScratchState) (m m' : Marks) (level : ℕ) (ts : TableLists) (a b : View) → HasAsked m m' a b → b.tells ≡ a.tells → ((f : ℕ) → IsLeft s f → IsLeft s' f)
    → MarksStand s m level ts a → MarksStand s' m' level ts b
marks_asked s s' m m' level ts a b asked told more h = record {
  sealed = asked.sealed;
  places = asked.same.places ∙ h.places;
  left = more (marks_file m') (subst (IsLeft s) (sym asked.same.file) h.left);
  marks = (h.marks.0, asked.marked h.marks.0 h.marks.1, λ tells. h.marks.2 (sym told ∙ tells));
}

pub marks_past : (s s' : ScratchState) (m : Marks) (level high : ℕ) (ts : TableLists) (a b : View) → IsDisk a → StandsOn s a → high ≤ 10001 → ChangesOnly (IsNameBetween s.base s.made high) Nothing a b
    → ((f : ℕ) → IsLeft s f → IsLeft s' f) → MarksStand s m level ts a → MarksStand s' m level ts b
marks_past s s' m level high ts a b disk stands few kept more h =
    marks_outside s s' m level ts (IsNameBetween s.base s.made high) Nothing a b kept
    (record { not_ids = λ f left may. may; not_names = λ f n left named is. left_not_new s high f n a disk stands few left named is }) more h

-- ---- marks that were made

pub marks_new : (k n : ℕ) (upper : TableLists → (ℕ → Bool) → Type 0) (t u : TablesState) (m : Marks) (s s' : ScratchState) (ts : TableLists) (above : ℕ → Bool) (a b : View) → n < 6 → AreMarksMade k n upper t u m s s' a b
    → TablesStand k t ts a → upper ts above → (a.tells ≡ true → PairsInside ts 6) → (a.tells ≡ true → MarksUsed ts (suc n) above) → MarksStand s' m n ts b
marks_new k n upper t u m s s' ts above a b few made h given inside used =
    let got = made.marks ts above h given in
    record {
      sealed = made.sealed;
      places = made.places ∙ sym (entries_count k t ts a n (omega arith) h);
      left = subst (λ (x : ScratchState). IsLeft x (marks_file m)) (sym made.scratch) (left_last s (marks_file m));
      marks = (got.0, got.1, λ tells. let told : a.tells ≡ true = sym made.worked.done.kept.tells ∙ tells in got.2 told (inside told) (used told));
    }

-- all places of level 6 are used
all_used : (ts : TableLists) → MarksUsed ts 6 (λ j. ltb j (entries ts 6))
all_used ts i = (λ e. used_at_top ts i (ltb-true i (entries ts 6) e), λ h. lt-ltb i (entries ts 6) (inside_at_top ts i h))

pub marks_of_top : (k : ℕ) (t u : TablesState) (m : Marks) (s s' : ScratchState) (ts : TableLists) (a b : View) → AreMarksMade k 5 (gives_below (pages_at t 6).count) t u m s s' a b
    → TablesStand k t ts a → (a.tells ≡ true → PairsInside ts 6) → MarksStand s' m 5 ts b
marks_of_top k t u m s s' ts a b made h inside =
    let all : entries ts 6 ≡ (pages_at t 6).count = entries_count k t ts a 6 (omega arith) h in
    marks_new k 5 (gives_below (pages_at t 6).count) t u m s s' ts (λ j. ltb j (entries ts 6)) a b (omega arith) made h
    (λ j within. lt-ltb j (entries ts 6) (omega arith)) inside (λ told. all_used ts)

-- as many places as the level's list has records
pub places_are : (k : ℕ) (s : ScratchState) (t : TablesState) (m : Marks) (level : ℕ) (ts : TableLists) (v : View) → level ≤ 6 → MarksStand s m level ts v → TablesStand k t ts v
    → place_count m ≡ (pages_at t level).count
places_are k s t m level ts v few h tables = h.places ∙ entries_count k t ts v level few tables
