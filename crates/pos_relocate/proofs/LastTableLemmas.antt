-- The numbers of table 7 as a table.
use Rattle.std.proofs.Common.{◌≡◌, ℕ, ◌+◌, ◌^◌, ◌<◌, true, List, length, slice_index, slice_index_or, AllPairs, Result, sym, refl, ◌∙◌, ap, arith}
use Rattle.std.specs.List.Sorted.{IsPermutation}
use Rattle.std.proofs.lemmas.List.{get_or_default}
use Rattle.std.proofs.lemmas.List.Sorted.{Contains-permutation}
use Rattle.pos_edge.specs.declared.scratch.ScratchDamage.{ScratchDamage}
use Rattle.pos_edge.specs.declared.scratch.WorkFault.{WorkFault}
use Rattle.pos_edge.specs.View.{View}
use Rattle.pos_edge.specs.Frame.{ReadsOnly, Nothing}
use Rattle.pos_lists.specs.TableLists.{TableLists, entries}
use Rattle.pos_lists.specs.Rank.{second_in}
use Rattle.pos_lists.specs.Numbering.{AreGathered}
use Rattle.pos_laws.specs.Renumbering.{firsts, last_at, IsLastTable, IsOneToOne}
use Rattle.pos_laws.proofs.Apart.{last_numbers_differ}
use Rattle.pos_laws.proofs.Ranks.{length-firsts, at-firsts, firsts_rise}
use Rattle.pos_layout.specs.Drafts.{WriterState, draft_bytes}
use Rattle.pos_layout.specs.Writing.{IsStanding, WritesOnly}
use Rattle.pos_layout.proofs.WorksLemmas.{stands_beside}
use Rattle.pos_runs.specs.Runs.{TablesState, TablesStand, pages_at}
use Rattle.pos_relocate.specs.Passes.{AreListed, IsPass, IsRepetition}
use Rattle.pos_relocate.specs.Gathering.{IsPointing}
use Rattle.pos_relocate.proofs.PassLemmas.{reads_write}
use Rattle.pos_relocate.proofs.SortedLemmas.{repeats_two, sorted_one}
use Rattle.pos_relocate.proofs.ValuesLemmas.{entries_count}

-- ---- a writer while other files are read

pub standing_reads : (w : WriterState) (a b : View) → ReadsOnly a b → IsStanding w a → IsStanding w b
standing_reads w a b only s = (s.0, stands_beside w s.0 Nothing Nothing a b only.kept (λ x. x) (λ n is x. x) s.1)

-- nothing is written to its file
pub standing_kept : (w : WriterState) (a b : View) → ReadsOnly a b → IsStanding w a → WritesOnly w.file a b
standing_kept w a b only s = reads_write w.file (draft_bytes s.0 s.1.parks) a b only s.1.keeps.file

-- work that only reads is a pass
pub gathering_pass : {X : Type 0} (w : WriterState) (r : Result X WorkFault) (a b : View) → IsStanding w a → IsPointing r a b → IsPass w.file r a b
gathering_pass w r a b s g = record {
  writes = standing_kept w a b g.only s;
  failed = g.failed;
  quiet = g.quiet;
  makes_none = g.makes_none;
  range = g.range;
}

-- ---- table 7

-- level 6 has as many entries as the list of its y
pub last_count : (k : ℕ) (t : TablesState) (ts : TableLists) (v : View) → TablesStand k t ts v → entries ts 6 ≡ (pages_at t 7).count
last_count k t ts v h = entries_count k t ts v 6 (omega arith) h ∙ sym h.as_long

-- the sorted numbers are the last table
pub last_table : (ts : TableLists) (k : ℕ) (places : List ℕ) (xs pointed : List (ℕ × ℕ)) → length places ≡ entries ts 6
    → AreGathered (λ i. true) (last_at ts k (slice_index places)) (length places) xs → IsPermutation xs pointed → AllPairs (λ a b. a.0 < b.0) pointed
    → IsLastTable ts k (slice_index places) (firsts pointed)
last_table ts k places xs pointed long g p rise =
    let point = last_at ts k (slice_index places) in
    let len = length-firsts pointed in record {
      rise = firsts_rise pointed rise;
      placed = λ i l.
          let c = Contains-permutation xs pointed (point i, i) p (g.all i (omega arith) refl) in
          let at : slice_index_or pointed c.0 (0, 0) ≡ (point i, i) = get_or_default pointed c.0 (0, 0) (point i, i) c.1 ∙ c.2 in
          (c.0, omega (arith, len, c.1), at-firsts pointed c.0 (point i) c.1 ∙ ap (λ (e : ℕ × ℕ). e.0) at);
      filled = λ s c.
          let l = c.1 in
          let inside : c.0 < length pointed = omega arith in
          let one = sorted_one (λ i. true) point (length places) xs pointed g p c.0 inside in
          let below = one.below in
          (second_in pointed c.0, omega arith, sym c.2 ∙ (at-firsts pointed c.0 s inside ∙ one.points));
    }

-- two of them are never the same
pub last_never : (ts : TableLists) (k bound : ℕ) (places : List ℕ) (xs : List (ℕ × ℕ)) (file limit : ℕ) (damage : ScratchDamage) → length places ≡ entries ts 6
    → ((i : ℕ) → i < length places → slice_index places i < 2 ^ (k + 1)) → IsOneToOne ts 6 (slice_index places) → AreListed (length places) bound xs
    → AreGathered (λ i. true) (last_at ts k (slice_index places)) (length places) xs → IsRepetition file limit xs damage → ⊥
last_never ts k bound places xs file limit damage long small apart listed g r =
    let two = repeats_two (λ i. true) (last_at ts k (slice_index places)) (length places) bound xs file limit damage listed g r in
    let a = two.2.first in
    let b = two.2.second in
    last_numbers_differ ts k (slice_index places) two.0 two.1 apart (omega arith) (omega arith) (small two.0 a) (small two.1 b) two.2.differ two.2.same
