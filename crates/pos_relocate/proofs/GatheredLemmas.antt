-- The entries of a table gathered one after another.
use Rattle.std.proofs.Common.{◌≡◌, ℕ, suc, ◌+◌, ◌-◌, ◌*◌, ◌^◌, ◌<◌, ◌≤◌, Bool, true, List, [], length, refl, sym, ap, ◌∙◌, subst, inl, inr, arith}
use Rattle.std.specs.Prelude.{slice_index}
use Rattle.pos_edge.specs.declared.scratch.ScratchDamage.{ScratchDamage}
use Rattle.pos_edge.specs.View.{View}
use Rattle.pos_edge.specs.Frame.{ReadsOnly, SameFaults}
use Rattle.pos_lists.specs.TableLists.{TableLists}
use Rattle.pos_lists.specs.Numbering.{AreGathered}
use Rattle.pos_lists.proofs.NumberingLemmas.{nothing_is_gathered}
use Rattle.pos_laws.specs.Renumbering.{point_at}
use Rattle.pos_runs.specs.Runs.{SameTables, TablesState, TablesStand, pages_at}
use Rattle.pos_runs.proofs.TablesLemmas.{same_none, same_then}
use Rattle.pos_relocate.specs.declared.chosen.Chosen.{Chosen}
use Rattle.pos_relocate.specs.Passes.{AreListed}
use Rattle.pos_relocate.specs.Choosing.{Chooses}
use Rattle.pos_relocate.specs.Gathering.{CanPoint, HavePoints, IsOneNumber, IsOutsideBelow, SomeHasNoPoint}
use Rattle.pos_relocate.proofs.GatheringLemmas.{can_same, listed_none, reads_none, reads_then}
use Rattle.pos_relocate.proofs.ValuesLemmas.{entries_count}

-- the numbered entries below i were gathered
pub record GatheredSoFar (k t limit bound i : ℕ) (below : List ℕ) (xs : List (ℕ × ℕ)) (before after : Chosen) (old now : TablesState) (a b : View) : Type 0 where
  pub can : CanPoint k t limit bound below old a
  pub chooses : (p : ℕ → Bool) × Chooses before (pages_at old (t - 1)).count p a
  pub same : SameTables k old now a b
  pub only : ReadsOnly a b
  pub faults : SameFaults a b
  pub chosen : (n : ℕ) (p : ℕ → Bool) → Chooses before n p a → Chooses after n p b
  pub listed : AreListed i (2 ^ (2 * k + 2)) xs
  pub gathered : (ts : TableLists) (p : ℕ → Bool) → TablesStand k old ts a → Chooses before (pages_at old (t - 1)).count p a → a.tells ≡ true
      → AreGathered p (point_at ts (t - 2) (slice_index below)) i xs
  pub points : (ts : TableLists) (p : ℕ → Bool) → TablesStand k old ts a → Chooses before (pages_at old (t - 1)).count p a → a.tells ≡ true
      → HavePoints ts (t - 2) p below i

pub gathered_none : (k t limit bound : ℕ) (below : List ℕ) (c : Chosen) (tables : TablesState) (v : View) → CanPoint k t limit bound below tables v
    → (p : ℕ → Bool) × Chooses c (pages_at tables (t - 1)).count p v → GatheredSoFar k t limit bound 0 below [] c c tables tables v v
gathered_none k t limit bound below c tables v can chooses = record {
  can = can;
  chooses = chooses;
  same = same_none k tables v;
  only = reads_none v;
  faults = refl;
  chosen = λ n p h. h;
  listed = listed_none (2 ^ (2 * k + 2));
  gathered = λ ts p stands h told. nothing_is_gathered p (point_at ts (t - 2) (slice_index below));
  points = λ ts p stands h told j l chosen. absurd (omega arith);
}

-- ---- numbers

pub none_at_most : (n : ℕ) → 0 ≤ n
none_at_most n = omega arith

pub lt_is_le : (m n : ℕ) → m < n → m ≤ n
lt_is_le m n l = omega arith

pub block_there : (whole counted now end : ℕ) → counted ≡ whole → now ≡ whole → end ≤ counted → end ≤ now
block_there whole counted now end a b l = omega arith

pub all_blocks : (whole counted from : ℕ) → counted ≡ whole → from ≤ counted → counted ≤ from → from ≡ whole
all_blocks whole counted from a most least = omega arith

-- in what there is of an iteration
module _ (k t limit bound i : ℕ) (below : List ℕ) (xs : List (ℕ × ℕ)) (before after : Chosen) (old now : TablesState) (a b : View)
    (was : GatheredSoFar k t limit bound i below xs before after old now a b) where
  pub can_now : CanPoint k t limit bound below now b
  can_now = can_same k t limit bound below old now a b was.same was.can

  pub chooses_of : (p : ℕ → Bool) → Chooses before (pages_at old (t - 1)).count p a → Chooses after (pages_at now (t - 1)).count p b
  chooses_of p h = subst (λ (n : ℕ). Chooses after n p b) (sym (was.same.counts (t - 1))) (was.chosen (pages_at old (t - 1)).count p h)

  pub chooses_now : (p : ℕ → Bool) × Chooses after (pages_at now (t - 1)).count p b
  chooses_now = (was.chooses.0, chooses_of was.chooses.0 was.chooses.1)

  -- a block more was gathered
  pub gathered_next : (j : ℕ) (ys : List (ℕ × ℕ)) (next : Chosen) (new : TablesState) (c : View) → ReadsOnly b c → SameFaults b c → SameTables k now new b c
      → ((n : ℕ) (p : ℕ → Bool) → Chooses after n p b → Chooses next n p c)
      → (AreListed i (2 ^ (2 * k + 2)) xs → AreListed j (2 ^ (2 * k + 2)) ys)
      → ((ts : TableLists) (p : ℕ → Bool) → TablesStand k now ts b → Chooses after (pages_at now (t - 1)).count p b → b.tells ≡ true
      → AreGathered p (point_at ts (t - 2) (slice_index below)) i xs → AreGathered p (point_at ts (t - 2) (slice_index below)) j ys)
      → ((ts : TableLists) (p : ℕ → Bool) → TablesStand k now ts b → Chooses after (pages_at now (t - 1)).count p b → b.tells ≡ true
      → AreGathered p (point_at ts (t - 2) (slice_index below)) i xs → HavePoints ts (t - 2) p below i → HavePoints ts (t - 2) p below j)
      → GatheredSoFar k t limit bound j below ys before next old new a c
  gathered_next j ys next new c only faults same chosen listed gathered points = record {
    can = was.can;
    chooses = was.chooses;
    same = same_then k old now new a b c was.same same;
    only = reads_then a b c was.only only;
    faults = faults ∙ was.faults;
    chosen = λ n p h. chosen n p (was.chosen n p h);
    listed = listed was.listed;
    gathered = λ ts p stands h told. gathered ts p (was.same.stand ts stands) (chooses_of p h) (was.only.kept.tells ∙ told) (was.gathered ts p stands h told);
    points = λ ts p stands h told. points ts p (was.same.stand ts stands) (chooses_of p h) (was.only.kept.tells ∙ told) (was.gathered ts p stands h told) (was.points ts p stands h told);
  }

  -- an entry without a point
  pub no_point_first : (ts : TableLists) (p : ℕ → Bool) (damage : ScratchDamage) → SomeHasNoPoint ts (t - 2) p limit below now damage → SomeHasNoPoint ts (t - 2) p limit below old damage
  no_point_first ts p damage h = (
    h.0,
    h.1,
    h.2,
    elim h.3 [
      | inl outside ↦ inl (subst (λ (f : ℕ). IsOutsideBelow ts (t - 2) h.0 (length below) f damage) (was.same.numbers (suc (t - 2))) outside)
      | inr one ↦ inr (subst (λ (f : ℕ). IsOneNumber ts (t - 2) h.0 limit f (slice_index below) damage) (was.same.numbers (t - 2)) one)
    ],
  )
