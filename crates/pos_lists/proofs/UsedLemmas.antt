-- Marks that go down table by table are on the used places.
use Rattle.std.proofs.Common.{◌≡◌, ℕ, zero, suc, ◌+◌, ◌-◌, ◌<◌, ◌↔◌, ⊎_elim, Bool, true, subst, arith}
use Rattle.pos_lists.specs.TableLists.{TableLists, entries, left_of, right_of, PairsInside}
use Rattle.pos_lists.specs.Used.{Names, IsReached, IsUsed, MarksUsed, MarksNamed}
use Rattle.pos_lists.specs.UsedLaws.{UsedIsInside, MarkedByTheNextTable, PrunedByTables}

-- a place that a reached place is made of is reached from one level further
pub reached_next : (ts : TableLists) (d n j i : ℕ) → IsReached ts d (suc n) j → Names ts n j i → IsReached ts (suc d) n i
unfolding IsReached
reached_next ts d n j i h e = (j, h, e)

pub reached_from : (ts : TableLists) (d n i : ℕ) → IsReached ts (suc d) n i → (j : ℕ) × IsReached ts d (suc n) j × Names ts n j i
unfolding IsReached
reached_from ts d n i h = h

step_down : (n : ℕ) → n < 6 → 6 - n ≡ suc (6 - suc n)
step_down n l = omega arith

-- a used place of a level below 6 is one that a used place of the next level is made of, and the other way
pub used_next : (ts : TableLists) (n j i : ℕ) → n < 6 → IsUsed ts (suc n) j → Names ts n j i → IsUsed ts n i
used_next ts n j i l h e = rw (step_down n l) (reached_next ts (6 - suc n) n j i h e)

pub used_from : (ts : TableLists) (n i : ℕ) → n < 6 → IsUsed ts n i → (j : ℕ) × IsUsed ts (suc n) j × Names ts n j i
used_from ts n i l h = reached_from ts (6 - suc n) n i (subst (λ d. IsReached ts d n i) (step_down n l) h)

pub used_at_top : (ts : TableLists) (i : ℕ) → i < entries ts 6 → IsUsed ts 6 i
unfolding IsReached
used_at_top ts i h = h

pub inside_at_top : (ts : TableLists) (i : ℕ) → IsUsed ts 6 i → i < entries ts 6
unfolding IsReached
inside_at_top ts i h = h

-- by the distance d to level 6
pub inside_by_distance : (ts : TableLists) → PairsInside ts 6 → (d n i : ℕ) → n + d ≡ 6 → IsReached ts d n i → i < entries ts n
unfolding IsReached
inside_by_distance ts inside zero n i e h = h
inside_by_distance ts inside (suc d) n i e h =
    let j = h.0 in
    let p = inside n j (omega arith) (inside_by_distance ts inside d (suc n) j (omega arith) h.1) in
    ⊎_elim
    (λ (f : i ≡ left_of ts (suc n) j). omega (arith, p.0))
    (λ (f : i ≡ right_of ts (suc n) j). omega (arith, p.1))
    h.2

pub used_is_inside : UsedIsInside
used_is_inside ts n i l inside h = inside_by_distance ts inside (6 - n) n i (omega arith) h

pub marked_by_the_next_table : MarkedByTheNextTable
marked_by_the_next_table ts n upper lower l inside used named i = (
  λ e. let j = (named i).0 e in used_next ts n j.0 i l ((used j.0).0 j.2) j.3,
  λ h.
      let j = used_from ts n i l h in
      (named i).1 (j.0, used_is_inside ts (suc n) j.0 l inside j.1, (used j.0).1 j.1, j.2),
)

pruned_by_distance : (ts : TableLists) (marks : ℕ → ℕ → Bool) → PairsInside ts 6 →
    ((i : ℕ) → (marks 6 i ≡ true) ↔ (i < entries ts 6)) →
    ((n : ℕ) → n < 6 → MarksNamed ts n (marks (suc n)) (marks n)) →
    (d n : ℕ) → n + d ≡ 6 → MarksUsed ts n (marks n)
pruned_by_distance ts marks inside top named zero n e =
    let f : 6 ≡ n = omega arith in
    subst (λ q. MarksUsed ts q (marks q)) f
    (λ i. (λ m. used_at_top ts i ((top i).0 m), λ h. (top i).1 (inside_at_top ts i h)))
pruned_by_distance ts marks inside top named (suc d) n e =
    marked_by_the_next_table ts n (marks (suc n)) (marks n) (omega arith) inside
    (pruned_by_distance ts marks inside top named d (suc n) (omega arith))
    (named n (omega arith))

pub pruned_by_tables : PrunedByTables
pruned_by_tables ts marks inside top named n l = pruned_by_distance ts marks inside top named (6 - n) n (omega arith)
