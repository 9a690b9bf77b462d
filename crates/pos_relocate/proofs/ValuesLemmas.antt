-- The values of table 1 read one after another; and how many entries a table has.
use Rattle.std.proofs.Common.{◌≡◌, ℕ, zero, suc, ◌+◌, ◌^◌, ◌<◌, ◌≤◌, true, List, [], ◌∷◌, ◌++◌, length, take, get_or, Some, refl, sym, ap, ◌∙◌, inl, inr, arith}
use Rattle.std.specs.Prelude.{slice_get, slice_index}
use Rattle.std.proofs.lemmas.Bool.{cases_lt}
use Rattle.std.proofs.lemmas.List.{length-map, take_all, take_more}
use Rattle.std.proofs.lemmas.Option.{get_or_from_slice_get, slice_get_within}
use Rattle.std.proofs.Math.ListN.{get_or-append}
use Rattle.std.proofs.Math.Seq.{get_or-append_seam}
use Rattle.std.proofs.Common.{length-append}
use Rattle.pos_edge.specs.View.{View}
use Rattle.pos_edge.specs.Frame.{ReadsOnly, SameFaults}
use Rattle.pos_lists.specs.TableLists.{TableLists, entries, pairs_of}
use Rattle.pos_runs.specs.Lists.{IsListRead}
use Rattle.pos_runs.specs.Runs.{SameTables, TablesState, TablesStand, pages_at, value_record, pair_record}
use Rattle.std.specs.Prelude.{slice_set}
use Rattle.pos_runs.proofs.TablesLemmas.{same_none, same_read, same_then}
use Rattle.pos_relocate.specs.Passes.{AreBelow}
use Rattle.pos_relocate.proofs.GatheringLemmas.{reads_none, reads_then}

-- each list has as many records as its level has entries
pub entries_count : (k : ℕ) (t : TablesState) (ts : TableLists) (v : View) (n : ℕ) → n ≤ 6 → TablesStand k t ts v → entries ts n ≡ (pages_at t n).count
unfolding entries
entries_count k t ts v zero few h = sym (length-map ts.values value_record) ∙ h.values.count
entries_count k t ts v (suc n) few h = sym (length-map (pairs_of ts (suc n)) pair_record) ∙ (h.pairs n (omega arith)).count

-- the first i values were read
pub record ValuesSoFar (k i : ℕ) (values : List ℕ) (t now : TablesState) (a b : View) : Type 0 where
  pub stands : (ts : TableLists) × TablesStand k t ts a
  pub same : SameTables k t now a b
  pub only : ReadsOnly a b
  pub faults : SameFaults a b
  pub as_long : length values ≡ i
  pub below : (j : ℕ) → j < i → slice_index values j < 2 ^ k
  pub told : (ts : TableLists) → TablesStand k t ts a → a.tells ≡ true → values ≡ take i ts.values

pub values_none : (k : ℕ) (t : TablesState) (v : View) → (ts : TableLists) × TablesStand k t ts v → ValuesSoFar k 0 [] t t v v
values_none k t v stands = record {
  stands = stands;
  same = same_none k t v;
  only = reads_none v;
  faults = refl;
  as_long = refl;
  below = λ j l. absurd (omega arith);
  told = λ ts h told. refl;
}

-- the tables stand
pub values_stand : (k i : ℕ) (values : List ℕ) (t now : TablesState) (a b : View) → ValuesSoFar k i values t now a b → (ts : TableLists) × TablesStand k now ts b
values_stand k i values t now a b was = (was.stands.0, was.same.stand was.stands.0 was.stands.1)

pub values_more : (k i x : ℕ) (values : List ℕ) (t now new : TablesState) (a b c : View) → ValuesSoFar k i values t now a b → SameFaults b c
    → new ≡ slice_set now 0 (pages_at new 0) → IsListRead (pages_at now 0) (pages_at new 0) b c
    → ((ts : TableLists) → TablesStand k now ts b → TablesStand k new ts c) → x < 2 ^ k
    → ((ts : TableLists) → TablesStand k now ts b → b.tells ≡ true → slice_get ts.values i ≡ Some x)
    → ValuesSoFar k (i + 1) (values ++ x ∷ []) t new a c
values_more k i x values t now new a b c was faults is read stand small value =
    let here = values_stand k i values t now a b was in
    let eight = here.1.eight in
    let long = was.as_long in
    let len = length-append values (x ∷ []) in record {
      stands = was.stands;
      same = same_then k t now new a b c was.same (same_read k now new 0 b c (omega arith) is read stand);
      only = reads_then a b c was.only read.only;
      faults = faults ∙ was.faults;
      as_long = omega (arith, len);
      below = λ j l. elim (cases_lt j i) [
        | inl early ↦ let e = get_or-append values (x ∷ []) 0 j (omega arith) in let b = was.below j early in omega arith
        | inr late ↦
            let e : get_or (values ++ x ∷ []) j 0 ≡ x = ap (λ n. get_or (values ++ x ∷ []) n 0) (let same : j ≡ length values = omega arith in same) ∙ get_or-append_seam values x [] 0 in
            omega arith
      ];
      told = λ ts h told.
          let got = value ts (was.same.stand ts h) (was.only.kept.tells ∙ told) in
          let inside = slice_get_within ts.values i x got in
          let front = was.told ts h told in
          let item : get_or ts.values i x ≡ x = get_or_from_slice_get ts.values i x x got in
          ap (λ vs. vs ++ x ∷ []) front ∙ (ap (λ n. take i ts.values ++ n ∷ []) (sym item) ∙ sym (take_more ts.values i x inside));
    }

pub values_below : (k i : ℕ) (values : List ℕ) (t now : TablesState) (a b : View) → i ≡ (pages_at t 0).count → ValuesSoFar k i values t now a b → AreBelow (pages_at t 0).count (2 ^ k) values
values_below k i values t now a b end was = record {
  as_long = was.as_long ∙ end;
  below = λ j l. was.below j (omega arith);
}

pub values_whole : (k i : ℕ) (values : List ℕ) (t now : TablesState) (a b : View) → i ≡ (pages_at t 0).count → ValuesSoFar k i values t now a b
    → (ts : TableLists) → TablesStand k t ts a → a.tells ≡ true → values ≡ ts.values
unfolding entries
values_whole k i values t now a b end was ts h told =
    let count = entries_count k t ts a 0 (omega arith) h in
    was.told ts h told ∙ take_all i ts.values (omega arith)
