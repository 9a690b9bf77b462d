-- Table 1 over a disk: its rows are made in memory, and then stored as values and as rows.
use Rattle.std.proofs.Common.{◌≡◌, ℕ, ◌+◌, ◌^◌, ◌≤◌, ◌<◌, Bool, true, false, List, map, Result, Ok, Err, refl, ap, subst, arith, All}
use Rattle.std.specs.Prelude.{IsErrOf, OnOk}
use Rattle.std.specs.Result.{is_err}
use Rattle.std.proofs.Math.Nat.{pow-le-pow_right}
use Rattle.std.proofs.lemmas.Bool.{true≢false}
use Rattle.std.proofs.lemmas.List.{map-id}
use Rattle.std.proofs.lemmas.List.Elements.{All-weaker}
use Rattle.pos_edge.specs.View.{View}
use Rattle.pos_edge.specs.Frame.{Nothing}
use Rattle.pos_edge.specs.ScratchNames.{ScratchState}
use Rattle.pos_edge.specs.ScratchWork.{IsNameBetween, IsScratchWork, IsScratchDone, HasEnded, HasWorked}
use Rattle.pos_edge.specs.declared.scratch.WorkFault.{WorkFault}
use Rattle.pos_edge.specs.declared.scratch.WorkFault.TheVariants.{DiskFailed, Exists, Scratch, Memory}
use Rattle.pos_edge.proofs.ScratchWorkLemmas.{work_none}
use Rattle.pos_record.specs.Kinds.{first_read, first_width, value_read, FirstFits, ValueFits}
use Rattle.pos_record.specs.declared.kinds.First.{First}
use Rattle.pos_runs.specs.Pages.{ListPages}
use Rattle.pos_forward.specs.declared.faults.ForwardFault.TheVariants.{Work}
use Rattle.pos_forward.specs.Tables.{AreFirstRows}
use Rattle.pos_forward.specs.Stored.{first_value}
use Rattle.pos_forward.specs.Storing.{AreKept, AreStored, IsWorkAnswer}
use Rattle.pos_forward.proofs.MadeTables.{AreFirstMade}
use Rattle.pos_forward.specs.SevenTables.{IsForwardCause}
use Rattle.pos_forward.specs.TablesSoFar.{IsTablesFault}

-- what holds on Ok, of an answer that is no Err
pub went_well : {X E : Type 0} (P : Type 0) (r : Result X E) → is_err r ≡ false → OnOk r P → P
went_well P (Ok x) e h = h
went_well P (Err f) e h = absurd (true≢false e)

-- the rows are fewer than the largest number of records
pub few_rows : (k n : ℕ) → k ≤ 50 → n ≡ 2 ^ k → n < 2 ^ 52
few_rows k n small count =
    let pow : 2 ^ k ≤ 2 ^ 50 = pow-le-pow_right {n = 2} (omega arith) {i = k} {j = 50} small in
    omega arith

pub values_fit : (k : ℕ) (rows : List First) → All (FirstFits k) rows → All (λ r. ValueFits k (first_value r)) rows
values_fit k rows fit = All-weaker (FirstFits k) (λ r. ValueFits k (first_value r)) (λ r h. h.1) rows fit

-- ---- what the work did

-- two lists were made and filled
pub stored_worked : {R S X : Type 0} (read : List Bool → R) (w : ℕ) (other_read : List Bool → S) (x : ℕ) (y : X) (s u : ScratchState) (first second : ListPages) (items : List R) (others : List S) (a b : View)
    → IsScratchWork (IsNameBetween s.base s.made (u.made + 1)) Nothing s u a b → IsScratchDone (IsNameBetween s.base s.made u.made) Nothing s u a b → IsWorkAnswer (Ok y) s u a b
    → AreStored read w other_read x s u first second items others a b → HasWorked 2 s.made Nothing s u a b
stored_worked read w other_read x y s u first second items others a b work done answer stored = record {
  work = work;
  done = done;
  made = let e : u.made ≡ s.made + 1 + 1 = ap (λ (z : ScratchState). z.made) stored.files.is in omega arith;
  quiet = answer.quiet;
}

as_work : (X : Type 0) (e f : WorkFault) → IsErrOf {T = Unit {0}} (Err (Work e)) (Work f) → IsErrOf {T = X} (Err e) f
as_work X e f is = let same : e ≡ f = cc in ap (λ x. Err x) same

-- or not
pub stored_ended : {X : Type 0} (e : WorkFault) (s u : ScratchState) (a b : View) → IsScratchWork (IsNameBetween s.base s.made (u.made + 1)) Nothing s u a b → u.made ≤ s.made + 2 → IsWorkAnswer {X = X} (Err e) s u a b
    → HasEnded {X = Unit {0}} Work 2 s.made Nothing (Err (Work e)) s u a b
stored_ended {X} e s u a b work most h = record {
  work = work;
  few = most;
  exists = λ file p. h.exists file (as_work X e (Exists file) p);
  failed = λ p. h.failed (as_work X e DiskFailed p);
  quiet = λ other. h.quiet (λ is. other (ap (λ x. Work x) is));
}

-- ---- answers

-- there was no memory for the rows
pub first_memory : (id : List ℕ) (k c : ℕ) (s : ScratchState) (a : View) → IsTablesFault id k c 2 s s a a (Work Memory)
first_memory id k c s a = record { ended = none_ended s a; cause = tt } where
  not_memory : (e : WorkFault) → (e ≡ Memory → ⊥) → IsErrOf {T = Unit {0}} (Err (Work Memory)) (Work e) → ⊥
  not_memory e other is = other (let same : e ≡ Memory = cc in same)

  none_ended : (s : ScratchState) (a : View) → HasEnded {X = Unit {0}} Work 2 s.made Nothing (Err (Work Memory)) s s a a
  none_ended s a = record {
    work = work_none (IsNameBetween s.base s.made (s.made + 1)) Nothing s a;
    few = omega arith;
    exists = λ file p. absurd (not_memory (Exists file) (λ e. true≢false (let z : true ≡ false = cc in z)) p);
    failed = λ p. absurd (not_memory DiskFailed (λ e. true≢false (let z : true ≡ false = cc in z)) p);
    quiet = λ other. refl;
  }

-- the lists could not be made
first_cause : {X : Type 0} (e : WorkFault) (id : List ℕ) (k c : ℕ) (s u : ScratchState) (a b : View) → IsWorkAnswer {X = X} (Err e) s u a b → IsForwardCause id k c s u a b (Work e)
first_cause DiskFailed id k c s u a b h = h.failed refl
first_cause (Exists file) id k c s u a b h = h.exists file refl
first_cause (Scratch damage) id k c s u a b h = absurd (h.no_damage damage refl)
first_cause Memory id k c s u a b h = tt

pub first_refused : {X : Type 0} (e : WorkFault) (id : List ℕ) (k c : ℕ) (s u : ScratchState) (a b : View) → IsScratchWork (IsNameBetween s.base s.made (u.made + 1)) Nothing s u a b → u.made ≤ s.made + 2 → IsWorkAnswer {X = X} (Err e) s u a b
    → IsTablesFault id k c 2 s u a b (Work e)
first_refused e id k c s u a b work most h = record { ended = stored_ended e s u a b work most h; cause = first_cause e id k c s u a b h }

-- ---- what was made

pub first_made : (id : List ℕ) (k : ℕ) (s u : ScratchState) (values rows : ListPages) (items firsts : List First) (a b : View) → AreFirstRows id k firsts → items ≡ firsts
    → AreStored (value_read k) k (first_read k) (first_width k) s u values rows (map first_value items) (map (λ (r : First). r) items) a b
    → AreFirstMade id k s u values rows a b
first_made id k s u values rows items firsts a b table same given =
    let stored : AreStored (value_read k) k (first_read k) (first_width k) s u values rows (map first_value firsts) (map (λ (r : First). r) firsts) a b =
    subst (λ rs. AreStored (value_read k) k (first_read k) (first_width k) s u values rows (map first_value rs) (map (λ (r : First). r) rs) a b) same given in
    record {
      firsts = firsts;
      table = table;
      values_sealed = stored.first;
      rows_sealed = stored.second;
      rows_page = stored.second_page;
      files = stored.files;
      kept = subst (λ rs. AreKept s.base (value_read k) k (first_read k) (first_width k) values rows (map first_value firsts) rs b) (map-id firsts) stored.kept;
    }
