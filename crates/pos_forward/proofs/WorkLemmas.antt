-- Work on scratch files and its answers, one piece after another.
use Rattle.std.proofs.Common.{◌≡◌, ℕ, ◌+◌, ◌≤◌, ◌<◌, ◌^◌, List, Result, Err, sym, ap, ◌∙◌, subst, arith}
use Rattle.std.specs.Prelude.{IsErrOf, IsSome}
use Rattle.std.proofs.Common.{Option}
use Rattle.pos_edge.specs.View.{View}
use Rattle.pos_edge.specs.Frame.{ChangesOnly, Nothing, Just, SameFaults, SameFaultsBut, IsUntouched}
use Rattle.pos_edge.specs.Calls.{WasThere, IsHalfCreated}
use Rattle.pos_edge.specs.ScratchNames.{ScratchState, scratch_name, next_name, with_file}
use Rattle.pos_edge.specs.ScratchWork.{IsNameBetween, IsScratchDone}
use Rattle.pos_edge.specs.declared.scratch.ScratchDamage.{ScratchDamage}
use Rattle.pos_edge.specs.declared.scratch.WorkFault.{WorkFault}
use Rattle.pos_edge.specs.declared.scratch.WorkFault.TheVariants.{DiskFailed, Exists, Scratch}
use Rattle.pos_edge.proofs.Frames.{frame_wider}
use Rattle.pos_edge.proofs.FaultLemmas.{Rose-since, faults_then}
use Rattle.pos_edge.proofs.ScratchFiles.{scratch_name-same}
use Rattle.pos_forward.specs.Storing.{IsWorkAnswer}

-- the same error as another result
error_turned : (X Y : Type 0) {E : Type 0} (e f : E) → IsErrOf {T = Y} (Err e) f → IsErrOf {T = X} (Err e) f
error_turned X Y e f is = let same : e ≡ f = cc in ap (λ x. Err x) same

-- the answer of a call whose error is handed on
pub answer_err : {X Y : Type 0} (r : Result Y WorkFault) (y e : WorkFault) (s t : ScratchState) (a b : View) → r ≡ Err y → y ≡ e → IsWorkAnswer {X = X} (Err e) s t a b → IsWorkAnswer r s t a b
answer_err {X} {Y} r y e s t a b is same h = subst (λ (z : Result Y WorkFault). IsWorkAnswer z s t a b) (sym (is ∙ ap (λ f. Err f) same)) (record {
  failed = λ p. h.failed (error_turned X Y e DiskFailed p);
  quiet = h.quiet;
  exists = λ file p. h.exists file (error_turned X Y e (Exists file) p);
  no_damage = λ damage p. h.no_damage damage (error_turned X Y e (Scratch damage) p);
})

-- a name that was there after work that made others was there before
pub was_there : (s t : ScratchState) (m : ℕ) (a b : View) → m < 2 ^ 64 → t.made ≤ m → IsScratchDone (IsNameBetween s.base s.made t.made) Nothing s t a b → WasThere (scratch_name s.base m) b → WasThere (scratch_name s.base m) a
was_there s t m a b few later done there tells =
    let same : b.contents (scratch_name s.base m) ≡ a.contents (scratch_name s.base m) = done.kept.contents (scratch_name s.base m) (λ (n, low, high, is). let e : m ≡ n = scratch_name-same s.base m n few (omega arith) is in omega arith) in
    subst (λ (x : Option (List ℕ)). IsSome x) same (there (done.kept.tells ∙ tells))

-- an answer after work that went well
pub answer_then : {X : Type 0} (r : Result X WorkFault) (s t u : ScratchState) (a b c : View) → t.base ≡ s.base → t.made ≤ u.made → u.made ≤ 10000
    → IsScratchDone (IsNameBetween s.base s.made t.made) Nothing s t a b → SameFaults a b → IsWorkAnswer r t u b c → IsWorkAnswer r s u a c
answer_then r s t u a b c base more few done quiet h = record {
  failed = λ p. Rose-since a.faults b.faults c.faults done.kept.faults (h.failed p);
  quiet = faults_then DiskFailed r a b c quiet h.quiet;
  exists = λ file p. let x = h.exists file p in (x.0, was_there s t file a b (let e = x.0 in omega arith) (let e = x.0 in omega arith) done (subst (λ base. WasThere (scratch_name base file) b) base x.1));
  no_damage = h.no_damage;
}

-- the refusal of the making of a list
pub answer_new : {X : Type 0} (e : WorkFault) (s t : ScratchState) (a b : View) → t ≡ s
    → ((file : ℕ) → IsErrOf {T = X} (Err e) (Exists file) → (file ≡ s.made) × WasThere (next_name s) a × IsUntouched a b)
    → (IsErrOf {T = X} (Err e) DiskFailed → IsHalfCreated (next_name s) a b) → ((damage : ScratchDamage) → IsErrOf {T = X} (Err e) (Scratch damage) → ⊥)
    → SameFaultsBut {X = X} DiskFailed (Err e) a b → IsWorkAnswer {X = X} (Err e) s t a b
answer_new e s t a b same exists failed none quiet = record {
  failed = λ p. (failed p).rose;
  quiet = quiet;
  exists = λ file p. let x = exists file p in (x.0 ∙ ap (λ (z : ScratchState). z.made) (sym same), subst (λ n. WasThere (scratch_name s.base n) a) (sym x.0) x.1);
  no_damage = none;
}

-- what the making of a list may have changed, where it went well
pub new_frame : (s t : ScratchState) (file : ℕ) (a b : View) → t ≡ with_file s file → IsScratchDone (IsNameBetween s.base s.made t.made) Nothing s t a b → ChangesOnly (Just (next_name s)) Nothing a b
new_frame s t file a b made done =
    let one : t.made ≡ s.made + 1 = ap (λ (z : ScratchState). z.made) made in
    frame_wider (Just (next_name s)) (IsNameBetween s.base s.made t.made) Nothing Nothing a b
    (λ n (m, low, high, is). is ∙ ap (scratch_name s.base) (let e : m ≡ s.made = omega arith in e)) (λ f l x. x) done.kept

-- how many files two calls made
pub made_few : (s t : ScratchState) → t.made ≡ s.made → t.made ≤ s.made + 2
made_few s t same = omega arith

pub one_then : (s t u : ScratchState) → t.made ≡ s.made + 1 → u.made ≡ t.made → u.made ≤ s.made + 2
one_then s t u one same = omega arith

pub two_made : (s t u : ScratchState) → t.made ≡ s.made + 1 → u.made ≡ t.made + 1 → u.made ≤ s.made + 2
two_made s t u one two = omega arith
