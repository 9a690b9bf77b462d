-- Passes one after another, and what of them leaves the writer's file alone.
use Rattle.std.proofs.Common.{◌≡◌, ℕ, true, List, Result, Ok, Err, refl, sym, ap, ◌∙◌, subst, arith}
use Rattle.std.specs.Prelude.{is_ok, IfOk, IsErrOf, OnOk}
use Rattle.std.proofs.lemmas.Bool.{true≢false}
use Rattle.pos_edge.specs.declared.scratch.ScratchDamage.{ScratchDamage}
use Rattle.pos_edge.specs.declared.scratch.WorkFault.{WorkFault}
use Rattle.pos_edge.specs.declared.scratch.WorkFault.TheVariants.{DiskFailed, Exists, Scratch}
use Rattle.pos_edge.specs.View.{View}
use Rattle.pos_edge.specs.Frame.{ReadsOnly, SameFaults, Nothing, Just, NameOf}
use Rattle.pos_edge.proofs.FaultLemmas.{Rose-since, faults_then}
use Rattle.pos_edge.proofs.Frames.{frame_wider}
use Rattle.pos_layout.specs.Images.{IsShut, HoldsShut}
use Rattle.pos_layout.specs.Drafts.{IsWriteFault}
use Rattle.pos_layout.specs.Writing.{Works, WritesOnly}
use Rattle.pos_layout.proofs.WorksLemmas.{works_only, writes_then, shut_beside}
use Rattle.pos_relocate.specs.Passes.{IsOutOfRange, IsPass}

-- an answer that is Ok is no fault
pub ok_no_fault : {X : Type 0} (x : X) (e : WorkFault) → IsErrOf (Ok x) e → ⊥
ok_no_fault x e is = true≢false (ap (λ r. is_ok r) is)

-- of a value that there may be, one fact for another
pub if_ok : {X : Type 0} (P Q : X → Type 0) (r : Result X WorkFault) → ((x : X) → P x → Q x) → IfOk r P → IfOk r Q
if_ok P Q (Ok x) f h = f x h
if_ok P Q (Err e) f h = tt

pub on_ok : {X : Type 0} (P Q : Type 0) (r : Result X WorkFault) → (P → Q) → OnOk r P → OnOk r Q
on_ok P Q (Ok x) f h = f h
on_ok P Q (Err e) f h = tt

-- a call of the writer is a pass
pub works_pass : {X : Type 0} (file : ℕ) (r : Result X WorkFault) (a b : View) → Works IsShut file r a b → IsPass file r a b
works_pass file (Ok x) a b w = record {
  writes = works_only file (Ok x) a b w;
  failed = w.failed;
  quiet = w.quiet;
  makes_none = λ n is. ok_no_fault x (Exists n) is;
  range = λ d is. absurd (ok_no_fault x (Scratch d) is);
}
works_pass file (Err e) a b w = record {
  writes = works_only file (Err e) a b w;
  failed = w.failed;
  quiet = w.quiet;
  makes_none = λ n is. let same : e ≡ Exists n = cc in subst IsWriteFault same w.fault;
  range = λ d is. let same : e ≡ Scratch d = cc in absurd (subst IsWriteFault same w.fault);
}

-- a pass after work that went well
pub pass_then : {X : Type 0} (file : ℕ) (r : Result X WorkFault) (a b c : View) → a.is_live file ≡ true → WritesOnly file a b → SameFaults a b
    → IsPass file r b c → IsPass file r a c
pass_then file r a b c live first same p = record {
  writes = writes_then file a b c live first p.writes;
  failed = λ is. Rose-since a.faults b.faults c.faults first.kept.frame.faults (p.failed is);
  quiet = faults_then DiskFailed r a b c same p.quiet;
  makes_none = p.makes_none;
  range = p.range;
}

-- the same fault of a call with another value
pub pass_err : (X Y : Type 0) (file : ℕ) (e : WorkFault) (a b : View) → IsPass {X = X} file (Err e) a b → IsPass {X = Y} file (Err e) a b
pass_err X Y file e a b p = record {
  writes = p.writes;
  failed = λ is. let same : e ≡ DiskFailed = cc in p.failed (ap (λ f. Err f) same);
  quiet = p.quiet;
  makes_none = λ n is. let same : e ≡ Exists n = cc in p.makes_none n (ap (λ f. Err f) same);
  range = λ d is. let same : e ≡ Scratch d = cc in p.range d (ap (λ f. Err f) same);
}

-- a fault that was passed on
pub pass_exit : {X Y : Type 0} (file : ℕ) (r : Result X WorkFault) (y e : WorkFault) (a b : View) → r ≡ Err y → y ≡ e
    → IsPass {X = Y} file (Err e) a b → IsPass file r a b
pass_exit {X} {Y} file r y e a b is same p =
    subst (λ (s : Result X WorkFault). IsPass file s a b) (sym (is ∙ ap (λ f. Err f) same)) (pass_err Y X file e a b p)

-- work that went well, whatever its value
pub pass_done : {X : Type 0} (file : ℕ) (x : X) (a b : View) → WritesOnly file a b → SameFaults a b → IsPass file (Ok x) a b
pass_done file x a b writes same = record {
  writes = writes;
  failed = λ is. absurd (ok_no_fault x DiskFailed is);
  quiet = same;
  makes_none = λ n is. ok_no_fault x (Exists n) is;
  range = λ d is. absurd (ok_no_fault x (Scratch d) is);
}

-- damage, and want of memory
pub pass_damage : (X : Type 0) (file : ℕ) (d : ScratchDamage) (a b : View) → IsOutOfRange d → WritesOnly file a b → SameFaults a b → IsPass {X = X} file (Err (Scratch d)) a b
pass_damage X file d a b out writes same = record {
  writes = writes;
  failed = λ is. absurd (let t : true ≡ true = refl in cc);
  quiet = λ other. same;
  makes_none = λ n is. cc;
  range = λ x is. let one : d ≡ x = cc in subst IsOutOfRange one out;
}

-- reads of any file leave the writer's file
pub reads_write : (file : ℕ) (bytes : List ℕ) (a b : View) → ReadsOnly a b → HoldsShut file bytes a → WritesOnly file a b
reads_write file bytes a b only held =
    let size = only.kept.size file held.bytes.live (λ x. x) in record {
      kept = record {
        frame = frame_wider (NameOf file a) Nothing (Just file) Nothing a b (λ n x. absurd x) (λ f l x. absurd x) only.kept;
        live = only.ids.live file (λ x. x) ∙ held.bytes.live;
        name = only.ids.name file (λ x. x);
        grows = omega arith;
      };
      ids = only.ids;
      images = shut_beside Nothing Nothing file bytes a b only.kept (λ n is x. x) held;
    }
