-- Calls that write one file, one after another, and a file with a closed gate while other files change.
use Rattle.std.proofs.Common.{◌≡◌, ℕ, ◌≤◌, true, List, length, Option, Some, Result, Ok, Err, refl, sym, ap, ◌∙◌, subst, arith}
use Rattle.std.specs.Prelude.{is_ok}
use Rattle.std.proofs.lemmas.Bool.{true≢false}
use Rattle.pos_edge.specs.declared.scratch.WorkFault.{WorkFault}
use Rattle.pos_edge.specs.declared.scratch.WorkFault.TheVariants.{DiskFailed}
use Rattle.pos_edge.specs.View.{View}
use Rattle.pos_edge.specs.Frame.{ChangesOnly, ChangesFile, FileBeside, KeepsIds, Nothing, Just, NameOf}
use Rattle.pos_edge.specs.Images.{Tears, Stays}
use Rattle.pos_edge.proofs.Frames.{each_beside, file_then, file_beside, frame_none}
use Rattle.pos_edge.proofs.FaultLemmas.{faults_then}
use Rattle.pos_edge.proofs.FaultLemmas.{Rose-since}
use Rattle.pos_gate.specs.Gates.{IsTiny, IsShut, IsButGate, EachImageOf, HasBytes, IsFresh, HoldsShut, Holds, opened}
use Rattle.pos_gate.specs.Works.{Works, WorksBy, WritesOnly}
use Rattle.pos_gate.proofs.GateLemmas.{images_step, images_then, images_weaker, images_end, still_there, Tears-tiny, Tears-shut, Stays-keeps, written-gate}

-- ---- several calls as one

-- a call that changes images by R, from images that have P to images that have Q
pub works_by : {X : Type 0} (P Q : Option (List ℕ) → Type 0) (R : Option (List ℕ) → Option (List ℕ) → Type 0) (file : ℕ) (r : Result X WorkFault) (a b : View)
    → ((name : List ℕ) (image : Option (List ℕ)) → NameOf file a name → a.image name a.clock image → P image)
    → ((before image : Option (List ℕ)) → P before → R before image → Q image) → WorksBy R file r a b → Works Q file r a b
works_by P Q R file r a b now step w = record {
  kept = w.kept;
  ids = w.ids;
  reads = w.reads;
  images = images_step P Q R file a b now w.images step;
  fault = w.fault;
  failed = w.failed;
  quiet = w.quiet;
}

-- other images, that were shown otherwise
pub works_images : {X : Type 0} (P Q : Option (List ℕ) → Type 0) (file : ℕ) (r : Result X WorkFault) (a b : View) → EachImageOf Q file a b → Works P file r a b → Works Q file r a b
works_images P Q file r a b each w = record {
  kept = w.kept;
  ids = w.ids;
  reads = w.reads;
  images = each;
  fault = w.fault;
  failed = w.failed;
  quiet = w.quiet;
}

pub works_weaker : {X : Type 0} (P Q : Option (List ℕ) → Type 0) (file : ℕ) (r : Result X WorkFault) (a b : View) → ((image : Option (List ℕ)) → P image → Q image) → Works P file r a b → Works Q file r a b
works_weaker P Q file r a b weaker w = works_images P Q file r a b (images_weaker P Q file a b weaker w.images) w

-- the same answer without its value
pub works_ok : {X Y : Type 0} (P : Option (List ℕ) → Type 0) (file : ℕ) (x : X) (y : Y) (a b : View) → Works P file (Ok x) a b → Works P file (Ok y) a b
works_ok P file x y a b w = record {
  kept = w.kept;
  ids = w.ids;
  reads = w.reads;
  images = w.images;
  fault = tt;
  failed = λ is. absurd (not_err is);
  quiet = w.quiet;
} where
  not_err : {Y : Type 0} {y : Y} → Ok y ≡ Err DiskFailed → ⊥
  not_err is = true≢false (ap (λ r. is_ok r) is)

-- the same fault of a call with another value
pub works_err : (X Y : Type 0) (P : Option (List ℕ) → Type 0) (file : ℕ) (e : WorkFault) (a b : View) → Works {X = X} P file (Err e) a b → Works {X = Y} P file (Err e) a b
works_err X Y P file e a b w = record {
  kept = w.kept;
  ids = w.ids;
  reads = w.reads;
  images = w.images;
  fault = w.fault;
  failed = λ is. let same : e ≡ DiskFailed = cc in w.failed (ap (λ f. Err f) same);
  quiet = w.quiet;
}

-- a call after one that went well
pub works_then : {X Y : Type 0} (P : Option (List ℕ) → Type 0) (file : ℕ) (x : X) (r : Result Y WorkFault) (a b c : View) → a.is_live file ≡ true
    → Works P file (Ok x) a b → Works P file r b c → Works P file r a c
works_then P file x r a b c live p q = record {
  kept = file_then file a b c live p.kept q.kept;
  ids = record { live = λ f k. q.ids.live f k ∙ p.ids.live f k; name = λ f k. q.ids.name f k ∙ p.ids.name f k };
  reads = q.reads ∙ p.reads;
  images = images_then P file a b c p.kept q.kept p.images q.images;
  fault = q.fault;
  failed = λ is. Rose-since a.faults b.faults c.faults p.kept.frame.faults (q.failed is);
  quiet = faults_then DiskFailed r a b c p.quiet q.quiet;
}

-- nothing changes from a moment to itself
pub file_none : (file : ℕ) (v : View) → v.is_live file ≡ true → ChangesFile file v v
file_none file v live = record { frame = frame_none (NameOf file v) (Just file) v; live = live; name = refl; grows = omega arith }

ids_none : (v : View) → KeepsIds Nothing v v
ids_none v = record { live = λ f k. refl; name = λ f k. refl }

-- the images of a file with a closed gate that nothing changes
pub shut_still : (file : ℕ) (b : List ℕ) (v : View) → HoldsShut file b v → EachImageOf IsShut file v v
shut_still file b v held = λ name is. each_beside name IsShut Nothing Nothing v v (frame_none Nothing Nothing v) (λ x. x) (λ i img. held.images name i is img)

-- ---- one file, over many calls

pub works_only : {X : Type 0} (file : ℕ) (r : Result X WorkFault) (a b : View) → Works IsShut file r a b → WritesOnly file a b
works_only file r a b w = record { kept = w.kept; ids = w.ids; images = w.images }

pub writes_none : (file : ℕ) (b : List ℕ) (v : View) → HoldsShut file b v → WritesOnly file v v
writes_none file b v held = record { kept = file_none file v held.bytes.live; ids = ids_none v; images = shut_still file b v held }

pub writes_then : (file : ℕ) (a b c : View) → a.is_live file ≡ true → WritesOnly file a b → WritesOnly file b c → WritesOnly file a c
writes_then file a b c live p q = record {
  kept = file_then file a b c live p.kept q.kept;
  ids = record { live = λ f k. q.ids.live f k ∙ p.ids.live f k; name = λ f k. q.ids.name f k ∙ p.ids.name f k };
  images = images_then IsShut file a b c p.kept q.kept p.images q.images;
}

-- ---- a writer's file while others change

pub bytes_beside : (file : ℕ) (bytes : List ℕ) (a b : View) → FileBeside file a b → b.tells ≡ a.tells → HasBytes file bytes a → HasBytes file bytes b
bytes_beside file bytes a b beside tells h = record {
  live = beside.live;
  there = still_there file a b tells beside.name h.there;
  size = beside.size ∙ h.size;
  contents = λ name is. let was = sym beside.name ∙ is in beside.contents name was ∙ h.contents name was;
}

-- its images stay shut at each moment, under any frame without its file and name
pub shut_beside : (names : List ℕ → Type 0) (ids : ℕ → Type 0) (file : ℕ) (bytes : List ℕ) (a b : View) → ChangesOnly names ids a b
    → ((n : List ℕ) → NameOf file a n → names n → ⊥) → HoldsShut file bytes a → EachImageOf IsShut file a b
shut_beside names ids file bytes a b kept apart held = λ name is. each_beside name IsShut names ids a b kept (apart name is) (λ i img. held.images name i is img)

pub holds_beside : (names : List ℕ → Type 0) (ids : ℕ → Type 0) (file : ℕ) (bytes : List ℕ) (a b : View) → ChangesOnly names ids a b
    → (ids file → ⊥) → ((n : List ℕ) → NameOf file a n → names n → ⊥) → HoldsShut file bytes a → HoldsShut file bytes b
holds_beside names ids file bytes a b kept other apart held =
    let beside = file_beside names ids file a b kept held.bytes.live other apart in record {
      bytes = bytes_beside file bytes a b beside kept.tells held.bytes;
      shut = held.shut;
      images = λ name image is img. shut_beside names ids file bytes a b kept apart held name (sym beside.name ∙ is) b.clock image kept.clock (omega arith) img;
    }

-- ---- exits

-- a fault that was passed on
pub works_exit : {X Y : Type 0} (P : Option (List ℕ) → Type 0) (file : ℕ) (r : Result X WorkFault) (y e : WorkFault) (a b : View) → r ≡ Err y → y ≡ e
    → Works {X = Y} P file (Err e) a b → Works P file r a b
works_exit {X} {Y} P file r y e a b is same w =
    subst (λ (s : Result X WorkFault). Works P file s a b) (sym (is ∙ ap (λ f. Err f) same)) (works_err Y X P file e a b w)

-- ---- the three functions

-- a write to a file with at most one byte in each image
pub tiny_write : {X : Type 0} (file : ℕ) (r : Result X WorkFault) (u v : View) → IsFresh file u → WorksBy (Tears 0 1) file r u v → Works IsTiny file r u v
tiny_write file r u v fresh w = works_by IsTiny IsTiny (Tears 0 1) file r u v fresh.images Tears-tiny w

-- and its sync
pub tiny_sync : {X Y : Type 0} (file : ℕ) (x : X) (r : Result Y WorkFault) (u v w : View) → IsFresh file u → WorksBy (Tears 0 1) file (Ok x) u v → WorksBy Stays file r v w → Works IsTiny file r u w
tiny_sync file x r u v w fresh wrote synced =
    let first = tiny_write file (Ok x) u v fresh wrote in
    works_then IsTiny file x r u v w fresh.bytes.live first
    (works_by IsTiny IsTiny Stays file r v w (images_end IsTiny file u v first.kept first.images) (Stays-keeps IsTiny) synced)

-- a write past the gate
pub shut_write : {X : Type 0} (file at n : ℕ) (b : List ℕ) (r : Result X WorkFault) (v w : View) → 1 ≤ at → HoldsShut file b v → WorksBy (Tears at n) file r v w → Works IsShut file r v w
shut_write file at n b r v w some held wrote = works_by IsShut IsShut (Tears at n) file r v w held.images (λ before image s t. Tears-shut at n before image some s t) wrote

-- a sync of a file with a closed gate
pub shut_stays : {X : Type 0} (file : ℕ) (b : List ℕ) (r : Result X WorkFault) (v w : View) → HoldsShut file b v → WorksBy Stays file r v w → Works IsShut file r v w
shut_stays file b r v w held synced = works_by IsShut IsShut Stays file r v w held.images (Stays-keeps IsShut) synced

-- the gate, after all else is on the disk
pub gate_write : {X : Type 0} (file : ℕ) (b : List ℕ) (r : Result X WorkFault) (w x : View) → 1 ≤ length b → Holds file b w → WorksBy (Tears 0 1) file r w x
    → Works (IsButGate (opened b)) file r w x
gate_write file b r w x some held wrote =
    works_by (λ i. i ≡ Some b) (IsButGate (opened b)) (Tears 0 1) file r w x (λ name image is img. held.images name is image img)
    (λ before image is torn. written-gate b image some (subst (λ i. Tears 0 1 i image) is torn)) wrote

pub gate_sync : {X Y : Type 0} (file : ℕ) (b : List ℕ) (y : X) (r : Result Y WorkFault) (w x z : View) → 1 ≤ length b → Holds file b w → WorksBy (Tears 0 1) file (Ok y) w x
    → WorksBy Stays file r x z → Works (IsButGate (opened b)) file r w z
gate_sync file b y r w x z some held wrote synced =
    let first = gate_write file b (Ok y) w x some held wrote in
    works_then (IsButGate (opened b)) file y r w x z held.bytes.live first
    (works_by (IsButGate (opened b)) (IsButGate (opened b)) Stays file r x z (images_end (IsButGate (opened b)) file w x first.kept first.images) (Stays-keeps (IsButGate (opened b))) synced)
