-- Steps of copying, one after another.
use Rattle.std.proofs.Common.{◌≡◌, ℕ, List, Result, Ok, Err, IsErrOf, refl, sym, ap, ◌∙◌, subst, arith}
use Rattle.pos_edge.specs.View.{View}
use Rattle.pos_edge.specs.Frame.{Just, KeepsIds, NameOf, Nothing}
use Rattle.pos_edge.specs.declared.scratch.WorkFault.{WorkFault}
use Rattle.pos_edge.specs.declared.scratch.WorkFault.TheVariants.{Exists as ScratchExists, DiskFailed as WorkFailed, Scratch as WorkDamage, Memory as WorkMemory}
use Rattle.pos_edge.proofs.Frames.{frame_wider}
use Rattle.pos_layout.specs.declared.damage.Damage.{Damage}
use Rattle.pos_layout.specs.Drafts.{Draft, Stands, WriterState, draft_bytes}
use Rattle.pos_layout.specs.Images.{IsShut}
use Rattle.pos_layout.specs.Writing.{Goes, IsStanding, SameFile, Works, WritesOnly}
use Rattle.pos_layout.proofs.WorksLemmas.{shut_beside, stands_beside, stands_live, stands_shut, works_only, writes_none, writes_then}
use Rattle.pos_reader.specs.declared.refusal.ReadRefusal.{ReadRefusal}
use Rattle.pos_reader.specs.declared.refusal.ReadRefusal.TheVariants.{DiskFailed as ReadFailed, Damage as Found}
use Rattle.pos_reader.specs.Plots.{PlotState, IsOpen, IsPlotFile, OnlyReads}
use Rattle.pos_reader.specs.Readings.{IsReading}
use Rattle.pos_reader.proofs.ReadLemmas.{IsOpen-kept, IsPlotFile-kept, faults_after, faults_none, faults_refused}
use Rattle.pos_convert.specs.declared.fault.ConvertFault.{ConvertFault}
use Rattle.pos_convert.specs.declared.fault.ConvertFault.TheVariants.{Exists, DiskFailed, Damage as IsDamaged}
use Rattle.pos_convert.specs.Faults.{of_reading, of_work}
use Rattle.pos_convert.specs.Copies.{IsApart, IsCopying}

-- ---- the writer's file alone is written

pub same_file : (w : WriterState) → SameFile w w
same_file w = record { file = refl; layout = refl; size = refl }

pub files_then : (u v w : WriterState) → SameFile u v → SameFile v w → SameFile u w
files_then u v w first second = record { file = second.file ∙ first.file; layout = second.layout ∙ first.layout; size = second.size ∙ first.size }

-- reads write no file
pub reads_write : (n : ℕ) (w : WriterState) (a b : View) → OnlyReads n a b → IsStanding w a → WritesOnly w.file a b
reads_write n w a b reads (d, s) = record {
  kept = record {
    frame = frame_wider (NameOf w.file a) Nothing (Just w.file) Nothing a b (λ m x. absurd x) (λ f l x. absurd x) reads.kept;
    live = reads.kept.live w.file (stands_live w d a s) (λ x. x);
    name = reads.ids.name w.file (λ x. x);
    grows = let same = reads.kept.size w.file (stands_live w d a s) (λ x. x) in omega arith;
  };
  ids = reads.ids;
  images = shut_beside Nothing Nothing w.file (draft_bytes d s.parks) a b reads.kept (λ m is x. x) (stands_shut w d a s);
}

-- and leave what a writer stands for
pub stands_read : (n : ℕ) (w : WriterState) (d : Draft) (a b : View) → OnlyReads n a b → Stands w d a → Stands w d b
stands_read n w d a b reads s = stands_beside w d Nothing Nothing a b reads.kept (λ x. x) (λ m is x. x) s

pub standing_read : (n : ℕ) (w : WriterState) (a b : View) → OnlyReads n a b → IsStanding w a → IsStanding w b
standing_read n w a b reads (d, s) = (d, stands_read n w d a b reads s)

-- what goes on after reads goes on from before them
pub goes_read : (n : ℕ) (change : Draft → Draft) (w x : WriterState) (a b c : View) → OnlyReads n a b → Goes change w x b c → Goes change w x a c
goes_read n change w x a b c reads goes = λ d s. goes d (stands_read n w d a b reads s)

-- ---- the plot beside it

pub apart_over : (p : PlotState) (w x : WriterState) (a b : View) → IsApart p w a → KeepsIds Nothing a b → x.file ≡ w.file → IsApart p x b
apart_over p w x a b apart ids same = record {
  file = λ e. apart.file (e ∙ same);
  names = λ n is other. apart.names n (sym (ids.name p.file (λ z. z)) ∙ is) (sym (ids.name w.file (λ z. z)) ∙ (ap b.name_of (sym same) ∙ other));
}

pub open_over : (p : PlotState) (w : WriterState) (a b : View) → IsApart p w a → WritesOnly w.file a b → IsOpen p a → IsOpen p b
open_over p w a b apart writes is = IsOpen-kept (NameOf w.file a) (Just w.file) p a b writes.kept.frame apart.file apart.names is

pub file_over : (p : PlotState) (w : WriterState) (a b : View) (bytes : List ℕ) → IsApart p w a → WritesOnly w.file a b → IsOpen p a → IsPlotFile p bytes a → IsPlotFile p bytes b
file_over p w a b bytes apart writes is holds = IsPlotFile-kept (NameOf w.file a) (Just w.file) p bytes a b writes.kept.frame apart.file apart.names is holds

module _ {X : Type 0} (p q : PlotState) (w x : WriterState) (r : Result X ConvertFault) (a b : View) (copying : IsCopying p q w x r a b) (apart : IsApart p w a) where
  pub open_copied : IsOpen p a → IsOpen q b
  open_copied is = subst (λ (s : PlotState). IsOpen s b) (sym copying.same) (open_over p w a b apart copying.writes is)

  pub file_copied : (bytes : List ℕ) → IsOpen p a → IsPlotFile p bytes a → IsPlotFile q bytes b
  file_copied bytes is holds = subst (λ (s : PlotState). IsPlotFile s bytes b) (sym copying.same) (file_over p w a b bytes apart copying.writes is holds)

  pub apart_copied : IsApart q x b
  apart_copied = subst (λ (s : PlotState). IsApart s x b) (sym copying.same) (apart_over p w x a b apart copying.writes.ids copying.file.file)

-- ---- steps

pub copying_none : {X : Type 0} (p : PlotState) (w : WriterState) (x : X) (v : View) → IsStanding w v → IsCopying p p w w (Ok x) v v
copying_none p w x v (d, s) = record {
  same = refl;
  writes = writes_none w.file (draft_bytes d s.parks) v (stands_shut w d v s);
  file = same_file w;
  faults = faults_none DiskFailed (Ok x) v v refl (λ e. cc);
  begun = λ e. cc;
}

pub copying_then : {X Y : Type 0} (p q r : PlotState) (u v w : WriterState) (x : X) (result : Result Y ConvertFault) (a b c : View) → IsStanding u a
    → IsCopying p q u v (Ok x) a b → IsCopying q r v w result b c → IsCopying p r u w result a c
copying_then p q r u v w x result a b c (d, s) first second = record {
  same = second.same ∙ first.same;
  writes = writes_then u.file a b c (stands_live u d a s) first.writes (subst (λ (f : ℕ). WritesOnly f b c) first.file.file second.writes);
  file = files_then u v w first.file second.file;
  faults = faults_after DiskFailed result a b c first.faults.quiet second.faults;
  begun = second.begun;
}

pub copying_done : {X Y : Type 0} (p q : PlotState) (u v : WriterState) (x : X) (y : Y) (a b : View) → IsCopying p q u v (Ok x) a b → IsCopying p q u v (Ok y) a b
copying_done p q u v x y a b copying = record {
  same = copying.same;
  writes = copying.writes;
  file = copying.file;
  faults = faults_none DiskFailed (Ok y) a b copying.faults.quiet (λ e. cc);
  begun = λ e. cc;
}

-- a refusal that is handed on
pub copying_refused : {X Y : Type 0} (p q : PlotState) (u v : WriterState) (fault : ConvertFault) (result : Result Y ConvertFault) (a b : View) → result ≡ Err fault
    → IsCopying {X = X} p q u v (Err fault) a b → IsCopying p q u v result a b
copying_refused p q u v fault result a b is copying = record {
  same = copying.same;
  writes = copying.writes;
  file = copying.file;
  faults = faults_refused DiskFailed fault result a b is copying.faults;
  begun = λ e. copying.begun (ap (λ f. Err f) (same_fault fault Exists result is e));
}
  where
    same_fault : {Y : Type 0} (fault other : ConvertFault) (result : Result Y ConvertFault) → result ≡ Err fault → IsErrOf result other → fault ≡ other
    same_fault fault other (Ok y) is e = cc
    same_fault fault other (Err f) is e = (let one : f ≡ fault = cc in let this : f ≡ other = cc in sym one ∙ this)

-- ---- a step of the writer

work_failed : (e : WorkFault) → of_work e ≡ DiskFailed → e ≡ WorkFailed
work_failed (ScratchExists n) is = cc
work_failed WorkFailed is = refl
work_failed (WorkDamage d) is = cc
work_failed WorkMemory is = cc

work_begun : (e : WorkFault) → of_work e ≡ Exists → ⊥
work_begun (ScratchExists n) is = cc
work_begun WorkFailed is = cc
work_begun (WorkDamage d) is = cc
work_begun WorkMemory is = cc

of_error : {X : Type 0} (e f : ConvertFault) → ◌≡◌ {A = Result X ConvertFault} (Err e) (Err f) → e ≡ f
of_error e f is = cc

pub work_copying : {X Y : Type 0} (p : PlotState) (w x : WriterState) (y : X) (z : Y) (a b : View) → Works IsShut w.file (Ok y) a b → SameFile w x → IsCopying p p w x (Ok z) a b
work_copying p w x y z a b works file = record {
  same = refl;
  writes = works_only w.file (Ok y) a b works;
  file = file;
  faults = faults_none DiskFailed (Ok z) a b works.quiet (λ e. cc);
  begun = λ e. cc;
}

pub work_refused : {X Y : Type 0} (p : PlotState) (w x : WriterState) (e : WorkFault) (result : Result Y ConvertFault) (a b : View) → result ≡ Err (of_work e)
    → Works {X = X} IsShut w.file (Err e) a b → SameFile w x → IsCopying p p w x result a b
work_refused {X} {Y} p w x e result a b is works file = subst (λ (r : Result Y ConvertFault). IsCopying p p w x r a b) (sym is) (record {
  same = refl;
  writes = works_only w.file (Err e) a b works;
  file = file;
  faults = record {
    failed = λ f. works.failed (ap (λ g. Err g) (work_failed e (of_error {X = Y} (of_work e) DiskFailed f)));
    quiet = λ other. works.quiet (λ f. other (ap of_work f));
  };
  begun = λ f. work_begun e (of_error {X = Y} (of_work e) Exists f);
})

-- ---- a step of the reader

reading_failed : (e : ReadRefusal) → of_reading e ≡ DiskFailed → e ≡ ReadFailed
reading_failed ReadFailed is = refl
reading_failed (Found d) is = cc

reading_begun : (e : ReadRefusal) → of_reading e ≡ Exists → ⊥
reading_begun ReadFailed is = cc
reading_begun (Found d) is = cc

pub reading_damage : (e : ReadRefusal) (d : Damage) → of_reading e ≡ IsDamaged d → e ≡ Found d
reading_damage ReadFailed d is = cc
reading_damage (Found f) d is = let same : f ≡ d = cc in ap (λ g. Found g) same

pub reading_copying : {X Y : Type 0} (n : ℕ) (p q : PlotState) (w : WriterState) (x : X) (y : Y) (a b : View) → IsReading n (Ok x) p q a b → IsStanding w a → IsCopying p q w w (Ok y) a b
reading_copying n p q w x y a b reading standing = record {
  same = reading.left.same;
  writes = reads_write n w a b reading.left.reads standing;
  file = same_file w;
  faults = faults_none DiskFailed (Ok y) a b reading.faults.quiet (λ e. cc);
  begun = λ e. cc;
}

pub reading_refused : {X Y : Type 0} (n : ℕ) (p q : PlotState) (w : WriterState) (e : ReadRefusal) (result : Result Y ConvertFault) (a b : View) → result ≡ Err (of_reading e)
    → IsReading {X = X} n (Err e) p q a b → IsStanding w a → IsCopying p q w w result a b
reading_refused {X} {Y} n p q w e result a b is reading standing = subst (λ (r : Result Y ConvertFault). IsCopying p q w w r a b) (sym is) (record {
  same = reading.left.same;
  writes = reads_write n w a b reading.left.reads standing;
  file = same_file w;
  faults = record {
    failed = λ f. reading.faults.failed (ap (λ g. Err g) (reading_failed e (of_error {X = Y} (of_reading e) DiskFailed f)));
    quiet = λ other. reading.faults.quiet (λ f. other (ap of_reading f));
  };
  begun = λ f. reading_begun e (of_error {X = Y} (of_reading e) Exists f);
})

-- a step after reads
pub copying_read : {X Y : Type 0} (n : ℕ) (p q : PlotState) (w x : WriterState) (y : X) (result : Result Y ConvertFault) (a b c : View) → IsReading n (Ok y) p q a b → IsStanding w a
    → IsCopying q q w x result b c → IsCopying p q w x result a c
copying_read n p q w x y result a b c reading standing copying =
    copying_then p q q w w x y result a b c standing (reading_copying n p q w y y a b reading standing) copying

-- the damage of a refusal that is handed on
pub damage_handed : {Y : Type 0} (fault : ConvertFault) (result : Result Y ConvertFault) (d : Damage) → result ≡ Err fault → IsErrOf result (IsDamaged d) → fault ≡ IsDamaged d
damage_handed fault (Ok y) d is e = cc
damage_handed fault (Err f) d is e = (let one : f ≡ fault = cc in let this : f ≡ IsDamaged d = cc in sym one ∙ this)

-- a writer's fault is no damage
pub work_undamaged : (e : WorkFault) (d : Damage) → of_work e ≡ IsDamaged d → ⊥
work_undamaged (ScratchExists n) d is = cc
work_undamaged WorkFailed d is = cc
work_undamaged (WorkDamage x) d is = cc
work_undamaged WorkMemory d is = cc
