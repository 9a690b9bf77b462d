-- The start of a conversion: the file is made, then begun.
use Rattle.std.proofs.Common.{ℕ, ◌≤◌, ◌≡◌, true, false, List, Option, Some, None, Result, Ok, Err, refl, sym, ap, ◌∙◌, subst, inl, inr, arith}
use Rattle.std.specs.Prelude.{IsSome, MatchResult}
use Rattle.std.proofs.lemmas.Bool.{cases_Bool, false≢true, true≢false}
use Rattle.std.proofs.lemmas.Option.{none-some, same_Some}
use Rattle.pos_edge.specs.View.{View, IsDisk}
use Rattle.pos_edge.specs.Frame.{ChangesOnly, IsUntouched, SameFaults, SameFaultsBut, Nothing, Just, NameOf}
use Rattle.pos_edge.specs.Images.{EachImage, IsAbsentOrEmpty}
use Rattle.pos_edge.specs.Calls.{WasThere, IsCreated, IsHalfCreated}
use Rattle.pos_edge.specs.Faults.{Rose}
use Rattle.pos_edge.specs.declared.disk.CreateFault.{CreateFault}
use Rattle.pos_edge.specs.declared.disk.CreateFault.TheVariants.{Exists as IsTaken, Failed as CreateFailed, Memory as CreateMemory}
use Rattle.pos_edge.specs.declared.scratch.WorkFault.{WorkFault}
use Rattle.pos_edge.specs.declared.scratch.WorkFault.TheVariants.{Exists as ScratchExists, DiskFailed as WorkFailed, Scratch as WorkDamage, Memory as WorkMemory}
use Rattle.pos_edge.proofs.Frames.{frame_then, each_then, each_beside, each_weaker}
use Rattle.pos_edge.proofs.FaultLemmas.{Rose-since}
use Rattle.pos_layout.specs.declared.layout.Layout.TheVariants.{Two}
use Rattle.pos_layout.specs.Drafts.{WriterState, Stands, begun}
use Rattle.pos_layout.specs.Images.{IsTinyOrShut}
use Rattle.pos_layout.specs.Layouts.{memo_of}
use Rattle.pos_layout.specs.Writing.{Works, IsBegun}
use Rattle.pos_reader.specs.Plots.{PlotState}
use Rattle.pos_convert.specs.declared.fault.ConvertFault.{ConvertFault}
use Rattle.pos_convert.specs.declared.fault.ConvertFault.TheVariants.{DiskFailed}
use Rattle.pos_convert.specs.Faults.{of_create, of_work}
use Rattle.pos_convert.specs.Copies.{HasStartedCopy, IsCopyStart, IsCopyStartCause}

-- a memo of so many bytes is one of the second layout
pub memo_allowed : (n : ℕ) → n ≤ 256 → n ≤ memo_of Two
unfolding memo_of
memo_allowed n few = few

-- a name that is there is not absent
pub there_absent : (o : Option (List ℕ)) → IsSome o → o ≡ None → ⊥
there_absent None some is = false≢true some
there_absent (Some b) some is = none-some b (sym is)

absent_or_empty : (image : Option (List ℕ)) → IsAbsentOrEmpty image → IsTinyOrShut image
absent_or_empty image (inl none) = subst IsTinyOrShut (sym none) (inl tt)
absent_or_empty image (inr empty) = subst IsTinyOrShut (sym empty) (inl (omega arith))

-- where nothing changed, an absent name has no image but "absent"
still_absent : (name : List ℕ) (a b : View) → IsDisk a → ChangesOnly Nothing Nothing a b → a.contents name ≡ None → EachImage name IsTinyOrShut a b
still_absent name a b disk kept none = each_beside name IsTinyOrShut Nothing Nothing a b kept (λ x. x)
    (λ i img. subst IsTinyOrShut (sym (disk.absent_image name i none img)) (inl tt))

-- nothing was done
start_untouched : (X : Type 0) (name : List ℕ) (fault : ConvertFault) (a b : View) → IsDisk a → IsUntouched a b → ChangesOnly (Just name) Nothing a b → IsCopyStartCause name a b fault
    → IsCopyStart {X = X} name (Err fault) a b
start_untouched X name fault a b disk u kept cause = record {
  kept = kept;
  there = λ some. u.kept;
  images = λ none. still_absent name a b disk u.kept none;
  cause = cause;
  quiet = λ other. u.faults;
}

-- the file was not made
pub start_refused : (X : Type 0) (name : List ℕ) (e : CreateFault) (a b : View) → IsDisk a → ChangesOnly (Just name) Nothing a b → (e ≡ IsTaken → WasThere name a × IsUntouched a b)
    → (e ≡ CreateFailed → IsHalfCreated name a b) → (e ≡ CreateMemory → IsUntouched a b) → IsCopyStart {X = X} name (Err (of_create e)) a b
start_refused X name IsTaken a b disk kept exists failed memory = let h = exists refl in start_untouched X name _ a b disk h.1 kept (h.0, h.1.kept)
start_refused X name CreateMemory a b disk kept exists failed memory = start_untouched X name _ a b disk (memory refl) kept tt
start_refused X name CreateFailed a b disk kept exists failed memory = let h = failed refl in record {
  kept = kept;
  there = h.there;
  images = λ none. each_weaker name IsAbsentOrEmpty IsTinyOrShut a b absent_or_empty (h.images none);
  cause = h.rose;
  quiet = λ other. absurd (other refl);
}

-- what the file is called, over every disk
pub called : (name : List ℕ) (file : ℕ) (c : View) → IsDisk c → (c.tells ≡ true → NameOf file c name) → (n : List ℕ) → NameOf file c n → n ≡ name
called name file c disk told n is = elim (cases_Bool c.tells) [
  | inl tells ↦ same_Some n name (sym is ∙ told tells)
  | inr silent ↦ let t = (disk.named file n is).there in absurd (none-some t.0 (sym (disk.no_contents n silent) ∙ t.1))
]

-- over a disk that tells no contents there are no images
pub no_image : (b : View) → IsDisk b → b.tells ≡ false → (name : List ℕ) (t : ℕ) (i : Option (List ℕ)) → b.image name t i → ⊥
no_image b disk silent name t i img = elim (cases_Bool b.tells_images) [
  | inl told ↦ true≢false (sym (disk.images_told told) ∙ silent)
  | inr none ↦ disk.no_images name t i none img
]

-- what is known of a file's images by its name
pub images_called : (P : Option (List ℕ) → Type 0) (name : List ℕ) (file : ℕ) (c b : View) → IsDisk b → b.tells ≡ c.tells → (c.tells ≡ true → NameOf file c name)
    → ((n : List ℕ) → NameOf file c n → EachImage n P c b) → EachImage name P c b
images_called P name file c b disk tells told each = elim (cases_Bool c.tells) [
  | inl yes_tells ↦ each name (told yes_tells)
  | inr silent ↦ λ t i from to img. absurd (no_image b disk (tells ∙ silent) name t i img)
]

-- the file was made, and begun with this answer
start_begun : {X Y : Type 0} (name : List ℕ) (file : ℕ) (q : Result X WorkFault) (r : Result Y ConvertFault) (a c b : View) → IsDisk c → IsDisk b
    → ChangesOnly (Just name) Nothing a c → IsCreated name file a c → Works IsTinyOrShut file q c b
    → MatchResult r (λ y. Unit {0}) (IsCopyStartCause name a b) → SameFaultsBut DiskFailed r a b → IsCopyStart name r a b
start_begun name file q r a c b disk_c disk_b kept new works cause quiet = record {
  kept = frame_then (Just name) (Just name) (NameOf file c) Nothing Nothing (Just file) a c b (λ n x. x) (called name file c disk_c new.named) (λ f l x. x)
      (λ f l is. false≢true (sym new.fresh ∙ (ap a.is_live (sym is) ∙ l))) kept works.kept.frame;
  there = λ some. absurd (there_absent (a.contents name) some new.was_absent);
  images = λ none. each_then name IsTinyOrShut (NameOf file c) (Just file) a c b works.kept.frame
      (each_weaker name IsAbsentOrEmpty IsTinyOrShut a c absent_or_empty new.images)
      (images_called IsTinyOrShut name file c b disk_b works.kept.frame.tells new.named works.images);
  cause = cause;
  quiet = quiet;
}

-- the fault of the beginning
begin_cause : (name : List ℕ) (e : WorkFault) (a c b : View) → a.faults ≤ c.faults → (e ≡ WorkFailed → Rose c.faults b.faults) → IsCopyStartCause name a b (of_work e)
begin_cause name WorkFailed a c b less failed = Rose-since a.faults c.faults b.faults less (failed refl)
begin_cause name WorkMemory a c b less failed = tt
begin_cause name (ScratchExists n) a c b less failed = tt
begin_cause name (WorkDamage d) a c b less failed = tt

pub start_failed : {X : Type 0} (Y : Type 0) (name : List ℕ) (file : ℕ) (e : WorkFault) (a c b : View) → IsDisk c → IsDisk b
    → ChangesOnly (Just name) Nothing a c → IsCreated name file a c → SameFaults a c → Works {X = X} IsTinyOrShut file (Err e) c b → IsCopyStart {X = Y} name (Err (of_work e)) a b
start_failed Y name file e a c b disk_c disk_b kept new same works =
    start_begun name file (Err e) (Err (of_work e)) a c b disk_c disk_b kept new works
    (begin_cause name e a c b kept.faults (λ is. works.failed (ap (λ f. Err f) is)))
    (λ other. works.quiet (λ is. other (ap of_work is)) ∙ same)

pub start_went_well : {X Y : Type 0} (name : List ℕ) (file : ℕ) (x : X) (y : Y) (a c b : View) → IsDisk c → IsDisk b
    → ChangesOnly (Just name) Nothing a c → IsCreated name file a c → SameFaults a c → Works IsTinyOrShut file (Ok x) c b → IsCopyStart name (Ok y) a b
start_went_well name file x y a c b disk_c disk_b kept new same works =
    start_begun name file (Ok x) (Ok y) a c b disk_c disk_b kept new works tt (works.quiet ∙ same)

pub started : {X : Type 0} (p : PlotState) (memo id : List ℕ) (k : ℕ) (name : List ℕ) (file : ℕ) (w : WriterState) (r : Result X WorkFault) (a c b : View) → IsDisk c → IsDisk b
    → id ≡ p.header.id.0 → k ≡ p.header.size → IsCreated name file a c → Works IsTinyOrShut file r c b → IsBegun file Two k w → Stands w (begun Two memo id k) b → HasStartedCopy p memo name w a b
started p memo id k name file w r a c b disk_c disk_b same_id same_size new works begins stands = record {
  absent = new.was_absent;
  fresh = ap a.is_live begins.file_is ∙ new.fresh;
  begins = subst (λ (m : ℕ). IsBegun w.file Two m w) same_size
      (record { file_is = refl; layout_is = begins.layout_is; size_is = begins.size_is; columns = begins.columns; count = begins.count; least = begins.least });
  stands = subst (λ (i : List ℕ). Stands w (begun Two memo i p.header.size) b) same_id (subst (λ (m : ℕ). Stands w (begun Two memo id m) b) same_size stands);
  named = λ n is. called name file c disk_c new.named n (sym works.kept.name ∙ (ap b.name_of (sym begins.file_is) ∙ is));
  told = λ tells. ap b.name_of begins.file_is ∙ (works.kept.name ∙ new.named (sym works.kept.frame.tells ∙ tells));
}
