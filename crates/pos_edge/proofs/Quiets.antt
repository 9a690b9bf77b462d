-- A disk that tells nothing meets the contract by its counts and sizes.
use Rattle.std.proofs.Common.{inl, inr, ℕ, ◌+◌, ◌≤◌, ◌<◌, ◌≡◌, ◌^◌, max, true, List, [], ◌∷◌, ◌++◌, length, set, Option, Some, None, Result, Ok, Err, refl, sym, ap, ◌∙◌, subst, arith}
use Rattle.std.specs.Prelude.{slice_get, IfOk, OnOk, OnErr, IsErrOf, is_ok}
use Rattle.std.proofs.lemmas.Bool.{false≢true, true≢false, cases_eq}
use Rattle.std.proofs.lemmas.Option.{none-some}
use Rattle.pos_edge.specs.declared.disk.FileId.{FileId}
use Rattle.pos_edge.specs.declared.disk.CreateFault.{CreateFault}
use Rattle.pos_edge.specs.declared.disk.CreateFault.TheVariants.{Exists, Failed as CreateFailed, Memory as CreateMemory}
use Rattle.pos_edge.specs.declared.disk.OpenFault.{OpenFault}
use Rattle.pos_edge.specs.declared.disk.OpenFault.TheVariants.{Absent, Failed as OpenFailed, Memory as OpenMemory}
use Rattle.pos_edge.specs.declared.disk.WriteFault.{WriteFault}
use Rattle.pos_edge.specs.declared.disk.WriteFault.TheVariants.{Failed as WriteFailed, Memory as WriteMemory}
use Rattle.pos_edge.specs.declared.disk.DiskFailed.{DiskFailed}
use Rattle.pos_edge.specs.Faults.{Rose, counted}
use Rattle.pos_edge.specs.Frame.{ChangesOnly, ChangesFile, KeepsIds, SameFaults, SameFaultsBut, IsUntouched, Nothing, Just, NameOf}
use Rattle.pos_edge.specs.Images.{ImagesBy}
use Rattle.pos_edge.specs.Calls.{WasThere, WasAbsent, IsCreated, IsHalfCreated, IsOpened, AreBytesAt, IsWritten, IsHalfWritten, SameContents, IsSynced, Ends, IsGone, IsAsItWasOrGone}
use Rattle.pos_edge.specs.Quiet.{QuietState, live_in, known_size, quiet_view, QuietCreates, QuietOpens, QuietReads, QuietWrites, QuietSyncs, QuietRemoves}
use Rattle.pos_edge.proofs.Events.{slice_get-push_other, slice_get-push_new, slice_get-end, slice_get-set_same, slice_get-set_other}

quiet_frame : (names : List ℕ → Type 0) (ids : ℕ → Type 0) (a b : QuietState) → a.faults ≤ b.faults → a.reads ≤ b.reads
    → ((f : ℕ) → live_in (slice_get a.sizes f) ≡ true → (ids f → ⊥) → slice_get b.sizes f ≡ slice_get a.sizes f) → ChangesOnly names ids (quiet_view a) (quiet_view b)
quiet_frame names ids a b faults reads same = record {
  faults = faults;
  reads = reads;
  clock = omega arith;
  tells = refl;
  tells_images = refl;
  live = λ f l k. ap live_in (same f l k) ∙ l;
  size = λ f l k. ap known_size (same f l k);
  name = λ f l k e. refl;
  contents = λ n k. refl;
  images = λ n t i k from to. (λ x. x, λ x. x);
  past = λ n t i h. (λ x. x, λ x. x);
}

quiet_ids : (but : ℕ → Type 0) (a b : QuietState) → ((f : ℕ) → (but f → ⊥) → slice_get b.sizes f ≡ slice_get a.sizes f) → KeepsIds but (quiet_view a) (quiet_view b)
quiet_ids but a b same = record { live = λ f k. ap live_in (same f k); name = λ f k. refl }

quiet_same : (a b : QuietState) → b ≡ a → IsUntouched (quiet_view a) (quiet_view b)
quiet_same a b e = subst (λ (x : QuietState). IsUntouched (quiet_view a) (quiet_view x)) (sym e) (record {
  kept = quiet_frame Nothing Nothing a a (omega arith) (omega arith) (λ f l k. refl);
  ids = quiet_ids Nothing a a (λ f k. refl);
  faults = refl;
})

at_same : (a b : QuietState) → b.sizes ≡ a.sizes → (f : ℕ) → slice_get b.sizes f ≡ slice_get a.sizes f
at_same a b e f = ap (λ xs. slice_get xs f) e

at_push : (a b : QuietState) (x : Option ℕ) → b.sizes ≡ a.sizes ++ x ∷ [] → (f : ℕ) → (f ≡ length a.sizes → ⊥) → slice_get b.sizes f ≡ slice_get a.sizes f
at_push a b x e f k = ap (λ xs. slice_get xs f) e ∙ slice_get-push_other a.sizes x f k

not_end : (a : QuietState) (f : ℕ) → live_in (slice_get a.sizes f) ≡ true → f ≡ length a.sizes → ⊥
not_end a f l e = false≢true (sym (ap (λ n. live_in (slice_get a.sizes n)) e ∙ ap live_in (slice_get-end a.sizes)) ∙ l)

at_set : (a b : QuietState) (file : ℕ) (x : Option ℕ) → b.sizes ≡ set a.sizes file x → (f : ℕ) → (f ≡ file → ⊥) → slice_get b.sizes f ≡ slice_get a.sizes f
at_set a b file x e f k = ap (λ xs. slice_get xs f) e ∙ slice_get-set_other a.sizes file f x k

-- the FileId is live, with this size
pub quiet_live : (o : Option (Option ℕ)) → live_in o ≡ true → (size : ℕ) × (o ≡ Some (Some size))
quiet_live None l = absurd (false≢true l)
quiet_live (Some None) l = absurd (false≢true l)
quiet_live (Some (Some size)) l = (size, refl)

module _ (a b : QuietState) (n : List ℕ) where
  pub create_kept : (r : Result FileId CreateFault) → QuietCreates a r b → ChangesOnly (Just n) Nothing (quiet_view a) (quiet_view b)
  create_kept (Ok file) g = quiet_frame (Just n) Nothing a b (let f = g.0.faults in omega arith) (let e = g.0.reads in omega arith) (λ f l k. at_push a b (Some 0) g.2 f (not_end a f l))
  create_kept (Err Exists) g = quiet_frame (Just n) Nothing a b (let e = ap (λ (x : QuietState). x.faults) g in omega arith) (let e = ap (λ (x : QuietState). x.reads) g in omega arith) (λ f l k. at_same a b (ap (λ (x : QuietState). x.sizes) g) f)
  create_kept (Err CreateFailed) g = quiet_frame (Just n) Nothing a b g.0.faults (let e = g.0.reads in omega arith) (λ f l k. at_same a b g.1 f)
  create_kept (Err CreateMemory) g = quiet_frame (Just n) Nothing a b (let e = ap (λ (x : QuietState). x.faults) g in omega arith) (let e = ap (λ (x : QuietState). x.reads) g in omega arith) (λ f l k. at_same a b (ap (λ (x : QuietState). x.sizes) g) f)

  pub create_reads : (r : Result FileId CreateFault) → QuietCreates a r b → b.reads ≡ a.reads
  create_reads (Ok file) g = g.0.reads
  create_reads (Err Exists) g = ap (λ (x : QuietState). x.reads) g
  create_reads (Err CreateFailed) g = g.0.reads
  create_reads (Err CreateMemory) g = ap (λ (x : QuietState). x.reads) g

  pub create_ok : (r : Result FileId CreateFault) → QuietCreates a r b → IfOk r (λ file. IsCreated n file.0 (quiet_view a) (quiet_view b))
  create_ok (Ok file) g = subst (λ k. IsCreated n k (quiet_view a) (quiet_view b)) (sym g.1) (record {
    was_absent = refl;
    fresh = ap live_in (slice_get-end a.sizes);
    live = ap (λ xs. live_in (slice_get xs (length a.sizes))) g.2 ∙ ap live_in (slice_get-push_new a.sizes (Some 0));
    size = ap (λ xs. known_size (slice_get xs (length a.sizes))) g.2 ∙ ap known_size (slice_get-push_new a.sizes (Some 0));
    others = quiet_ids (Just (length a.sizes)) a b (at_push a b (Some 0) g.2);
    named = λ told. absurd (false≢true told);
    contents = λ told. absurd (false≢true told);
    images = λ t i from to is. absurd is;
  })
  create_ok (Err e) g = tt

  pub create_exists : (r : Result FileId CreateFault) → QuietCreates a r b → IsErrOf r Exists → WasThere n (quiet_view a) × IsUntouched (quiet_view a) (quiet_view b)
  create_exists (Ok file) g is = absurd (true≢false (ap is_ok is))
  create_exists (Err Exists) g is = (λ told. absurd (false≢true told), quiet_same a b g)
  create_exists (Err CreateFailed) g is = absurd (false≢true cc)
  create_exists (Err CreateMemory) g is = absurd (false≢true cc)

  pub create_failed : (r : Result FileId CreateFault) → QuietCreates a r b → IsErrOf r CreateFailed → IsHalfCreated n (quiet_view a) (quiet_view b)
  create_failed (Ok file) g is = absurd (true≢false (ap is_ok is))
  create_failed (Err Exists) g is = absurd (false≢true cc)
  create_failed (Err CreateFailed) g is = record {
    rose = g.0.rose;
    ids = quiet_ids Nothing a b (λ f k. at_same a b g.1 f);
    there = λ t. absurd (false≢true t);
    contents = λ none. inl refl;
    images = λ none t i from to im. absurd im;
  }
  create_failed (Err CreateMemory) g is = absurd (false≢true cc)

  pub create_memory : (r : Result FileId CreateFault) → QuietCreates a r b → IsErrOf r CreateMemory → IsUntouched (quiet_view a) (quiet_view b)
  create_memory (Ok file) g is = absurd (true≢false (ap is_ok is))
  create_memory (Err Exists) g is = absurd (false≢true cc)
  create_memory (Err CreateFailed) g is = absurd (false≢true cc)
  create_memory (Err CreateMemory) g is = quiet_same a b g

  pub create_quiet : (r : Result FileId CreateFault) → QuietCreates a r b → SameFaultsBut CreateFailed r (quiet_view a) (quiet_view b)
  create_quiet (Ok file) g = g.0.faults
  create_quiet (Err Exists) g = λ k. ap (λ (x : QuietState). x.faults) g
  create_quiet (Err CreateFailed) g = λ k. absurd (k refl)
  create_quiet (Err CreateMemory) g = λ k. ap (λ (x : QuietState). x.faults) g

  pub open_kept : (r : Result FileId OpenFault) → QuietOpens a r b → ChangesOnly Nothing Nothing (quiet_view a) (quiet_view b)
  open_kept (Ok file) g = quiet_frame Nothing Nothing a b (let f = g.0.faults in omega arith) (let e = g.0.reads in omega arith) (λ f l k. at_push a b (Some g.2.0) g.2.1 f (not_end a f l))
  open_kept (Err Absent) g = (quiet_same a b g).kept
  open_kept (Err OpenFailed) g = quiet_frame Nothing Nothing a b g.0.faults (let e = g.0.reads in omega arith) (λ f l k. at_same a b g.1 f)
  open_kept (Err OpenMemory) g = (quiet_same a b g).kept

  pub open_reads : (r : Result FileId OpenFault) → QuietOpens a r b → b.reads ≡ a.reads
  open_reads (Ok file) g = g.0.reads
  open_reads (Err Absent) g = ap (λ (x : QuietState). x.reads) g
  open_reads (Err OpenFailed) g = g.0.reads
  open_reads (Err OpenMemory) g = ap (λ (x : QuietState). x.reads) g

  pub open_ok : (r : Result FileId OpenFault) → QuietOpens a r b → IfOk r (λ file. IsOpened n file.0 (quiet_view a) (quiet_view b))
  open_ok (Ok file) g = subst (λ k. IsOpened n k (quiet_view a) (quiet_view b)) (sym g.1) (record {
    fresh = ap live_in (slice_get-end a.sizes);
    live = ap (λ xs. live_in (slice_get xs (length a.sizes))) g.2.1 ∙ ap live_in (slice_get-push_new a.sizes (Some g.2.0));
    others = quiet_ids (Just (length a.sizes)) a b (at_push a b (Some g.2.0) g.2.1);
    named = λ told. absurd (false≢true told);
    size = λ told. absurd (false≢true told);
  })
  open_ok (Err e) g = tt

  pub open_absent : (r : Result FileId OpenFault) → QuietOpens a r b → IsErrOf r Absent → WasAbsent n (quiet_view a) × IsUntouched (quiet_view a) (quiet_view b)
  open_absent (Ok file) g is = absurd (true≢false (ap is_ok is))
  open_absent (Err Absent) g is = (refl, quiet_same a b g)
  open_absent (Err OpenFailed) g is = absurd (false≢true cc)
  open_absent (Err OpenMemory) g is = absurd (false≢true cc)

  pub open_failed : (r : Result FileId OpenFault) → QuietOpens a r b → IsErrOf r OpenFailed → Rose a.faults b.faults × KeepsIds Nothing (quiet_view a) (quiet_view b)
  open_failed (Ok file) g is = absurd (true≢false (ap is_ok is))
  open_failed (Err Absent) g is = absurd (false≢true cc)
  open_failed (Err OpenFailed) g is = (g.0.rose, quiet_ids Nothing a b (λ f k. at_same a b g.1 f))
  open_failed (Err OpenMemory) g is = absurd (false≢true cc)

  pub open_memory : (r : Result FileId OpenFault) → QuietOpens a r b → IsErrOf r OpenMemory → IsUntouched (quiet_view a) (quiet_view b)
  open_memory (Ok file) g is = absurd (true≢false (ap is_ok is))
  open_memory (Err Absent) g is = absurd (false≢true cc)
  open_memory (Err OpenFailed) g is = absurd (false≢true cc)
  open_memory (Err OpenMemory) g is = quiet_same a b g

  pub open_quiet : (r : Result FileId OpenFault) → QuietOpens a r b → SameFaultsBut OpenFailed r (quiet_view a) (quiet_view b)
  open_quiet (Ok file) g = g.0.faults
  open_quiet (Err Absent) g = λ k. ap (λ (x : QuietState). x.faults) g
  open_quiet (Err OpenFailed) g = λ k. absurd (k refl)
  open_quiet (Err OpenMemory) g = λ k. ap (λ (x : QuietState). x.faults) g

module _ (a b : QuietState) (file size : ℕ) (known : slice_get a.sizes file ≡ Some (Some size)) where
  pub read_kept : (r : Result (Unit {0}) DiskFailed) → a.reads < 2 ^ 64 → QuietReads a r b → ChangesOnly Nothing Nothing (quiet_view a) (quiet_view b)
  read_kept (Ok t) small g = quiet_frame Nothing Nothing a b (let f = g.0 in omega arith) (let e = g.1 in omega arith) (λ f l k. at_same a b g.2 f)
  read_kept (Err e) small g = quiet_frame Nothing Nothing a b g.1 (let e = g.2 in omega arith) (λ f l k. at_same a b g.3 f)

  pub read_reads : (r : Result (Unit {0}) DiskFailed) → QuietReads a r b → b.reads ≡ counted a.reads
  read_reads (Ok t) g = g.1
  read_reads (Err e) g = g.2

  pub read_ids : (r : Result (Unit {0}) DiskFailed) → QuietReads a r b → KeepsIds Nothing (quiet_view a) (quiet_view b)
  read_ids (Ok t) g = quiet_ids Nothing a b (λ f k. at_same a b g.2 f)
  read_ids (Err e) g = quiet_ids Nothing a b (λ f k. at_same a b g.3 f)

  pub read_ok : (at : ℕ) (got : List ℕ) (r : Result (Unit {0}) DiskFailed) → OnOk r (AreBytesAt file at got (quiet_view a))
  read_ok at got (Ok t) = λ n bytes is there. absurd (none-some n is)
  read_ok at got (Err e) = tt

  pub read_failed : (r : Result (Unit {0}) DiskFailed) → QuietReads a r b → OnErr r (Rose a.faults b.faults)
  read_failed (Ok t) g = tt
  read_failed (Err e) g = g.0

  pub read_quiet : (r : Result (Unit {0}) DiskFailed) → QuietReads a r b → OnOk r (SameFaults (quiet_view a) (quiet_view b))
  read_quiet (Ok t) g = g.0
  read_quiet (Err e) g = tt

  write_file : (x : ℕ) → b.sizes ≡ set a.sizes file (Some x) → slice_get b.sizes file ≡ Some (Some x)
  write_file x e = ap (λ xs. slice_get xs file) e ∙ slice_get-set_same a.sizes file (Some size) (Some x) known

  same_file : (n : QuietState) → n.sizes ≡ a.sizes → a.faults ≤ n.faults → a.reads ≤ n.reads → ChangesFile file (quiet_view a) (quiet_view n)
  same_file n e faults reads = record {
    frame = quiet_frame (NameOf file (quiet_view a)) (Just file) a n faults reads (λ f l k. at_same a n e f);
    live = ap live_in (at_same a n e file) ∙ ap live_in known;
    name = refl;
    grows = omega (arith, ap known_size (at_same a n e file));
  }

  pub write_kept : (end : ℕ) (r : Result (Unit {0}) WriteFault) → QuietWrites a file size end r b → ChangesFile file (quiet_view a) (quiet_view b)
  write_kept end (Ok t) g = record {
    frame = quiet_frame (NameOf file (quiet_view a)) (Just file) a b (let f = g.0.faults in omega arith) (let e = g.0.reads in omega arith) (λ f l k. at_set a b file (Some (max size end)) g.1 f k);
    live = ap live_in (write_file (max size end) g.1);
    name = refl;
    grows = omega (arith, ap known_size (write_file (max size end) g.1), ap known_size known);
  }
  write_kept end (Err WriteFailed) g = same_file b g.1 g.0.faults (let e = g.0.reads in omega arith)
  write_kept end (Err WriteMemory) g = subst (λ (x : QuietState). ChangesFile file (quiet_view a) (quiet_view x)) (sym g) (same_file a refl (omega arith) (omega arith))

  pub write_reads : (end : ℕ) (r : Result (Unit {0}) WriteFault) → QuietWrites a file size end r b → b.reads ≡ a.reads
  write_reads end (Ok t) g = g.0.reads
  write_reads end (Err WriteFailed) g = g.0.reads
  write_reads end (Err WriteMemory) g = ap (λ (x : QuietState). x.reads) g

  pub write_ids : (end : ℕ) (r : Result (Unit {0}) WriteFault) → QuietWrites a file size end r b → KeepsIds Nothing (quiet_view a) (quiet_view b)
  write_ids end (Ok t) g = record {
    live = λ f k. elim (cases_eq f file) [
      | inl own ↦ subst (λ x. live_in (slice_get b.sizes x) ≡ live_in (slice_get a.sizes x)) (sym own) (ap live_in (write_file (max size end) g.1) ∙ sym (ap live_in known))
      | inr other ↦ ap live_in (at_set a b file (Some (max size end)) g.1 f other)
    ];
    name = λ f k. refl;
  }
  write_ids end (Err WriteFailed) g = quiet_ids Nothing a b (λ f k. at_same a b g.1 f)
  write_ids end (Err WriteMemory) g = (quiet_same a b g).ids

  pub quiet_images : (R : Option (List ℕ) → Option (List ℕ) → Type 0) → ImagesBy R file (quiet_view a) (quiet_view b)
  quiet_images R = λ n is t i from to im. absurd im

  pub write_ok : (at : ℕ) (piece : List ℕ) (r : Result (Unit {0}) WriteFault) → QuietWrites a file size (at + length piece) r b → OnOk r (IsWritten file at piece (quiet_view a) (quiet_view b))
  write_ok at piece (Ok t) g = record {
    size = ap known_size (write_file (max size (at + length piece)) g.1) ∙ ap (λ o. max (known_size o) (at + length piece)) (sym known);
    contents = λ n bytes is there. absurd (none-some n is);
  }
  write_ok at piece (Err e) g = tt

  pub write_failed : (at n : ℕ) (r : Result (Unit {0}) WriteFault) → QuietWrites a file size (at + n) r b → IsErrOf r WriteFailed → IsHalfWritten file at n (quiet_view a) (quiet_view b)
  write_failed at n (Ok t) g is = absurd (true≢false (ap is_ok is))
  write_failed at n (Err WriteFailed) g is = record {
    rose = g.0.rose;
    size = omega (arith, ap known_size (at_same a b g.1 file));
    contents = λ m bytes is' there. absurd (none-some m is');
  }
  write_failed at n (Err WriteMemory) g is = absurd (false≢true cc)

  pub write_memory : (end : ℕ) (r : Result (Unit {0}) WriteFault) → QuietWrites a file size end r b → IsErrOf r WriteMemory → IsUntouched (quiet_view a) (quiet_view b)
  write_memory end (Ok t) g is = absurd (true≢false (ap is_ok is))
  write_memory end (Err WriteFailed) g is = absurd (false≢true cc)
  write_memory end (Err WriteMemory) g is = quiet_same a b g

  pub write_quiet : (end : ℕ) (r : Result (Unit {0}) WriteFault) → QuietWrites a file size end r b → SameFaultsBut WriteFailed r (quiet_view a) (quiet_view b)
  write_quiet end (Ok t) g = g.0.faults
  write_quiet end (Err WriteFailed) g = λ k. absurd (k refl)
  write_quiet end (Err WriteMemory) g = λ k. ap (λ (x : QuietState). x.faults) g

  pub sync_kept : (r : Result (Unit {0}) DiskFailed) → QuietSyncs a r b → ChangesOnly (NameOf file (quiet_view a)) Nothing (quiet_view a) (quiet_view b)
  sync_kept (Ok t) g = quiet_frame (NameOf file (quiet_view a)) Nothing a b (let f = g.0.faults in omega arith) (let e = g.0.reads in omega arith) (λ f l k. at_same a b g.1 f)
  sync_kept (Err e) g = quiet_frame (NameOf file (quiet_view a)) Nothing a b g.0.faults (let e = g.0.reads in omega arith) (λ f l k. at_same a b g.1 f)

  pub sync_reads : (r : Result (Unit {0}) DiskFailed) → QuietSyncs a r b → b.reads ≡ a.reads
  sync_reads (Ok t) g = g.0.reads
  sync_reads (Err e) g = g.0.reads

  pub sync_ids : (r : Result (Unit {0}) DiskFailed) → QuietSyncs a r b → KeepsIds Nothing (quiet_view a) (quiet_view b)
  sync_ids (Ok t) g = quiet_ids Nothing a b (λ f k. at_same a b g.1 f)
  sync_ids (Err e) g = quiet_ids Nothing a b (λ f k. at_same a b g.1 f)

  pub quiet_contents : SameContents (quiet_view a) (quiet_view b)
  quiet_contents = λ n. refl

  pub sync_ok : (r : Result (Unit {0}) DiskFailed) → OnOk r (IsSynced file (quiet_view b))
  sync_ok (Ok t) = λ n is. absurd (none-some n is)
  sync_ok (Err e) = tt

  pub sync_failed : (r : Result (Unit {0}) DiskFailed) → QuietSyncs a r b → OnErr r (Rose a.faults b.faults)
  sync_failed (Ok t) g = tt
  sync_failed (Err e) g = g.0.rose

  pub sync_quiet : (r : Result (Unit {0}) DiskFailed) → QuietSyncs a r b → OnOk r (SameFaults (quiet_view a) (quiet_view b))
  sync_quiet (Ok t) g = g.0.faults
  sync_quiet (Err e) g = tt

  pub remove_kept : (r : Result (Unit {0}) DiskFailed) → QuietRemoves a file r b → ChangesOnly (NameOf file (quiet_view a)) (Just file) (quiet_view a) (quiet_view b)
  remove_kept (Ok t) g = quiet_frame (NameOf file (quiet_view a)) (Just file) a b (let f = g.0.faults in omega arith) (let e = g.0.reads in omega arith) (λ f l k. at_set a b file None g.1 f k)
  remove_kept (Err e) g = quiet_frame (NameOf file (quiet_view a)) (Just file) a b g.0.faults (let e = g.0.reads in omega arith) (λ f l k. at_set a b file None g.1 f k)

  pub remove_reads : (r : Result (Unit {0}) DiskFailed) → QuietRemoves a file r b → b.reads ≡ a.reads
  remove_reads (Ok t) g = g.0.reads
  remove_reads (Err e) g = g.0.reads

  ended_ids : b.sizes ≡ set a.sizes file None → Ends file (quiet_view a) (quiet_view b)
  ended_ids e = record {
    ended = ap (λ xs. live_in (slice_get xs file)) e ∙ ap live_in (slice_get-set_same a.sizes file (Some size) None known);
    others = λ f k. ap live_in (at_set a b file None e f k);
    names = λ f k apart. refl;
    kept_or_none = λ f k. inl refl;
  }

  pub remove_ends : (r : Result (Unit {0}) DiskFailed) → QuietRemoves a file r b → Ends file (quiet_view a) (quiet_view b)
  remove_ends (Ok t) g = ended_ids g.1
  remove_ends (Err e) g = ended_ids g.1

  pub remove_ok : (r : Result (Unit {0}) DiskFailed) → OnOk r (IsGone file (quiet_view a) (quiet_view b))
  remove_ok (Ok t) = λ n is. absurd (none-some n is)
  remove_ok (Err e) = tt

  pub remove_failed : (r : Result (Unit {0}) DiskFailed) → QuietRemoves a file r b → OnErr r (Rose a.faults b.faults)
  remove_failed (Ok t) g = tt
  remove_failed (Err e) g = g.0.rose

  pub remove_quiet : (r : Result (Unit {0}) DiskFailed) → QuietRemoves a file r b → OnOk r (SameFaults (quiet_view a) (quiet_view b))
  remove_quiet (Ok t) g = g.0.faults
  remove_quiet (Err e) g = tt

  pub quiet_left : IsAsItWasOrGone file (quiet_view a) (quiet_view b)
  quiet_left = λ n is. absurd (none-some n is)
