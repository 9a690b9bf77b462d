-- What the calls on a disk in memory give is what a disk promises: `create` and `open`.
use Rattle.std.proofs.Common.{ℕ, ◌^◌, ◌≤◌, ◌<◌, ◌≡◌, List, [], ◌∷◌, ◌++◌, length, Option, Some, None, Result, Ok, Err, refl, sym, ap, ◌∙◌, subst, inl, inr, arith}
use Rattle.std.specs.Prelude.{slice_get, option_map, IfOk, IsErrOf, is_ok}
use Rattle.std.proofs.lemmas.Bool.{false≢true, true≢false, le-leb}
use Rattle.std.proofs.lemmas.Option.{none-some}
use Rattle.pos_edge.specs.declared.disk.FileId.{FileId}
use Rattle.pos_edge.specs.declared.disk.CreateFault.{CreateFault}
use Rattle.pos_edge.specs.declared.disk.CreateFault.TheVariants.{Exists, Failed as CreateFailed, Memory as CreateMemory}
use Rattle.pos_edge.specs.declared.disk.OpenFault.{OpenFault}
use Rattle.pos_edge.specs.declared.disk.OpenFault.TheVariants.{Absent, Failed as OpenFailed, Memory as OpenMemory}
use Rattle.pos_edge.specs.Faults.{Rose, counted}
use Rattle.pos_edge.specs.Frame.{ChangesOnly, KeepsIds, SameFaultsBut, IsUntouched, Nothing, Just}
use Rattle.pos_edge.specs.Calls.{WasThere, WasAbsent, IsCreated, IsHalfCreated, IsOpened}
use Rattle.pos_edge.specs.Log.{Making, Event, NameState, state_of, contents_of, bytes_of, acted, IsImage}
use Rattle.pos_edge.specs.MemoryDisks.{DiskState, OpenFile, memory_view, live_of, size_in, live_name, holds, IsSoundDisk, CreateGives, OpenGives, passed, failed, noted, given, opened_file}
use Rattle.pos_edge.specs.MemoryLaws.{named_at}
use Rattle.pos_edge.proofs.Events.{state_of-own, take_end, slice_get-push_other, slice_get-push_new, slice_get-end, sound_at, name_kept_any, live_name-there, there_is, file_none}
use Rattle.pos_edge.proofs.MemoryFrames.{SameFiles, still_frame, still_ids, still_untouched, noted_frame, noted_images, make_step}

pub counted_ge : (n : ℕ) → n < 2 ^ 64 → n ≤ counted n
counted_ge n h = omega arith

pub Rose-counted : (n : ℕ) → Rose n (counted n)
Rose-counted n = omega arith

-- a live FileId is not the next one
pub push_same : (but : ℕ → Type 0) (disk : DiskState) (h : OpenFile) → SameFiles but disk (given h disk)
push_same but disk h = λ f live k. slice_get-push_other disk.open_files h f (λ e. false≢true (sym (ap (λ n. live_of (slice_get disk.open_files n)) e ∙ ap live_of (slice_get-end disk.open_files)) ∙ live))

module _ (d : DiskState) (n : List ℕ) where
  pub create_kept : (r : Result FileId CreateFault) (new : DiskState) → IsSoundDisk d → CreateGives d n r new → ChangesOnly (Just n) Nothing (memory_view d) (memory_view new)
  create_kept (Ok file) new sound g = subst (λ (x : DiskState). ChangesOnly (Just n) Nothing (memory_view d) (memory_view x)) (sym g.3)
      (noted_frame (Just n) Nothing d (given (opened_file n 0 d.log) (noted n Making (passed d))) (record { name = n; act = Making }) refl (omega arith) (omega arith) sound refl (push_same Nothing d (opened_file n 0 d.log)))
  create_kept (Err Exists) new sound g = subst (λ (x : DiskState). ChangesOnly (Just n) Nothing (memory_view d) (memory_view x)) (sym g.2) (still_frame (Just n) Nothing d (passed d) refl (omega arith) (omega arith) (λ f l k. refl))
  create_kept (Err CreateFailed) new sound g = subst (λ (x : DiskState). ChangesOnly (Just n) Nothing (memory_view d) (memory_view x)) (sym g.1) (still_frame (Just n) Nothing d (failed d) refl (counted_ge d.faults sound.faults) (omega arith) (λ f l k. refl))
  create_kept (Err CreateMemory) new sound g = subst (λ (x : DiskState). ChangesOnly (Just n) Nothing (memory_view d) (memory_view x)) (sym g.2) (still_frame (Just n) Nothing d (passed d) refl (omega arith) (omega arith) (λ f l k. refl))

  pub create_reads : (r : Result FileId CreateFault) (new : DiskState) → CreateGives d n r new → (memory_view new).reads ≡ (memory_view d).reads
  create_reads (Ok file) new g = ap (λ (x : DiskState). x.reads) g.3
  create_reads (Err Exists) new g = ap (λ (x : DiskState). x.reads) g.2
  create_reads (Err CreateFailed) new g = ap (λ (x : DiskState). x.reads) g.1
  create_reads (Err CreateMemory) new g = ap (λ (x : DiskState). x.reads) g.2

  -- a name without contents has no image but "absent"
  absent_images : (i : Option (List ℕ)) → contents_of n d.log ≡ None → IsImage (state_of n d.log).file i → i ≡ None
  absent_images i none is = subst (λ f. IsImage f i) (file_none (state_of n d.log).file none) is

  create_made : IsSoundDisk d → contents_of n d.log ≡ None → IsCreated n (length d.open_files) (memory_view d) (memory_view (given (opened_file n 0 d.log) (noted n Making (passed d))))
  create_made sound none = record {
    was_absent = none;
    fresh = ap live_of (slice_get-end d.open_files);
    live = ap live_of (slice_get-push_new d.open_files h);
    size = ap size_in (slice_get-push_new d.open_files h);
    others = record {
      live = λ f k. ap live_of (slice_get-push_other d.open_files h f k);
      name = λ f k. ap (λ o. live_name log o) (slice_get-push_other d.open_files h f k)
          ∙ name_kept_any d.log (record { name = n; act = Making }) (slice_get d.open_files f) (λ g e. sound_at d f g sound e)
          (λ is. none-some _ (sym none ∙ (named_at d.log (slice_get d.open_files f) n is).1.1));
    };
    named = λ told. ap (λ o. live_name log o) (slice_get-push_new d.open_files h) ∙ live_name-there h log (there_is h log refl (ap (λ (s : NameState). s.removals) now) (ap (λ (s : NameState). holds 0 (option_map bytes_of s.file)) now));
    contents = λ told. ap (λ (s : NameState). option_map bytes_of s.file) now;
    images = λ t i from to is. elim (noted_images d (given h (noted n Making (passed d))) n Making refl t i from to is) [
      | inl before ↦ inl (absent_images i none before)
      | inr after ↦ make_step i after
    ];
  } where
    h : OpenFile
    h = opened_file n 0 d.log

    log : List Event
    log = d.log ++ record { name = n; act = Making } ∷ []

    now : state_of n (d.log ++ record { name = n; act = Making } ∷ []) ≡ acted Making (state_of n d.log)
    now = state_of-own n d.log Making

  pub create_ok : (r : Result FileId CreateFault) (new : DiskState) → IsSoundDisk d → CreateGives d n r new → IfOk r (λ file. IsCreated n file.0 (memory_view d) (memory_view new))
  create_ok (Ok file) new sound g = subst (λ (x : DiskState). IsCreated n file.0 (memory_view d) (memory_view x)) (sym g.3)
      (subst (λ k. IsCreated n k (memory_view d) (memory_view (given (opened_file n 0 d.log) (noted n Making (passed d))))) (sym g.2) (create_made sound g.1))
  create_ok (Err e) new sound g = tt

  pub create_exists : (r : Result FileId CreateFault) (new : DiskState) → CreateGives d n r new → IsErrOf r Exists → WasThere n (memory_view d) × IsUntouched (memory_view d) (memory_view new)
  create_exists (Ok file) new g is = absurd (true≢false (ap is_ok is))
  create_exists (Err Exists) new g is = (λ told. g.1, subst (λ (x : DiskState). IsUntouched (memory_view d) (memory_view x)) (sym g.2) (still_untouched d (passed d) refl refl refl (omega arith)))
  create_exists (Err CreateFailed) new g is = absurd (false≢true cc)
  create_exists (Err CreateMemory) new g is = absurd (false≢true cc)

  pub create_failed : (r : Result FileId CreateFault) (new : DiskState) → IsSoundDisk d → CreateGives d n r new → IsErrOf r CreateFailed → IsHalfCreated n (memory_view d) (memory_view new)
  create_failed (Ok file) new sound g is = absurd (true≢false (ap is_ok is))
  create_failed (Err Exists) new sound g is = absurd (false≢true cc)
  create_failed (Err CreateMemory) new sound g is = absurd (false≢true cc)
  create_failed (Err CreateFailed) new sound g is = subst (λ (x : DiskState). IsHalfCreated n (memory_view d) (memory_view x)) (sym g.1) (record {
    rose = Rose-counted d.faults;
    ids = still_ids Nothing d (failed d) refl (λ f k. refl);
    there = λ t. still_frame Nothing Nothing d (failed d) refl (counted_ge d.faults sound.faults) (omega arith) (λ f l k. refl);
    contents = λ none. inl none;
    images = λ none t i from to im. inl (absent_images i none (subst (λ l. IsImage (state_of n l).file i) (take_end d.log t from) im));
  })

  pub create_memory : (r : Result FileId CreateFault) (new : DiskState) → CreateGives d n r new → IsErrOf r CreateMemory → IsUntouched (memory_view d) (memory_view new)
  create_memory (Ok file) new g is = absurd (true≢false (ap is_ok is))
  create_memory (Err Exists) new g is = absurd (false≢true cc)
  create_memory (Err CreateFailed) new g is = absurd (false≢true cc)
  create_memory (Err CreateMemory) new g is = subst (λ (x : DiskState). IsUntouched (memory_view d) (memory_view x)) (sym g.2) (still_untouched d (passed d) refl refl refl (omega arith))

  pub create_quiet : (r : Result FileId CreateFault) (new : DiskState) → CreateGives d n r new → SameFaultsBut CreateFailed r (memory_view d) (memory_view new)
  create_quiet (Ok file) new g = ap (λ (x : DiskState). x.faults) g.3
  create_quiet (Err Exists) new g = λ k. ap (λ (x : DiskState). x.faults) g.2
  create_quiet (Err CreateFailed) new g = λ k. absurd (k refl)
  create_quiet (Err CreateMemory) new g = λ k. ap (λ (x : DiskState). x.faults) g.2

  pub open_kept : (r : Result FileId OpenFault) (new : DiskState) → IsSoundDisk d → OpenGives d n r new → ChangesOnly Nothing Nothing (memory_view d) (memory_view new)
  open_kept (Ok file) new sound g = let h = opened_file n (length g.2.0) d.log in
      subst (λ (x : DiskState). ChangesOnly Nothing Nothing (memory_view d) (memory_view x)) (sym g.2.2) (still_frame Nothing Nothing d (given h (passed d)) refl (omega arith) (omega arith) (push_same Nothing d h))
  open_kept (Err Absent) new sound g = subst (λ (x : DiskState). ChangesOnly Nothing Nothing (memory_view d) (memory_view x)) (sym g.2) (still_frame Nothing Nothing d (passed d) refl (omega arith) (omega arith) (λ f l k. refl))
  open_kept (Err OpenFailed) new sound g = subst (λ (x : DiskState). ChangesOnly Nothing Nothing (memory_view d) (memory_view x)) (sym g.1) (still_frame Nothing Nothing d (failed d) refl (counted_ge d.faults sound.faults) (omega arith) (λ f l k. refl))
  open_kept (Err OpenMemory) new sound g = subst (λ (x : DiskState). ChangesOnly Nothing Nothing (memory_view d) (memory_view x)) (sym g.2) (still_frame Nothing Nothing d (passed d) refl (omega arith) (omega arith) (λ f l k. refl))

  pub open_reads : (r : Result FileId OpenFault) (new : DiskState) → OpenGives d n r new → (memory_view new).reads ≡ (memory_view d).reads
  open_reads (Ok file) new g = ap (λ (x : DiskState). x.reads) g.2.2
  open_reads (Err Absent) new g = ap (λ (x : DiskState). x.reads) g.2
  open_reads (Err OpenFailed) new g = ap (λ (x : DiskState). x.reads) g.1
  open_reads (Err OpenMemory) new g = ap (λ (x : DiskState). x.reads) g.2

  open_opened : (bytes : List ℕ) → contents_of n d.log ≡ Some bytes → IsOpened n (length d.open_files) (memory_view d) (memory_view (given (opened_file n (length bytes) d.log) (passed d)))
  open_opened bytes is = record {
    fresh = ap live_of (slice_get-end d.open_files);
    live = ap live_of (slice_get-push_new d.open_files h);
    others = still_ids (Just (length d.open_files)) d (given h (passed d)) refl (λ f k. slice_get-push_other d.open_files h f k);
    named = λ told. ap (λ o. live_name d.log o) (slice_get-push_new d.open_files h) ∙ live_name-there h d.log (there_is h d.log refl refl (ap (holds (length bytes)) is ∙ le-leb (length bytes) (length bytes) (omega arith)));
    size = λ told. (bytes, is, ap size_in (slice_get-push_new d.open_files h));
  } where
    h : OpenFile
    h = opened_file n (length bytes) d.log

  pub open_ok : (r : Result FileId OpenFault) (new : DiskState) → OpenGives d n r new → IfOk r (λ file. IsOpened n file.0 (memory_view d) (memory_view new))
  open_ok (Ok file) new g = subst (λ (x : DiskState). IsOpened n file.0 (memory_view d) (memory_view x)) (sym g.2.2)
      (subst (λ k. IsOpened n k (memory_view d) (memory_view (given (opened_file n (length g.2.0) d.log) (passed d)))) (sym g.1) (open_opened g.2.0 g.2.1))
  open_ok (Err e) new g = tt

  pub open_absent : (r : Result FileId OpenFault) (new : DiskState) → OpenGives d n r new → IsErrOf r Absent → WasAbsent n (memory_view d) × IsUntouched (memory_view d) (memory_view new)
  open_absent (Ok file) new g is = absurd (true≢false (ap is_ok is))
  open_absent (Err Absent) new g is = (g.1, subst (λ (x : DiskState). IsUntouched (memory_view d) (memory_view x)) (sym g.2) (still_untouched d (passed d) refl refl refl (omega arith)))
  open_absent (Err OpenFailed) new g is = absurd (false≢true cc)
  open_absent (Err OpenMemory) new g is = absurd (false≢true cc)

  pub open_failed : (r : Result FileId OpenFault) (new : DiskState) → OpenGives d n r new → IsErrOf r OpenFailed → Rose (memory_view d).faults (memory_view new).faults × KeepsIds Nothing (memory_view d) (memory_view new)
  open_failed (Ok file) new g is = absurd (true≢false (ap is_ok is))
  open_failed (Err Absent) new g is = absurd (false≢true cc)
  open_failed (Err OpenFailed) new g is = subst (λ (x : DiskState). Rose (memory_view d).faults (memory_view x).faults × KeepsIds Nothing (memory_view d) (memory_view x)) (sym g.1) (Rose-counted d.faults, still_ids Nothing d (failed d) refl (λ f k. refl))
  open_failed (Err OpenMemory) new g is = absurd (false≢true cc)

  pub open_memory : (r : Result FileId OpenFault) (new : DiskState) → OpenGives d n r new → IsErrOf r OpenMemory → IsUntouched (memory_view d) (memory_view new)
  open_memory (Ok file) new g is = absurd (true≢false (ap is_ok is))
  open_memory (Err Absent) new g is = absurd (false≢true cc)
  open_memory (Err OpenFailed) new g is = absurd (false≢true cc)
  open_memory (Err OpenMemory) new g is = subst (λ (x : DiskState). IsUntouched (memory_view d) (memory_view x)) (sym g.2) (still_untouched d (passed d) refl refl refl (omega arith))

  pub open_quiet : (r : Result FileId OpenFault) (new : DiskState) → OpenGives d n r new → SameFaultsBut OpenFailed r (memory_view d) (memory_view new)
  open_quiet (Ok file) new g = ap (λ (x : DiskState). x.faults) g.2.2
  open_quiet (Err Absent) new g = λ k. ap (λ (x : DiskState). x.faults) g.2
  open_quiet (Err OpenFailed) new g = λ k. absurd (k refl)
  open_quiet (Err OpenMemory) new g = λ k. ap (λ (x : DiskState). x.faults) g.2
