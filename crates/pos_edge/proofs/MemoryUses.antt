-- What the calls on a disk in memory give is what a disk promises: those on a FileId.
use Rattle.std.proofs.Common.{ℕ, ◌+◌, ◌≤◌, ◌≡◌, ◌==◌, max, Bool, true, false, cond, ◌&&◌, List, [], ◌∷◌, ◌++◌, length, set, Option, Some, None, Result, Ok, Err, refl, sym, ap, ◌∙◌, subst, inl, inr, arith, is_some}
use Rattle.std.specs.Prelude.{slice_get, slice_range, option_map, OnOk, OnErr, IsErrOf, IsSome, is_ok}
use Rattle.std.specs.Option.{option_map_or}
use Rattle.std.proofs.lemmas.Bool.{false≢true, true≢false, le-leb, cases_Bool, cases_eq, cond-true, cond-false, and_parts, eqb-true}
use Rattle.std.proofs.lemmas.Option.{same_Some}
use Rattle.pos_edge.specs.declared.disk.DiskFailed.{DiskFailed}
use Rattle.pos_edge.specs.declared.disk.WriteFault.{WriteFault}
use Rattle.pos_edge.specs.declared.disk.WriteFault.TheVariants.{Failed as WriteFailed, Memory as WriteMemory}
use Rattle.pos_edge.specs.Faults.{Rose, counted}
use Rattle.pos_edge.specs.Frame.{ChangesOnly, ChangesFile, KeepsIds, SameFaults, SameFaultsBut, IsUntouched, Nothing, Just, NameOf}
use Rattle.pos_edge.specs.Images.{written, Tears, Stays, MayVanish, ImagesBy}
use Rattle.pos_edge.specs.Calls.{IsThere, AreBytesAt, IsWritten, IsHalfWritten, SameContents, IsSynced, Ends, IsGone, IsAsItWasOrGone}
use Rattle.pos_edge.specs.Log.{Writing, Syncing, Removing, Event, File, NameState, state_of, contents_of, bytes_of, with_write, as_synced, acted, is_clean, IsImage}
use Rattle.pos_edge.specs.MemoryDisks.{DiskState, OpenFile, memory_view, live_of, size_in, live_name, holds, is_there, is_clean_name, IsSoundDisk, IsSoundHandle, ReadGives, WriteGives, SyncGives, RemoveGives, passed, failed, has_read, noted, replaced, ended, grown, CanUse, history_in}
use Rattle.pos_edge.specs.MemoryLaws.{holds_bytes, length-written_ge}
use Rattle.pos_edge.proofs.ScratchFiles.{cases_name}
use Rattle.pos_edge.proofs.Events.{state_of-own, state_of-beside, slice_get-set_same, slice_get-set_other, sound_at, name_kept_any, name_kept_act, name_kept_or_gone, live_name-there, there_is, file_some}
use Rattle.pos_edge.proofs.MemoryFrames.{SameFiles, still_frame, still_ids, still_untouched, still_images, noted_frame, noted_images_by, image_from_clock, Tears-same, Stays-same, MayVanish-same, write_step, sync_step, remove_step, clean_image, length-written, bytes_of-with_write}
use Rattle.pos_edge.proofs.MemoryCalls.{counted_ge, Rose-counted}

-- A FileId that a call may use: it is live, and its file is there.
pub record IsUsable (d : DiskState) (f : ℕ) (h : OpenFile) : Type 0 where
  pub at : slice_get d.open_files f ≡ Some h
  pub live : h.live ≡ true
  pub there : is_there h d.log ≡ true
  pub sound : IsSoundDisk d

some_at : (o : Option OpenFile) → live_of o ≡ true → (h : OpenFile) × (o ≡ Some h)
some_at None e = absurd (false≢true e)
some_at (Some h) e = (h, refl)

name_some : (log : List Event) (h : OpenFile) → IsSome (live_name log (Some h)) → is_there h log ≡ true
name_some log h named = elim (cases_Bool (is_there h log)) [
  | inl t ↦ t
  | inr f ↦ absurd (false≢true (sym (ap is_some (cond-false (is_there h log) (Some h.name) None f)) ∙ named))
]

-- from the conditions of the calls
pub can_use : (d : DiskState) (f : ℕ) → (memory_view d).is_live f ≡ true → IsThere f (memory_view d) → (h : OpenFile) × CanUse (history_in d) f h × ((memory_view d).size_of f ≡ h.size)
can_use d f live there =
    let s = some_at (slice_get d.open_files f) live in (
      s.0,
      record {
        at = s.1;
        live = sym (ap live_of s.1) ∙ live;
        there = name_some d.log s.0 (sym (ap (λ o. is_some (live_name d.log o)) s.1) ∙ there refl);
      },
      ap size_in s.1,
    )

pub usable : (d : DiskState) (f : ℕ) (h : OpenFile) → IsSoundDisk d → CanUse (history_in d) f h → IsUsable d f h
usable d f h sound can = record { at = can.at; live = can.live; there = can.there; sound = sound }

module _ (d : DiskState) (f : ℕ) (h : OpenFile) (use' : IsUsable d f h) where
  -- the name, the file and the bytes behind it
  pub named : NameOf f (memory_view d) h.name
  named = ap (λ o. live_name d.log o) use'.at ∙ live_name-there h d.log use'.there

  held : holds h.size (contents_of h.name d.log) ≡ true
  held = (and_parts (h.live && ((state_of h.name d.log).removals == h.removals)) (holds h.size (contents_of h.name d.log)) use'.there).1

  current : (state_of h.name d.log).removals ≡ h.removals
  current = eqb-true (state_of h.name d.log).removals h.removals (and_parts h.live ((state_of h.name d.log).removals == h.removals) (and_parts (h.live && ((state_of h.name d.log).removals == h.removals)) (holds h.size (contents_of h.name d.log)) use'.there).0).1

  pub bytes_there : (bytes : List ℕ) × (contents_of h.name d.log ≡ Some bytes) × (h.size ≤ length bytes)
  bytes_there = holds_bytes h.size (contents_of h.name d.log) held

  pub file_there : (file : File) × ((state_of h.name d.log).file ≡ Some file) × (bytes_of file ≡ bytes_there.0)
  file_there = file_some (state_of h.name d.log).file bytes_there.0 bytes_there.1

  only_name : (n : List ℕ) → NameOf f (memory_view d) n → h.name ≡ n
  only_name n is = same_Some h.name n (sym named ∙ is)

  sound_of : (g : ℕ) (k : OpenFile) → slice_get d.open_files g ≡ Some k → IsSoundHandle d.log k
  sound_of g k e = sound_at d g k use'.sound e

  set_same : (k : OpenFile) → slice_get (set d.open_files f k) f ≡ Some k
  set_same k = slice_get-set_same d.open_files f h k use'.at

  set_others : (k : OpenFile) (x : DiskState) → x.open_files ≡ set d.open_files f k → SameFiles (Just f) d x
  set_others k x e = λ g live other. ap (λ xs. slice_get xs g) e ∙ slice_get-set_other d.open_files f g k other

  passed_faults : (clean : Bool) → (cond clean (passed d) (noted h.name Syncing (passed d))).faults ≡ d.faults
  passed_faults true = refl
  passed_faults false = refl

  -- read_at
  pub read_kept : (at : ℕ) (got : List ℕ) (r : Result (Unit {0}) DiskFailed) (new : DiskState) → ReadGives d h at got r new → ChangesOnly Nothing Nothing (memory_view d) (memory_view new)
  read_kept at got (Ok t) new g = subst (λ (x : DiskState). ChangesOnly Nothing Nothing (memory_view d) (memory_view x)) (sym g.2) (still_frame Nothing Nothing d (has_read (passed d)) refl (omega arith) (counted_ge d.reads use'.sound.reads) (λ g l k. refl))
  read_kept at got (Err e) new g = subst (λ (x : DiskState). ChangesOnly Nothing Nothing (memory_view d) (memory_view x)) (sym g.1) (still_frame Nothing Nothing d (has_read (failed d)) refl (counted_ge d.faults use'.sound.faults) (counted_ge d.reads use'.sound.reads) (λ g l k. refl))

  pub read_reads : (at : ℕ) (got : List ℕ) (r : Result (Unit {0}) DiskFailed) (new : DiskState) → ReadGives d h at got r new → (memory_view new).reads ≡ counted (memory_view d).reads
  read_reads at got (Ok t) new g = ap (λ (x : DiskState). x.reads) g.2
  read_reads at got (Err e) new g = ap (λ (x : DiskState). x.reads) g.1

  pub read_ids : (at : ℕ) (got : List ℕ) (r : Result (Unit {0}) DiskFailed) (new : DiskState) → ReadGives d h at got r new → KeepsIds Nothing (memory_view d) (memory_view new)
  read_ids at got (Ok t) new g = subst (λ (x : DiskState). KeepsIds Nothing (memory_view d) (memory_view x)) (sym g.2) (still_ids Nothing d (has_read (passed d)) refl (λ g k. refl))
  read_ids at got (Err e) new g = subst (λ (x : DiskState). KeepsIds Nothing (memory_view d) (memory_view x)) (sym g.1) (still_ids Nothing d (has_read (failed d)) refl (λ g k. refl))

  pub read_ok : (at : ℕ) (got : List ℕ) (r : Result (Unit {0}) DiskFailed) (new : DiskState) → ReadGives d h at got r new → OnOk r (AreBytesAt f at got (memory_view d))
  read_ok at got (Ok t) new g = λ n bytes is there.
      let same : g.1.0 ≡ bytes = same_Some g.1.0 bytes (sym g.1.1 ∙ (ap (λ x. contents_of x d.log) (only_name n is) ∙ there)) in
      g.1.2 ∙ ap (λ b. slice_range b at (at + length got)) same
  read_ok at got (Err e) new g = tt

  pub read_failed : (at : ℕ) (got : List ℕ) (r : Result (Unit {0}) DiskFailed) (new : DiskState) → ReadGives d h at got r new → OnErr r (Rose (memory_view d).faults (memory_view new).faults)
  read_failed at got (Ok t) new g = tt
  read_failed at got (Err e) new g = subst (λ (x : DiskState). Rose d.faults x.faults) (sym g.1) (Rose-counted d.faults)

  pub read_quiet : (at : ℕ) (got : List ℕ) (r : Result (Unit {0}) DiskFailed) (new : DiskState) → ReadGives d h at got r new → OnOk r (SameFaults (memory_view d) (memory_view new))
  read_quiet at got (Ok t) new g = ap (λ (x : DiskState). x.faults) g.2
  read_quiet at got (Err e) new g = tt

  -- write_at: the file is as long as it has to be, and each FileId keeps its file
  writes_to : (at : ℕ) (piece : List ℕ) → contents_of h.name (d.log ++ record { name = h.name; act = Writing at piece } ∷ []) ≡ Some (written at piece bytes_there.0)
  writes_to at piece =
      ap (λ (s : NameState). option_map bytes_of s.file) (state_of-own h.name d.log (Writing at piece))
      ∙ (ap (λ o. option_map bytes_of (option_map (with_write at piece) o)) file_there.1
      ∙ ap (λ x. Some x) (bytes_of-with_write at piece file_there.0 ∙ ap (written at piece) file_there.2))

  longer : (at : ℕ) (piece : List ℕ) (size : ℕ) → holds size (contents_of h.name d.log) ≡ true → holds size (option_map bytes_of (acted (Writing at piece) (state_of h.name d.log)).file) ≡ true
  longer at piece size e =
      let b = holds_bytes size (contents_of h.name d.log) e in
      let same : b.0 ≡ bytes_there.0 = same_Some b.0 bytes_there.0 (sym b.1 ∙ bytes_there.1) in
      let l = length-written_ge at piece bytes_there.0 in
      let fits : size ≤ length (written at piece bytes_there.0) = omega (arith, ap length same, b.2, l) in
      ap (holds size) (ap (λ (s : NameState). option_map bytes_of s.file) (sym (state_of-own h.name d.log (Writing at piece))) ∙ writes_to at piece) ∙ le-leb size (length (written at piece bytes_there.0)) fits

  grown_name : (at : ℕ) (piece : List ℕ) → at ≤ h.size → live_name (d.log ++ record { name = h.name; act = Writing at piece } ∷ []) (Some (grown (at + length piece) h)) ≡ Some h.name
  grown_name at piece within =
      let b = bytes_there in
      let e = length-written at piece b.0 (omega (arith, b.2)) in
      live_name-there (grown (at + length piece) h) (d.log ++ record { name = h.name; act = Writing at piece } ∷ [])
      (there_is (grown (at + length piece) h) (d.log ++ record { name = h.name; act = Writing at piece } ∷ []) use'.live
      (ap (λ (s : NameState). s.removals) (state_of-own h.name d.log (Writing at piece)) ∙ current)
      (ap (holds (max h.size (at + length piece))) (writes_to at piece) ∙ le-leb (max h.size (at + length piece)) (length (written at piece b.0)) (omega (arith, e, b.2))))

  pub write_kept : (at : ℕ) (piece : List ℕ) (r : Result (Unit {0}) WriteFault) (new : DiskState) → at ≤ h.size → WriteGives d f h at piece r new → ChangesFile f (memory_view d) (memory_view new)
  write_kept at piece (Ok t) new within g = subst (λ (x : DiskState). ChangesFile f (memory_view d) (memory_view x)) (sym g.1) (record {
    frame = noted_frame (NameOf f (memory_view d)) (Just f) d (replaced f (grown (at + length piece) h) (noted h.name (Writing at piece) (passed d))) (record { name = h.name; act = Writing at piece }) refl (omega arith) (omega arith) use'.sound named (set_others (grown (at + length piece) h) (replaced f (grown (at + length piece) h) (noted h.name (Writing at piece) (passed d))) refl);
    live = ap live_of (set_same (grown (at + length piece) h)) ∙ use'.live;
    name = ap (λ o. live_name (d.log ++ record { name = h.name; act = Writing at piece } ∷ []) o) (set_same (grown (at + length piece) h)) ∙ (grown_name at piece within ∙ sym named);
    grows = let a = ap size_in (set_same (grown (at + length piece) h)) in let b = ap size_in use'.at in omega (arith, a, b);
  })
  write_kept at piece (Err WriteFailed) new within g = subst (λ (x : DiskState). ChangesFile f (memory_view d) (memory_view x)) (sym g.1) (record {
    frame = still_frame (NameOf f (memory_view d)) (Just f) d (failed d) refl (counted_ge d.faults use'.sound.faults) (omega arith) (λ g l k. refl);
    live = ap live_of use'.at ∙ use'.live;
    name = refl;
    grows = omega arith;
  })
  write_kept at piece (Err WriteMemory) new within g = subst (λ (x : DiskState). ChangesFile f (memory_view d) (memory_view x)) (sym g.1) (record {
    frame = still_frame (NameOf f (memory_view d)) (Just f) d (passed d) refl (omega arith) (omega arith) (λ g l k. refl);
    live = ap live_of use'.at ∙ use'.live;
    name = refl;
    grows = omega arith;
  })

  pub write_reads : (at : ℕ) (piece : List ℕ) (r : Result (Unit {0}) WriteFault) (new : DiskState) → WriteGives d f h at piece r new → (memory_view new).reads ≡ (memory_view d).reads
  write_reads at piece (Ok t) new g = ap (λ (x : DiskState). x.reads) g.1
  write_reads at piece (Err WriteFailed) new g = ap (λ (x : DiskState). x.reads) g.1
  write_reads at piece (Err WriteMemory) new g = ap (λ (x : DiskState). x.reads) g.1

  write_ids_made : (at : ℕ) (piece : List ℕ) → at ≤ h.size → KeepsIds Nothing (memory_view d) (memory_view (replaced f (grown (at + length piece) h) (noted h.name (Writing at piece) (passed d))))
  write_ids_made at piece within = record {
    live = λ g k. elim (cases_eq g f) [
      | inl same ↦ subst (λ x. live_of (slice_get (set d.open_files f (grown (at + length piece) h)) x) ≡ live_of (slice_get d.open_files x)) (sym same) (ap live_of (set_same (grown (at + length piece) h)) ∙ sym (ap live_of use'.at))
      | inr other ↦ ap live_of (slice_get-set_other d.open_files f g (grown (at + length piece) h) other)
    ];
    name = λ g k. elim (cases_eq g f) [
      | inl same ↦ subst (λ x. live_name log (slice_get (set d.open_files f (grown (at + length piece) h)) x) ≡ live_name d.log (slice_get d.open_files x)) (sym same)
          (ap (λ o. live_name log o) (set_same (grown (at + length piece) h)) ∙ (grown_name at piece within ∙ sym named))
      | inr other ↦ ap (λ o. live_name log o) (slice_get-set_other d.open_files f g (grown (at + length piece) h) other)
          ∙ name_kept_act h.name d.log (Writing at piece) (slice_get d.open_files g) (λ k e. sound_of g k e) refl (longer at piece)
    ];
  } where
    log : List Event
    log = d.log ++ record { name = h.name; act = Writing at piece } ∷ []

  pub write_ids : (at : ℕ) (piece : List ℕ) (r : Result (Unit {0}) WriteFault) (new : DiskState) → at ≤ h.size → WriteGives d f h at piece r new → KeepsIds Nothing (memory_view d) (memory_view new)
  write_ids at piece (Ok t) new within g = subst (λ (x : DiskState). KeepsIds Nothing (memory_view d) (memory_view x)) (sym g.1) (write_ids_made at piece within)
  write_ids at piece (Err WriteFailed) new within g = subst (λ (x : DiskState). KeepsIds Nothing (memory_view d) (memory_view x)) (sym g.1) (still_ids Nothing d (failed d) refl (λ g k. refl))
  write_ids at piece (Err WriteMemory) new within g = subst (λ (x : DiskState). KeepsIds Nothing (memory_view d) (memory_view x)) (sym g.1) (still_ids Nothing d (passed d) refl (λ g k. refl))

  pub write_images : (at : ℕ) (piece : List ℕ) (r : Result (Unit {0}) WriteFault) (new : DiskState) → WriteGives d f h at piece r new → ImagesBy (Tears at (length piece)) f (memory_view d) (memory_view new)
  write_images at piece (Ok t) new g = subst (λ (x : DiskState). ImagesBy (Tears at (length piece)) f (memory_view d) (memory_view x)) (sym g.1)
      (noted_images_by (Tears at (length piece)) f d (replaced f (grown (at + length piece) h) (noted h.name (Writing at piece) (passed d))) h.name (Writing at piece) refl named (Tears-same at (length piece))
      (λ i is. let w = write_step at piece file_there.0 i (subst (λ o. IsImage (option_map (with_write at piece) o) i) file_there.1 is) in
      (w.0, subst (λ o. IsImage o w.0) (sym file_there.1) w.1, w.2)))
  write_images at piece (Err WriteFailed) new g = subst (λ (x : DiskState). ImagesBy (Tears at (length piece)) f (memory_view d) (memory_view x)) (sym g.1) (still_images (Tears at (length piece)) f d (failed d) refl (Tears-same at (length piece)))
  write_images at piece (Err WriteMemory) new g = subst (λ (x : DiskState). ImagesBy (Tears at (length piece)) f (memory_view d) (memory_view x)) (sym g.1) (still_images (Tears at (length piece)) f d (passed d) refl (Tears-same at (length piece)))

  pub write_ok : (at : ℕ) (piece : List ℕ) (r : Result (Unit {0}) WriteFault) (new : DiskState) → WriteGives d f h at piece r new → OnOk r (IsWritten f at piece (memory_view d) (memory_view new))
  write_ok at piece (Ok t) new g = subst (λ (x : DiskState). IsWritten f at piece (memory_view d) (memory_view x)) (sym g.1) (record {
    size = ap size_in (set_same (grown (at + length piece) h)) ∙ ap (λ o. max (size_in o) (at + length piece)) (sym use'.at);
    contents = λ n bytes is there.
        let same : bytes_there.0 ≡ bytes = same_Some bytes_there.0 bytes (sym bytes_there.1 ∙ (ap (λ x. contents_of x d.log) (only_name n is) ∙ there)) in
        ap (λ x. contents_of x (d.log ++ record { name = h.name; act = Writing at piece } ∷ [])) (sym (only_name n is)) ∙ (writes_to at piece ∙ ap (λ b. Some (written at piece b)) same);
  })
  write_ok at piece (Err e) new g = tt

  pub write_failed : (at : ℕ) (piece : List ℕ) (r : Result (Unit {0}) WriteFault) (new : DiskState) → WriteGives d f h at piece r new → IsErrOf r WriteFailed → IsHalfWritten f at (length piece) (memory_view d) (memory_view new)
  write_failed at piece (Ok t) new g is = absurd (true≢false (ap is_ok is))
  write_failed at piece (Err WriteFailed) new g is = subst (λ (x : DiskState). IsHalfWritten f at (length piece) (memory_view d) (memory_view x)) (sym g.1) (record {
    rose = Rose-counted d.faults;
    size = omega arith;
    contents = λ n bytes is there. (bytes, there, Tears-same at (length piece) (Some bytes));
  })
  write_failed at piece (Err WriteMemory) new g is = absurd (false≢true cc)

  pub write_memory : (at : ℕ) (piece : List ℕ) (r : Result (Unit {0}) WriteFault) (new : DiskState) → WriteGives d f h at piece r new → IsErrOf r WriteMemory → IsUntouched (memory_view d) (memory_view new)
  write_memory at piece (Ok t) new g is = absurd (true≢false (ap is_ok is))
  write_memory at piece (Err WriteFailed) new g is = absurd (false≢true cc)
  write_memory at piece (Err WriteMemory) new g is = subst (λ (x : DiskState). IsUntouched (memory_view d) (memory_view x)) (sym g.1) (still_untouched d (passed d) refl refl refl (omega arith))

  -- sync: what is written there already needs no event
  sync_cases : (P : DiskState → Type 0) (new : DiskState) → new ≡ cond (is_clean_name h.name d.log) (passed d) (noted h.name Syncing (passed d))
      → (is_clean file_there.0 ≡ true → P (passed d)) → P (noted h.name Syncing (passed d)) → P new
  sync_cases P new e clean dirty = elim (cases_Bool (is_clean_name h.name d.log)) [
    | inl t ↦ subst P (sym (e ∙ cond-true (is_clean_name h.name d.log) (passed d) (noted h.name Syncing (passed d)) t))
        (clean (sym (ap (λ o. option_map_or is_clean o true) file_there.1) ∙ t))
    | inr n ↦ subst P (sym (e ∙ cond-false (is_clean_name h.name d.log) (passed d) (noted h.name Syncing (passed d)) n)) dirty
  ]

  synced_file : (state_of h.name (d.log ++ record { name = h.name; act = Syncing } ∷ [])).file ≡ Some (as_synced file_there.0)
  synced_file = ap (λ (s : NameState). s.file) (state_of-own h.name d.log Syncing) ∙ ap (option_map as_synced) file_there.1

  synced_contents : contents_of h.name (d.log ++ record { name = h.name; act = Syncing } ∷ []) ≡ contents_of h.name d.log
  synced_contents = ap (option_map bytes_of) synced_file ∙ sym (ap (option_map bytes_of) file_there.1)

  synced_name : (g : ℕ) → live_name (d.log ++ record { name = h.name; act = Syncing } ∷ []) (slice_get d.open_files g) ≡ live_name d.log (slice_get d.open_files g)
  synced_name g = name_kept_act h.name d.log Syncing (slice_get d.open_files g) (λ k e. sound_of g k e) refl
      (λ size e. ap (holds size) (ap (λ (s : NameState). option_map bytes_of s.file) (sym (state_of-own h.name d.log Syncing)) ∙ synced_contents) ∙ e)

  pub sync_kept : (r : Result (Unit {0}) DiskFailed) (new : DiskState) → SyncGives d h r new → ChangesOnly (NameOf f (memory_view d)) Nothing (memory_view d) (memory_view new)
  sync_kept (Ok t) new g = sync_cases (λ (x : DiskState). ChangesOnly (NameOf f (memory_view d)) Nothing (memory_view d) (memory_view x)) new g.1
      (λ c. still_frame (NameOf f (memory_view d)) Nothing d (passed d) refl (omega arith) (omega arith) (λ g l k. refl))
      (noted_frame (NameOf f (memory_view d)) Nothing d (noted h.name Syncing (passed d)) (record { name = h.name; act = Syncing }) refl (omega arith) (omega arith) use'.sound named (λ g l k. refl))
  sync_kept (Err e) new g = subst (λ (x : DiskState). ChangesOnly (NameOf f (memory_view d)) Nothing (memory_view d) (memory_view x)) (sym g.1) (still_frame (NameOf f (memory_view d)) Nothing d (failed d) refl (counted_ge d.faults use'.sound.faults) (omega arith) (λ g l k. refl))

  pub sync_reads : (r : Result (Unit {0}) DiskFailed) (new : DiskState) → SyncGives d h r new → (memory_view new).reads ≡ (memory_view d).reads
  sync_reads (Ok t) new g = sync_cases (λ (x : DiskState). x.reads ≡ d.reads) new g.1 (λ c. refl) refl
  sync_reads (Err e) new g = ap (λ (x : DiskState). x.reads) g.1

  pub sync_ids : (r : Result (Unit {0}) DiskFailed) (new : DiskState) → SyncGives d h r new → KeepsIds Nothing (memory_view d) (memory_view new)
  sync_ids (Ok t) new g = sync_cases (λ (x : DiskState). KeepsIds Nothing (memory_view d) (memory_view x)) new g.1
      (λ c. still_ids Nothing d (passed d) refl (λ g k. refl))
      (record { live = λ g k. refl; name = λ g k. synced_name g })
  sync_ids (Err e) new g = subst (λ (x : DiskState). KeepsIds Nothing (memory_view d) (memory_view x)) (sym g.1) (still_ids Nothing d (failed d) refl (λ g k. refl))

  pub sync_contents : (r : Result (Unit {0}) DiskFailed) (new : DiskState) → SyncGives d h r new → SameContents (memory_view d) (memory_view new)
  sync_contents (Ok t) new g = sync_cases (λ (x : DiskState). SameContents (memory_view d) (memory_view x)) new g.1 (λ c n. refl)
      (λ n. elim (cases_name h.name n) [
        | inl own ↦ subst (λ x. contents_of x (d.log ++ record { name = h.name; act = Syncing } ∷ []) ≡ contents_of x d.log) own synced_contents
        | inr other ↦ ap (λ (s : NameState). option_map bytes_of s.file) (state_of-beside n d.log (record { name = h.name; act = Syncing }) other)
      ])
  sync_contents (Err e) new g = λ n. ap (λ (x : DiskState). contents_of n x.log) g.1

  pub sync_images : (r : Result (Unit {0}) DiskFailed) (new : DiskState) → SyncGives d h r new → ImagesBy Stays f (memory_view d) (memory_view new)
  sync_images (Ok t) new g = sync_cases (λ (x : DiskState). ImagesBy Stays f (memory_view d) (memory_view x)) new g.1
      (λ c. still_images Stays f d (passed d) refl Stays-same)
      (noted_images_by Stays f d (noted h.name Syncing (passed d)) h.name Syncing refl named Stays-same
      (λ i is. let w = sync_step file_there.0 i (subst (λ o. IsImage (option_map as_synced o) i) file_there.1 is) in
      (w.0, subst (λ o. IsImage o w.0) (sym file_there.1) w.1, w.2)))
  sync_images (Err e) new g = subst (λ (x : DiskState). ImagesBy Stays f (memory_view d) (memory_view x)) (sym g.1) (still_images Stays f d (failed d) refl Stays-same)

  pub sync_ok : (r : Result (Unit {0}) DiskFailed) (new : DiskState) → SyncGives d h r new → OnOk r (IsSynced f (memory_view new))
  sync_ok (Ok t) new g = sync_cases (λ (x : DiskState). IsSynced f (memory_view x)) new g.1
      (λ c n is i im.
      let own : h.name ≡ n = only_name n is in
      let here = subst (λ x. IsImage (state_of x d.log).file i) (sym own) (image_from_clock (passed d) n i im) in
      clean_image file_there.0 c i (subst (λ o. IsImage o i) file_there.1 here) ∙ (sym (ap (option_map bytes_of) file_there.1) ∙ ap (λ x. contents_of x d.log) own))
      (λ n is i im.
      let own : h.name ≡ n = only_name n (sym (synced_name f) ∙ is) in
      let here = subst (λ x. IsImage (state_of x (d.log ++ record { name = h.name; act = Syncing } ∷ [])).file i) (sym own) (image_from_clock (noted h.name Syncing (passed d)) n i im) in
      clean_image (as_synced file_there.0) refl i (subst (λ o. IsImage o i) synced_file here)
      ∙ (sym (ap (option_map bytes_of) synced_file) ∙ ap (λ x. contents_of x (d.log ++ record { name = h.name; act = Syncing } ∷ [])) own))
  sync_ok (Err e) new g = tt

  pub sync_failed : (r : Result (Unit {0}) DiskFailed) (new : DiskState) → SyncGives d h r new → OnErr r (Rose (memory_view d).faults (memory_view new).faults)
  sync_failed (Ok t) new g = tt
  sync_failed (Err e) new g = subst (λ (x : DiskState). Rose d.faults x.faults) (sym g.1) (Rose-counted d.faults)

  -- remove
  removed_file : (state_of h.name (d.log ++ record { name = h.name; act = Removing } ∷ [])).file ≡ None
  removed_file = ap (λ (s : NameState). s.file) (state_of-own h.name d.log Removing)

  pub remove_kept : (r : Result (Unit {0}) DiskFailed) (new : DiskState) → RemoveGives d f h r new → ChangesOnly (NameOf f (memory_view d)) (Just f) (memory_view d) (memory_view new)
  remove_kept (Ok t) new g = subst (λ (x : DiskState). ChangesOnly (NameOf f (memory_view d)) (Just f) (memory_view d) (memory_view x)) (sym g.1)
      (noted_frame (NameOf f (memory_view d)) (Just f) d (replaced f (ended h) (noted h.name Removing (passed d))) (record { name = h.name; act = Removing }) refl (omega arith) (omega arith) use'.sound named
      (set_others (ended h) (replaced f (ended h) (noted h.name Removing (passed d))) refl))
  remove_kept (Err e) new g = subst (λ (x : DiskState). ChangesOnly (NameOf f (memory_view d)) (Just f) (memory_view d) (memory_view x)) (sym g.1)
      (still_frame (NameOf f (memory_view d)) (Just f) d (replaced f (ended h) (failed d)) refl (counted_ge d.faults use'.sound.faults) (omega arith) (set_others (ended h) (replaced f (ended h) (failed d)) refl))

  pub remove_reads : (r : Result (Unit {0}) DiskFailed) (new : DiskState) → RemoveGives d f h r new → (memory_view new).reads ≡ (memory_view d).reads
  remove_reads (Ok t) new g = ap (λ (x : DiskState). x.reads) g.1
  remove_reads (Err e) new g = ap (λ (x : DiskState). x.reads) g.1

  pub remove_ends : (r : Result (Unit {0}) DiskFailed) (new : DiskState) → RemoveGives d f h r new → Ends f (memory_view d) (memory_view new)
  remove_ends (Ok t) new g = subst (λ (x : DiskState). Ends f (memory_view d) (memory_view x)) (sym g.1) (record {
    ended = ap live_of (set_same (ended h));
    others = λ o other. ap live_of (slice_get-set_other d.open_files f o (ended h) other);
    names = λ o other apart. ap (λ x. live_name (d.log ++ record { name = h.name; act = Removing } ∷ []) x) (slice_get-set_other d.open_files f o (ended h) other)
        ∙ name_kept_any d.log (record { name = h.name; act = Removing }) (slice_get d.open_files o) (λ k e. sound_of o k e) (λ is. apart h.name is named);
    kept_or_none = λ o other. elim (name_kept_or_gone h.name d.log (slice_get d.open_files o) (λ k e. sound_of o k e)) [
      | inl same ↦ inl (ap (λ x. live_name (d.log ++ record { name = h.name; act = Removing } ∷ []) x) (slice_get-set_other d.open_files f o (ended h) other) ∙ same)
      | inr none ↦ inr (ap (λ x. live_name (d.log ++ record { name = h.name; act = Removing } ∷ []) x) (slice_get-set_other d.open_files f o (ended h) other) ∙ none)
    ];
  })
  remove_ends (Err e) new g = subst (λ (x : DiskState). Ends f (memory_view d) (memory_view x)) (sym g.1) (record {
    ended = ap live_of (set_same (ended h));
    others = λ o other. ap live_of (slice_get-set_other d.open_files f o (ended h) other);
    names = λ o other apart. ap (λ x. live_name d.log x) (slice_get-set_other d.open_files f o (ended h) other);
    kept_or_none = λ o other. inl (ap (λ x. live_name d.log x) (slice_get-set_other d.open_files f o (ended h) other));
  })

  pub remove_images : (r : Result (Unit {0}) DiskFailed) (new : DiskState) → RemoveGives d f h r new → ImagesBy MayVanish f (memory_view d) (memory_view new)
  remove_images (Ok t) new g = subst (λ (x : DiskState). ImagesBy MayVanish f (memory_view d) (memory_view x)) (sym g.1)
      (noted_images_by MayVanish f d (replaced f (ended h) (noted h.name Removing (passed d))) h.name Removing refl named MayVanish-same
      (λ i is. let w = remove_step file_there.0 i is in (w.0, subst (λ o. IsImage o w.0) (sym file_there.1) w.1, w.2)))
  remove_images (Err e) new g = subst (λ (x : DiskState). ImagesBy MayVanish f (memory_view d) (memory_view x)) (sym g.1) (still_images MayVanish f d (replaced f (ended h) (failed d)) refl MayVanish-same)

  gone_made : IsGone f (memory_view d) (memory_view (replaced f (ended h) (noted h.name Removing (passed d))))
  gone_made = λ n is.
      let own = only_name n is in (
        ap (λ x. contents_of x (d.log ++ record { name = h.name; act = Removing } ∷ [])) (sym own) ∙ ap (option_map bytes_of) removed_file,
        λ i im. subst (λ o. IsImage o i) removed_file
            (subst (λ x. IsImage (state_of x (d.log ++ record { name = h.name; act = Removing } ∷ [])).file i) (sym own) (image_from_clock (replaced f (ended h) (noted h.name Removing (passed d))) n i im)),
      )

  pub remove_ok : (r : Result (Unit {0}) DiskFailed) (new : DiskState) → RemoveGives d f h r new → OnOk r (IsGone f (memory_view d) (memory_view new))
  remove_ok (Ok t) new g = subst (λ (x : DiskState). IsGone f (memory_view d) (memory_view x)) (sym g.1) gone_made
  remove_ok (Err e) new g = tt

  pub remove_failed : (r : Result (Unit {0}) DiskFailed) (new : DiskState) → RemoveGives d f h r new → OnErr r (Rose (memory_view d).faults (memory_view new).faults)
  remove_failed (Ok t) new g = tt
  remove_failed (Err e) new g = subst (λ (x : DiskState). Rose d.faults x.faults) (sym g.1) (Rose-counted d.faults)

  pub remove_left : (r : Result (Unit {0}) DiskFailed) (new : DiskState) → RemoveGives d f h r new → IsAsItWasOrGone f (memory_view d) (memory_view new)
  remove_left (Ok t) new g = subst (λ (x : DiskState). IsAsItWasOrGone f (memory_view d) (memory_view x)) (sym g.1) (λ n is. inr (gone_made n is))
  remove_left (Err e) new g = subst (λ (x : DiskState). IsAsItWasOrGone f (memory_view d) (memory_view x)) (sym g.1)
      (λ n is. inl (refl, λ o other. ap (λ x. live_name d.log x) (slice_get-set_other d.open_files f o (ended h) other)))

  pub write_quiet : (at : ℕ) (piece : List ℕ) (r : Result (Unit {0}) WriteFault) (new : DiskState) → WriteGives d f h at piece r new → SameFaultsBut WriteFailed r (memory_view d) (memory_view new)
  write_quiet at piece (Ok t) new g = ap (λ (x : DiskState). x.faults) g.1
  write_quiet at piece (Err WriteFailed) new g = λ k. absurd (k refl)
  write_quiet at piece (Err WriteMemory) new g = λ k. ap (λ (x : DiskState). x.faults) g.1

  pub sync_quiet : (r : Result (Unit {0}) DiskFailed) (new : DiskState) → SyncGives d h r new → OnOk r (SameFaults (memory_view d) (memory_view new))
  sync_quiet (Ok t) new g = ap (λ (x : DiskState). x.faults) g.1 ∙ passed_faults (is_clean_name h.name d.log)
  sync_quiet (Err e) new g = tt

  pub remove_quiet : (r : Result (Unit {0}) DiskFailed) (new : DiskState) → RemoveGives d f h r new → OnOk r (SameFaults (memory_view d) (memory_view new))
  remove_quiet (Ok t) new g = ap (λ (x : DiskState). x.faults) g.1
  remove_quiet (Err e) new g = tt
