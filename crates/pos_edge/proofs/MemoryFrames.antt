-- What a call on a disk in memory keeps: without an event, and with one.
use Rattle.std.proofs.Common.{ℕ, ◌==◌, ◌&&◌, not, ◌+◌, ◌-◌, ◌≤◌, ◌<◌, ◌≡◌, ◌↔◌, ◌⊎◌, min, max, Bool, true, false, List, [], ◌∷◌, ◌++◌, length, take, drop, get_or, All, Option, Some, None, refl, sym, ap, ◌∙◌, subst, inl, inr, arith, length-append, length-drop}
use Rattle.std.specs.Prelude.{slice_get, option_map}
use Rattle.std.proofs.lemmas.Bool.{cases_Bool, cases_lt, true≢false, false≢true, cond-true, cond-false, not-true, and_parts}
use Rattle.std.proofs.lemmas.List.{length-take, get_or_append_left, get_or-append_right, get_or-take, get_or-drop, length_push, take-append-drop, ext_get_or, nil_from_length}
use Rattle.std.proofs.lemmas.List.Sums.{fold_push, fold-append}
use Rattle.std.proofs.lemmas.List.Elements.{All-push, All-take}
use Rattle.std.proofs.lemmas.Option.{same_Some}
use Rattle.pos_edge.specs.Frame.{ChangesOnly, KeepsIds, IsUntouched, Nothing, NameOf}
use Rattle.pos_edge.specs.Images.{written, IsOutsideRange, Torn, Tears, Stays, MayVanish, IsAbsentOrEmpty, ImagesBy}
use Rattle.pos_edge.specs.Log.{Act, Event, File, NameState, state_of, contents_of, bytes_of, written_all, with_write, as_synced, acted, is_clean, IsImage, MayLeave}
use Rattle.pos_edge.specs.MemoryDisks.{DiskState, memory_view, live_of, size_in, live_name, IsSoundDisk, image_after}
use Rattle.pos_edge.specs.MemoryLaws.{written-outside, length-written_all_ge, written_all-outside, image_now}
use Rattle.pos_edge.proofs.Events.{state_of-beside, state_of-own, take_before, take_end, take_moments, name_kept, sound_at}

path_iff : {X : Type 0} (P : X → Type 0) {a b : X} → a ≡ b → P a ↔ P b
path_iff P e = (λ x. subst P e x, λ x. subst P (sym e) x)

-- the FileIds that are live are as they were, but for some
abbrev pub SameFiles : (ℕ → Type 0) → DiskState → DiskState → Type 0
SameFiles ids old new = (f : ℕ) → live_of (slice_get old.open_files f) ≡ true → (ids f → ⊥) → slice_get new.open_files f ≡ slice_get old.open_files f

-- no event
pub still_frame : (names : List ℕ → Type 0) (ids : ℕ → Type 0) (old new : DiskState) → new.log ≡ old.log → old.faults ≤ new.faults → old.reads ≤ new.reads
    → SameFiles ids old new → ChangesOnly names ids (memory_view old) (memory_view new)
still_frame names ids old new same faults reads files = record {
  faults = faults;
  reads = reads;
  clock = subst (λ (l : List Event). length old.log ≤ length l) (sym same) (omega arith);
  tells = refl;
  tells_images = refl;
  live = λ f l k. ap live_of (files f l k) ∙ l;
  size = λ f l k. ap size_in (files f l k);
  name = λ f l k e. ap (λ o. live_name new.log o) (files f l k) ∙ ap (λ l. live_name l (slice_get old.open_files f)) same;
  contents = λ n k. ap (contents_of n) same;
  images = λ n t i k from to.
      let end : length new.log ≡ length old.log = ap length same in
      path_iff (λ l. IsImage (state_of n l).file i) (ap (take t) same ∙ (take_end old.log t from ∙ sym (take_end old.log (length old.log) (omega arith))));
  past = λ n t i h. path_iff (λ l. IsImage (state_of n l).file i) (ap (take t) same);
}

pub still_ids : (but : ℕ → Type 0) (old new : DiskState) → new.log ≡ old.log → ((f : ℕ) → (but f → ⊥) → slice_get new.open_files f ≡ slice_get old.open_files f) → KeepsIds but (memory_view old) (memory_view new)
still_ids but old new same files = record {
  live = λ f k. ap live_of (files f k);
  name = λ f k. ap (λ o. live_name new.log o) (files f k) ∙ ap (λ l. live_name l (slice_get old.open_files f)) same;
}

pub still_untouched : (old new : DiskState) → new.log ≡ old.log → new.open_files ≡ old.open_files → new.faults ≡ old.faults → old.reads ≤ new.reads → IsUntouched (memory_view old) (memory_view new)
still_untouched old new same files faults reads = record {
  kept = still_frame Nothing Nothing old new same (omega arith) reads (λ f l k. ap (λ xs. slice_get xs f) files);
  ids = still_ids Nothing old new same (λ f k. ap (λ xs. slice_get xs f) files);
  faults = faults;
}

-- one event, under a name that may change
pub noted_frame : (names : List ℕ → Type 0) (ids : ℕ → Type 0) (old new : DiskState) (e : Event) → new.log ≡ old.log ++ e ∷ [] → old.faults ≤ new.faults → old.reads ≤ new.reads
    → IsSoundDisk old → names e.name → SameFiles ids old new → ChangesOnly names ids (memory_view old) (memory_view new)
noted_frame names ids old new e more faults reads sound named files = record {
  faults = faults;
  reads = reads;
  clock = omega (arith, ap length more, length_push old.log e);
  tells = refl;
  tells_images = refl;
  live = λ f l k. ap live_of (files f l k) ∙ l;
  size = λ f l k. ap size_in (files f l k);
  name = λ f l k apart. ap (λ o. live_name new.log o) (files f l k) ∙ (ap (λ l. live_name l (slice_get old.open_files f)) more
      ∙ name_kept old.log e (slice_get old.open_files f) (λ h is. sound_at old f h sound is) l (λ is. apart e.name is named));
  contents = λ n k. ap (contents_of n) more ∙ ap (λ (s : NameState). option_map bytes_of s.file) (beside n k);
  images = λ n t i k from to.
      path_iff (λ (s : NameState). IsImage s.file i)
      (ap (λ l. state_of n (take t l)) more ∙ (at_moment n k t from (subst (λ (l : List Event). t ≤ length l) more to) ∙ ap (state_of n) (sym (take_end old.log (length old.log) (omega arith)))));
  past = λ n t i h. path_iff (λ l. IsImage (state_of n l).file i) (ap (take t) more ∙ take_before old.log e t h);
} where
  beside : (n : List ℕ) → (names n → ⊥) → state_of n (old.log ++ e ∷ []) ≡ state_of n old.log
  beside n k = state_of-beside n old.log e (λ same. k (subst names same named))

  at_moment : (n : List ℕ) → (names n → ⊥) → (t : ℕ) → length old.log ≤ t → t ≤ length (old.log ++ e ∷ []) → state_of n (take t (old.log ++ e ∷ [])) ≡ state_of n old.log
  at_moment n k t from to = elim (take_moments old.log e t from to) [
    | inl before ↦ ap (state_of n) before
    | inr after ↦ ap (state_of n) after ∙ beside n k
  ]

-- the images of a name at the moments of an event under it
pub noted_images : (old new : DiskState) (n : List ℕ) (a : Act) → new.log ≡ old.log ++ record { name = n; act = a } ∷ []
    → (t : ℕ) (i : Option (List ℕ)) → length old.log ≤ t → t ≤ length new.log → (memory_view new).image n t i
    → IsImage (state_of n old.log).file i ⊎ IsImage (acted a (state_of n old.log)).file i
noted_images old new n a more t i from to is =
    let e : Event = record { name = n; act = a } in
    let here = subst (λ l. IsImage (state_of n (take t l)).file i) more is in
    elim (take_moments old.log e t from (subst (λ (l : List Event). t ≤ length l) more to)) [
      | inl before ↦ inl (subst (λ l. IsImage (state_of n l).file i) before here)
      | inr after ↦ inr (subst (λ (s : NameState). IsImage s.file i) (state_of-own n old.log a) (subst (λ l. IsImage (state_of n l).file i) after here))
    ]

-- an image now, in the words of the view
pub image_at_clock : (disk : DiskState) (n : List ℕ) (i : Option (List ℕ)) → IsImage (state_of n disk.log).file i → (memory_view disk).image n (length disk.log) i
image_at_clock disk n i is = subst (λ l. IsImage (state_of n l).file i) (sym (take_end disk.log (length disk.log) (omega arith))) is

pub image_from_clock : (disk : DiskState) (n : List ℕ) (i : Option (List ℕ)) → (memory_view disk).image n (length disk.log) i → IsImage (state_of n disk.log).file i
image_from_clock disk n i is = subst (λ l. IsImage (state_of n l).file i) (take_end disk.log (length disk.log) (omega arith)) is

-- without an event, each image is one from before
pub still_images : (R : Option (List ℕ) → Option (List ℕ) → Type 0) (f : ℕ) (old new : DiskState) → new.log ≡ old.log
    → ((i : Option (List ℕ)) → R i i) → ImagesBy R f (memory_view old) (memory_view new)
still_images R f old new same keep = λ n named t i from to is.
    (i, subst (λ l. IsImage (state_of n l).file i) (ap (take t) same ∙ (take_end old.log t from ∙ sym (take_end old.log (length old.log) (omega arith)))) is, keep i)

-- with an event under the name of the FileId's file, each image comes from one before by R
pub noted_images_by : (R : Option (List ℕ) → Option (List ℕ) → Type 0) (f : ℕ) (old new : DiskState) (n : List ℕ) (a : Act) → new.log ≡ old.log ++ record { name = n; act = a } ∷ []
    → NameOf f (memory_view old) n → ((i : Option (List ℕ)) → R i i)
    → ((i : Option (List ℕ)) → IsImage (acted a (state_of n old.log)).file i → (j : Option (List ℕ)) × IsImage (state_of n old.log).file j × R j i)
    → ImagesBy R f (memory_view old) (memory_view new)
noted_images_by R f old new n a more named keep step = λ m is_m t i from to is.
    let same : m ≡ n = same_Some m n (sym is_m ∙ named) in
    elim (noted_images old new n a more t i from to (subst (λ x. (memory_view new).image x t i) same is)) [
      | inl before ↦ (i, image_at_clock old m i (subst (λ x. IsImage (state_of x old.log).file i) (sym same) before), keep i)
      | inr after ↦ let w = step i after in (w.0, image_at_clock old m w.0 (subst (λ x. IsImage (state_of x old.log).file w.0) (sym same) w.1), w.2)
    ]

pub Tears-same : (at n : ℕ) (i : Option (List ℕ)) → Tears at n i i
Tears-same at n None = refl
Tears-same at n (Some bytes) = record { no_shorter = omega arith; no_longer = omega arith; outside = λ k h o. refl }

pub Stays-same : (i : Option (List ℕ)) → Stays i i
Stays-same i = refl

pub MayVanish-same : (i : Option (List ℕ)) → MayVanish i i
MayVanish-same i = inl refl

-- the bytes that were written stand in their range
pub written-inside : (at : ℕ) (piece bytes : List ℕ) (k : ℕ) → at ≤ length bytes → at ≤ k → k < at + length piece → get_or (written at piece bytes) k 0 ≡ get_or piece (k - at) 0
written-inside at piece bytes k within from to =
    get_or_append_left (take at bytes ++ piece) (drop (at + length piece) bytes) 0 k (simp (length-append, length-take) (omega arith))
    ∙ get_or-append_right (take at bytes) piece at k 0 (simp length-take (omega arith)) from

pub length-written : (at : ℕ) (piece bytes : List ℕ) → at ≤ length bytes → length (written at piece bytes) ≡ max (length bytes) (at + length piece)
length-written at piece bytes within = simp (length-append, length-take, length-drop) (omega arith)

pub length-written_le : (at : ℕ) (piece bytes : List ℕ) → length (written at piece bytes) ≤ max (length bytes) (at + length piece)
length-written_le at piece bytes = simp (length-append, length-take, length-drop) (omega arith)

pub bytes_of-with_write : (at : ℕ) (piece : List ℕ) (file : File) → bytes_of (with_write at piece file) ≡ written at piece (bytes_of file)
bytes_of-with_write at piece file = fold_push (λ now write. written write.0 write.1 now) file.base file.writes (at, piece)

-- What a crash may leave after a write is torn from what it might have left before.
module _ (at : ℕ) (piece : List ℕ) (file : File) (image : List ℕ) (left : MayLeave (with_write at piece file) image) where
  -- the synced bytes of the range, which the crash might have left
  kept_part : List ℕ
  kept_part = take (length piece) (drop at file.base)

  length-kept_part : length kept_part ≡ min (length piece) (length file.base - at)
  unfolding kept_part
  length-kept_part = simp (length-take, length-drop)

  before_it : List ℕ
  before_it = take (length (bytes_of file)) (written at kept_part image)

  length-restored : length (written at kept_part image) ≡ length image
  length-restored = let e = length-kept_part in let s = left.no_shorter in simp (length-append, length-take, length-drop) (omega arith)

  length-before_it : length before_it ≡ min (length (bytes_of file)) (length image)
  unfolding before_it
  length-before_it = length-take (length (bytes_of file)) (written at kept_part image) ∙ ap (λ n. min (length (bytes_of file)) n) length-restored

  before_it-get : (k : ℕ) → k < length before_it → get_or before_it k 0 ≡ get_or (written at kept_part image) k 0
  unfolding before_it
  before_it-get k h = get_or-take (length (bytes_of file)) (written at kept_part image) k 0 (let e = length-before_it in omega arith)

  restored-outside : (k : ℕ) → k < length image → IsOutsideRange at (length piece) k → get_or (written at kept_part image) k 0 ≡ get_or image k 0
  restored-outside k h (inl under) = written-outside at kept_part image k h (inl under)
  restored-outside k h (inr behind) = written-outside at kept_part image k h (inr (let e = length-kept_part in omega arith))

  restored-inside : (k : ℕ) → k < length file.base → at ≤ k → k < at + length piece → get_or (written at kept_part image) k 0 ≡ get_or file.base k 0
  unfolding kept_part
  restored-inside k h from to =
      let e = length-kept_part in let s = left.no_shorter in
      written-inside at kept_part image k (omega arith) from (omega arith)
      ∙ (get_or-take (length piece) (drop at file.base) (k - at) 0 (omega arith) ∙ (get_or-drop at file.base (k - at) 0 ∙ ap (λ j. get_or file.base j 0) (omega arith)))

  before_it-left : MayLeave file before_it
  before_it-left = record {
    no_shorter = let e = length-before_it in let s = left.no_shorter in let g = length-written_all_ge file.writes file.base in omega arith;
    no_longer = let e = length-before_it in omega arith;
    others = λ k h out.
        let e = length-before_it in let s = left.no_shorter in let g = length-written_all_ge file.writes file.base in
        before_it-get k (omega arith) ∙ at_place k h out (cases_lt k at) (cases_lt k (at + length piece));
  } where
    outside_all : (k : ℕ) → k < length file.base → All (λ write. IsOutsideRange write.0 (length write.1) k) file.writes → IsOutsideRange at (length piece) k → get_or (written at kept_part image) k 0 ≡ get_or file.base k 0
    outside_all k h out o = restored-outside k (let s = left.no_shorter in omega arith) o ∙ left.others k h (All-push (λ write. IsOutsideRange write.0 (length write.1) k) file.writes (at, piece) out o)

    at_place : (k : ℕ) → k < length file.base → All (λ write. IsOutsideRange write.0 (length write.1) k) file.writes → (k < at) ⊎ (at ≤ k) → (k < at + length piece) ⊎ (at + length piece ≤ k) → get_or (written at kept_part image) k 0 ≡ get_or file.base k 0
    at_place k h out (inl under) c = outside_all k h out (inl under)
    at_place k h out (inr from) (inl to) = restored-inside k h from to
    at_place k h out (inr from) (inr behind) = outside_all k h out (inr behind)

  before_it-torn : Torn at (length piece) before_it image
  before_it-torn = record {
    no_shorter = let e = length-before_it in omega arith;
    no_longer = let e = length-before_it in let l = left.no_longer in let w = length-written_le at piece (bytes_of file) in let b = ap length (bytes_of-with_write at piece file) in omega arith;
    outside = λ k h o. let e = length-before_it in sym (before_it-get k h ∙ restored-outside k (omega arith) o);
  }

pub write_step : (at : ℕ) (piece : List ℕ) (file : File) (i : Option (List ℕ)) → IsImage (Some (with_write at piece file)) i
    → (j : Option (List ℕ)) × IsImage (Some file) j × Tears at (length piece) j i
write_step at piece file None is = (None, is, refl)
write_step at piece file (Some image) left = (Some (before_it at piece file image left), before_it-left at piece file image left, before_it-torn at piece file image left)

-- of a file that needs no sync a crash leaves what is there
pub clean_image : (file : File) → is_clean file ≡ true → (i : Option (List ℕ)) → IsImage (Some file) i → i ≡ Some (bytes_of file)
clean_image file clean i is = at_writes file.synced file.base file.writes clean i is where
  at_writes : (s : Bool) (b : List ℕ) (ws : List (ℕ × List ℕ)) → is_clean (record { synced = s; base = b; writes = ws }) ≡ true → (i : Option (List ℕ)) → IsImage (Some (record { synced = s; base = b; writes = ws })) i → i ≡ Some (written_all ws b)
  at_writes true b [] c None is = absurd (true≢false is)
  at_writes true b [] c (Some image) left = ap (λ x. Some x) (ext_get_or 0 image b (let s = left.no_shorter in let l = left.no_longer in omega arith)
      (λ k h. left.others k (let l = left.no_longer in omega arith) (λ j d o. absurd (omega arith))))
  at_writes true b (w ∷ ws) c i is = absurd (false≢true c)
  at_writes false b ws c i is = absurd (false≢true c)

pub sync_step : (file : File) (i : Option (List ℕ)) → IsImage (Some (as_synced file)) i → (j : Option (List ℕ)) × IsImage (Some file) j × Stays j i
sync_step file i is = (Some (bytes_of file), image_now (Some file), clean_image (as_synced file) refl i is)

pub remove_step : (file : File) (i : Option (List ℕ)) → IsImage None i → (j : Option (List ℕ)) × IsImage (Some file) j × MayVanish j i
remove_step file i is = (Some (bytes_of file), image_now (Some file), inr is)

pub make_step : (i : Option (List ℕ)) → IsImage (Some (record { synced = false; base = []; writes = [] })) i → IsAbsentOrEmpty i
make_step None is = inl refl
make_step (Some image) left = inr (ap (λ x. Some x) (nil_from_length image (let l = left.no_longer in omega arith)))

-- the synced bytes with some of the later writes are an image
written_all-part : (k : ℕ) (writes : List (ℕ × List ℕ)) (bytes : List ℕ) → written_all (drop k writes) (written_all (take k writes) bytes) ≡ written_all writes bytes
written_all-part k writes bytes = sym (fold-append (λ now write. written write.0 write.1 now) bytes (take k writes) (drop k writes)) ∙ ap (λ ws. written_all ws bytes) (take-append-drop k writes)

pub image_told : (writes : ℕ) (file : Option File) → IsImage file (image_after writes file)
image_told writes None = refl
image_told writes (Some file) = elim (cases_Bool ((writes == 0) && not file.synced)) [
  | inl t ↦ subst (IsImage (Some file)) (sym (cond-true ((writes == 0) && not file.synced) None (Some (written_all (take writes file.writes) file.base)) t)) (not-true file.synced (and_parts (writes == 0) (not file.synced) t).1)
  | inr f ↦ subst (IsImage (Some file)) (sym (cond-false ((writes == 0) && not file.synced) None (Some (written_all (take writes file.writes) file.base)) f)) (record {
    no_shorter = length-written_all_ge (take writes file.writes) file.base;
    no_longer = let l = length-written_all_ge (drop writes file.writes) (written_all (take writes file.writes) file.base) in omega (arith, l, ap length (written_all-part writes file.writes file.base));
    others = λ k h out. written_all-outside (take writes file.writes) file.base k h (All-take (λ write. IsOutsideRange write.0 (length write.1) k) writes file.writes out);
  })
]
