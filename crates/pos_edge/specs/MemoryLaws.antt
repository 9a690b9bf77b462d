-- A disk in memory is a disk: what its history says of a name is one of the images. Proofs alone.
use Rattle.std.specs.Prelude.{ℕ, ◌+◌, ◌-◌, ◌≤◌, ◌<◌, ◌≡◌, ◌==◌, true, ◌&&◌, List, [], ◌∷◌, ◌++◌, length, take, drop, slice_index, slice_get, get_or, All, Option, Some, None, option_map}
use Rattle.std.proofs.Common.{refl, sym, ap, ◌∙◌, subst, inl, inr, arith, length-append, length-drop}
use Rattle.std.proofs.lemmas.Bool.{and_parts, leb-true, true≢false, false≢true}
use Rattle.std.proofs.lemmas.List.{length-take, get_or_append_left, get_or-append_right, get_or-take, get_or-drop, take_all}
use Rattle.std.proofs.lemmas.List.Elements.{All-head, All-tail}
use Rattle.std.proofs.lemmas.Option.{none-some, cond_some}
use Rattle.pos_edge.specs.View.{IsDisk}
use Rattle.pos_edge.specs.Images.{written, IsOutsideRange}
use Rattle.pos_edge.specs.Log.{Event, File, state_of, contents_of, bytes_of, written_all, IsImage}
use Rattle.pos_edge.specs.MemoryDisks.{DiskState, OpenFile, memory_view, live_of, size_in, holds, is_there, live_name}

-- a write makes nothing shorter, and leaves what is outside of it
pub length-written_ge : (at : ℕ) (piece bytes : List ℕ) → length bytes ≤ length (written at piece bytes)
length-written_ge at piece bytes = simp (length-append, length-take, length-drop) (omega arith)

pub written-outside : (at : ℕ) (piece bytes : List ℕ) (k : ℕ) → k < length bytes → IsOutsideRange at (length piece) k → slice_index (written at piece bytes) k ≡ slice_index bytes k
written-outside at piece bytes k within (inl before) =
    get_or_append_left (take at bytes ++ piece) (drop (at + length piece) bytes) 0 k (simp (length-append, length-take) (omega arith))
    ∙ (get_or_append_left (take at bytes) piece 0 k (simp length-take (omega arith)) ∙ get_or-take at bytes k 0 before)
written-outside at piece bytes k within (inr behind) =
    get_or-append_right (take at bytes ++ piece) (drop (at + length piece) bytes) (at + length piece) k 0 (simp (length-append, length-take) (omega arith)) behind
    ∙ (get_or-drop (at + length piece) bytes (k - (at + length piece)) 0 ∙ ap (λ i. get_or bytes i 0) (omega arith))

pub length-written_all_ge : (writes : List (ℕ × List ℕ)) (bytes : List ℕ) → length bytes ≤ length (written_all writes bytes)
length-written_all_ge [] bytes = omega arith
length-written_all_ge (w ∷ ws) bytes =
    let first = length-written_ge w.0 w.1 bytes in
    let others = length-written_all_ge ws (written w.0 w.1 bytes) in
    omega arith

pub written_all-outside : (writes : List (ℕ × List ℕ)) (bytes : List ℕ) (k : ℕ) → k < length bytes → All (λ write. IsOutsideRange write.0 (length write.1) k) writes → slice_index (written_all writes bytes) k ≡ slice_index bytes k
written_all-outside [] bytes k within out = refl
written_all-outside (w ∷ ws) bytes k within out =
    let longer = length-written_ge w.0 w.1 bytes in
    written_all-outside ws (written w.0 w.1 bytes) k (omega arith) (All-tail (λ write. IsOutsideRange write.0 (length write.1) k) w ws out)
    ∙ written-outside w.0 w.1 bytes k within (All-head (λ write. IsOutsideRange write.0 (length write.1) k) w ws out)

-- what is there may be left
pub image_now : (file : Option File) → IsImage file (option_map bytes_of file)
image_now None = refl
image_now (Some file) = record {
  no_shorter = length-written_all_ge file.writes file.base;
  no_longer = omega arith;
  others = written_all-outside file.writes file.base;
}

pub holds_bytes : (size : ℕ) (contents : Option (List ℕ)) → holds size contents ≡ true → (bytes : List ℕ) × (contents ≡ Some bytes) × (size ≤ length bytes)
holds_bytes size None e = absurd (false≢true e)
holds_bytes size (Some bytes) e = (bytes, refl, leb-true size (length bytes) e)

pub named_at : (log : List Event) (file : Option OpenFile) (name : List ℕ) → live_name log file ≡ Some name
    → (live_of file ≡ true) × ((bytes : List ℕ) × (contents_of name log ≡ Some bytes) × (size_in file ≤ length bytes))
named_at log None name is = absurd (none-some name is)
named_at log (Some file) name is =
    let c = cond_some (is_there file log) file.name name is in
    let p = and_parts (file.live && ((state_of file.name log).removals == file.removals)) (holds file.size (contents_of file.name log)) c.0 in
    let q = and_parts file.live ((state_of file.name log).removals == file.removals) p.0 in
    let h = holds_bytes file.size (contents_of file.name log) p.1 in
    (q.0, (h.0, ap (λ n. contents_of n log) (sym c.1) ∙ h.1, h.2))

absent_at : (file : Option File) (image : Option (List ℕ)) → option_map bytes_of file ≡ None → IsImage file image → image ≡ None
absent_at None image none is = is
absent_at (Some file) image none is = absurd (none-some (bytes_of file) (sym none))

take_log : (log : List Event) → take (length log) log ≡ log
take_log log = take_all (length log) log (omega arith)

pub memory_is_disk : (disk : DiskState) → IsDisk (memory_view disk)
memory_is_disk disk = record {
  images_told = λ told. refl;
  named = λ file name is. let n = named_at disk.log (slice_get disk.open_files file) name is in record { live = n.0; there = n.1 };
  contents_image = λ name told. subst (λ log. IsImage (state_of name log).file (contents_of name disk.log)) (sym (take_log disk.log)) (image_now (state_of name disk.log).file);
  absent_image = λ name image none is. absent_at (state_of name disk.log).file image none (subst (λ log. IsImage (state_of name log).file image) (take_log disk.log) is);
  no_contents = λ name silent. absurd (true≢false silent);
  no_images = λ name t image silent is. true≢false silent;
}
