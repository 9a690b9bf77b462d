-- Lists on pages: what each call makes of what a list stands for.
use Rattle.std.proofs.Common.{◌≡◌, ℕ, ◌+◌, ◌*◌, ◌/◌, ◌<◌, ◌≤◌, Bool, true, false, List, [], ◌∷◌, ◌++◌, length, take, Option, Some, None, refl, sym, ap, ◌∙◌, subst, inl, inr, arith, length-append, le_trans}
use Rattle.std.specs.Prelude.{IsSome, OnOk, Result, Ok, Err}
use Rattle.std.proofs.Math.Nat.{mul-le-mul_left, mul-le-mul_right}
use Rattle.std.proofs.lemmas.Bool.{cases_Bool, false≢true}
use Rattle.std.proofs.lemmas.Option.{none-some}
use Rattle.pos_bits.specs.Bits.{bits_of}
use Rattle.pos_edge.specs.View.{View, IsDisk}
use Rattle.pos_edge.specs.Frame.{ChangesOnly, KeepsIds, ReadsOnly, Nothing, Just, NameOf}
use Rattle.pos_edge.specs.Images.{written}
use Rattle.pos_edge.specs.Calls.{AreBytesAt, IsAsItWasOrGone, IsCreated, IsGone, IsThere, IsWritten}
use Rattle.pos_edge.specs.ScratchNames.{IsLeft, ScratchState, next_name, with_file, without_file, StandsOn}
use Rattle.pos_edge.specs.ScratchWork.{IsNameBetween, IsScratchWork, IsScratchDone}
use Rattle.pos_edge.proofs.ScratchWorkLemmas.{done_made, done_removed, work_made, work_refused, work_removed}
use Rattle.pos_runs.specs.Pages.{ListPages, ListStands, ListHolds, PageHolds, FileHolds, per_page, page_of}
use Rattle.pos_runs.specs.Lists.{IsListWrite, HasRoom, flushed, with_page}
use Rattle.pos_runs.proofs.PageLemmas.{page-empty, page-kept, page-pushed, page-read, pages-written, records_fit}

-- ---- what stays while other files change

-- a list stands as long as its file is live and there and no smaller
pub stands-kept : (w : ℕ) (s : ListPages) (a b : View) → b.is_live s.file ≡ true → IsThere s.file b → a.size_of s.file ≤ b.size_of s.file → ListStands w s a → ListStands w s b
stands-kept w s a b live there grows h = record {
  live = live;
  there = there;
  size = let size = h.size in omega arith;
  bytes = h.bytes;
  few = h.few;
  few_pages = h.few_pages;
  filling = h.filling;
  sealed = h.sealed;
}

-- and holds its records as long as its file has its name and its bytes
pub holds-kept : {R : Type 0} (read : List Bool → R) (w : ℕ) (s : ListPages) (xs : List R) (a b : View) → b.tells ≡ a.tells → b.name_of s.file ≡ a.name_of s.file
    → ((n : List ℕ) → NameOf s.file a n → b.contents n ≡ a.contents n) → ListHolds read w s xs a → ListHolds read w s xs b
holds-kept read w s xs a b tells name contents h = record {
  count = h.count;
  file = λ n bytes named is p few.
      let before : NameOf s.file a n = sym name ∙ named in
      h.file n bytes before (sym (contents n before) ∙ is) p few;
  memory = λ told. h.memory (sym tells ∙ told);
}

-- a list stands over reads of any file, and holds its records
pub read-stands : (w : ℕ) (s : ListPages) (a b : View) → ReadsOnly a b → ListStands w s a → ListStands w s b
read-stands w s a b only h =
    let same : b.size_of s.file ≡ a.size_of s.file = only.kept.size s.file h.live (λ x. absurd x) in
    stands-kept w s a b (only.ids.live s.file (λ x. absurd x) ∙ h.live)
    (λ tells. subst (λ (name : Option (List ℕ)). IsSome name) (sym (only.ids.name s.file (λ x. absurd x))) (h.there (sym only.kept.tells ∙ tells))) (omega arith) h

pub read-holds : {R : Type 0} (read : List Bool → R) (w : ℕ) (s : ListPages) (xs : List R) (a b : View) → ReadsOnly a b → ListHolds read w s xs a → ListHolds read w s xs b
read-holds read w s xs a b only holds =
    holds-kept read w s xs a b only.kept.tells (only.ids.name s.file (λ x. absurd x)) (λ n named. only.kept.contents n (λ x. absurd x)) holds

-- a list past any work that leaves its file alone
pub outside-name : (w : ℕ) (s : ListPages) (names : List ℕ → Type 0) (ids : ℕ → Type 0) (a b : View) → ChangesOnly names ids a b → (ids s.file → ⊥) → ((n : List ℕ) → NameOf s.file a n → names n → ⊥)
    → ListStands w s a → b.name_of s.file ≡ a.name_of s.file
outside-name w s names ids a b kept not_ids not_names h = kept.name s.file h.live not_ids not_names

pub outside-stands : (w : ℕ) (s : ListPages) (names : List ℕ → Type 0) (ids : ℕ → Type 0) (a b : View) → ChangesOnly names ids a b → (ids s.file → ⊥) → ((n : List ℕ) → NameOf s.file a n → names n → ⊥)
    → ListStands w s a → ListStands w s b
outside-stands w s names ids a b kept not_ids not_names h =
    let same : b.size_of s.file ≡ a.size_of s.file = kept.size s.file h.live not_ids in
    stands-kept w s a b (kept.live s.file h.live not_ids)
    (λ tells. subst (λ (name : Option (List ℕ)). IsSome name) (sym (outside-name w s names ids a b kept not_ids not_names h)) (h.there (sym kept.tells ∙ tells))) (omega arith) h

pub outside-holds : {R : Type 0} (read : List Bool → R) (w : ℕ) (s : ListPages) (xs : List R) (names : List ℕ → Type 0) (ids : ℕ → Type 0) (a b : View) → ChangesOnly names ids a b → (ids s.file → ⊥)
    → ((n : List ℕ) → NameOf s.file a n → names n → ⊥) → ListStands w s a → ListHolds read w s xs a → ListHolds read w s xs b
outside-holds read w s xs names ids a b kept not_ids not_names h holds =
    holds-kept read w s xs a b kept.tells (outside-name w s names ids a b kept not_ids not_names h) (λ n named. kept.contents n (not_names n named)) holds

-- ---- a page that was written

-- A file that had a name and so many bytes, with its contents: of a disk that tells.
named-there : (file size : ℕ) (n : List ℕ) (v : View) → IsDisk v → size ≤ v.size_of file → NameOf file v n → (bytes : List ℕ) × (v.contents n ≡ Some bytes) × (size ≤ length bytes)
named-there file size n v disk few named =
    let t = (disk.named file n named).there in
    (t.0, t.1, le_trans few t.2)

told : (n bytes : List ℕ) (v : View) → IsDisk v → v.contents n ≡ Some bytes → v.tells ≡ true
told n bytes v disk is = elim (cases_Bool v.tells) [
  | inl tells ↦ tells
  | inr silent ↦ absurd (none-some bytes (sym (disk.no_contents n silent) ∙ is))
]

pub file-flushed : {R : Type 0} (read : List Bool → R) (w : ℕ) (s : ListPages) (xs : List R) (a b : View) → IsDisk a → KeepsIds Nothing a b
    → 65536 * s.written ≤ a.size_of s.file → length s.bytes ≡ 65536 → s.page ≡ s.written
    → IsWritten s.file (65536 * s.written) s.bytes a b → ListHolds read w s xs a → FileHolds read w s.file (s.written + 1) xs b
file-flushed read w s xs a b disk ids size long page was_written h = λ n bytes named is p few.
    let before : NameOf s.file a n = sym (ids.name s.file (λ x. absurd x)) ∙ named in
    let t = named-there s.file (65536 * s.written) n a disk size before in
    let tells : a.tells ≡ true = told n t.0 a disk t.1 in
    let new : Some bytes ≡ Some (written (65536 * s.written) s.bytes t.0) = sym is ∙ was_written.contents n t.0 before t.1 in
    let same : written (65536 * s.written) s.bytes t.0 ≡ bytes = cc in
    let last : PageHolds read w s.written xs s.bytes = subst (λ p. PageHolds read w p xs s.bytes) page (h.memory tells) in
    subst (λ (bs : List ℕ). PageHolds read w p xs (page_of p bs)) same
    (pages-written read w s.written xs s.bytes t.0 long t.2 (h.file n t.0 before t.1) last p few)

-- ---- room for one more record

pub room-stands : (w : ℕ) (s t : ListPages) (a b : View) → ListStands w s a → s.is_sealed ≡ false → per_page w ≤ s.used → t ≡ flushed s → IsListWrite s t a b
    → IsWritten s.file (65536 * s.written) s.bytes a b → ListStands w t b
room-stands w s t a b h unsealed full is write was_written =
    let f = h.filling unsealed in
    let used : s.used ≡ per_page w = (let u = f.used in omega arith) in
    let grown = was_written.size in
    let long = h.bytes in
    let count = f.count in
    subst (λ x. ListStands w x b) (sym is) (record {
      live = write.frame.live;
      there = λ tells. subst (λ (name : Option (List ℕ)). IsSome name) (sym write.frame.name) (h.there (sym write.frame.frame.tells ∙ tells));
      size = omega arith;
      bytes = h.bytes;
      few = h.few;
      few_pages = omega arith;
      filling = λ _. record { page = refl; count = omega arith; used = omega arith };
      sealed = λ sealed. absurd (false≢true (sym unsealed ∙ sealed));
    })

pub room-room : (w : ℕ) (s t : ListPages) → 0 < per_page w → s.is_sealed ≡ false → t ≡ flushed s → HasRoom w s t
room-room w s t some unsealed is = subst (λ x. HasRoom w s x) (sym is) (record { count = refl; is_sealed = unsealed; used = some })

pub room-holds : {R : Type 0} (read : List Bool → R) (w : ℕ) (s t : ListPages) (a b : View) → IsDisk a → ListStands w s a → s.is_sealed ≡ false → t ≡ flushed s → IsListWrite s t a b
    → IsWritten s.file (65536 * s.written) s.bytes a b → (xs : List R) → ListHolds read w s xs a → ListHolds read w t xs b
room-holds {R} read w s t a b disk h unsealed is write was_written xs holds =
    let f = h.filling unsealed in
    let few : length xs ≤ per_page w * (s.written + 1) = (let c = f.count in let u = f.used in let n = holds.count in omega arith) in
    let P : ListPages → Type 0 = λ x. ListHolds {R = R} read w x xs b in
    subst P (sym is) (record {
      count = holds.count;
      file = file-flushed read w s xs a b disk write.ids h.size h.bytes f.page was_written holds;
      memory = λ tells. page-empty read w (s.written + 1) xs s.bytes few;
    })

-- ---- one more record

pub push-holds : {R : Type 0} (read : List Bool → R) (w : ℕ) (s : ListPages) (bytes : List ℕ) (item : R) (code : List Bool) (v : View) → ListStands w s v → s.is_sealed ≡ false
    → s.used < per_page w → take (s.used * w + w) (bits_of bytes) ≡ take (s.used * w) (bits_of s.bytes) ++ code → length code ≡ w → read code ≡ item
    → (xs : List R) → ListHolds read w s xs v → ListHolds read w (record s { count = s.count + 1; used = s.used + 1; bytes = bytes }) (xs ++ item ∷ []) v
push-holds read w s bytes item code v h unsealed room put long back xs holds =
    let f = h.filling unsealed in
    let count : length xs ≡ per_page w * s.page + s.used = (let c = f.count in let n = holds.count in let p : per_page w * s.page ≡ per_page w * s.written = ap (λ x. per_page w * x) f.page in omega arith) in
    record {
      count = let n = holds.count in omega (arith, length-append xs (item ∷ []));
      file = λ name b named is p few.
          let before : per_page w * p + per_page w ≤ length xs =
          (let more : per_page w * (p + 1) ≤ per_page w * s.written = mul-le-mul_left (per_page w) (let le : p + 1 ≤ s.written = omega arith in le) in
          let c = f.count in let n = holds.count in omega arith) in
          page-kept read w p xs item (page_of p b) before (holds.file name b named is p few);
      memory = λ tells. page-pushed read w s.page s.used xs item s.bytes bytes code put long back room h.bytes count (holds.memory tells);
    }

-- ---- sealed

-- no record is left in memory
pub seal-long_none : (w : ℕ) (s : ListPages) (v : View) → ListStands w s v → s.is_sealed ≡ false → s.used ≡ 0 → s.count * w / 8 ≤ v.size_of s.file
seal-long_none w s v h unsealed none =
    let f = h.filling unsealed in
    let count : s.count ≡ per_page w * s.written = (let c = f.count in omega arith) in
    let bits : s.count * w ≤ 524288 * s.written =
    rw count (let le : (per_page w * w) * s.written ≤ 524288 * s.written = mul-le-mul_right s.written (records_fit w) in omega arith) in
    let size = h.size in
    omega arith

pub seal-long : (w : ℕ) (s : ListPages) (count file : ℕ) (a b : View) → ListStands w s a → s.is_sealed ≡ false → count ≡ s.count → file ≡ s.file
    → IsWritten s.file (65536 * s.written) s.bytes a b → count * w / 8 ≤ b.size_of file
seal-long w s count file a b h unsealed same is_file was_written =
    let f = h.filling unsealed in
    let below : s.count ≤ per_page w * (s.written + 1) = (let c = f.count in let u = f.used in omega arith) in
    let bits : s.count * w ≤ 524288 * (s.written + 1) =
    le_trans (mul-le-mul_right w below) (let le : (per_page w * w) * (s.written + 1) ≤ 524288 * (s.written + 1) = mul-le-mul_right (s.written + 1) (records_fit w) in omega arith) in
    let grown = was_written.size in
    let long = h.bytes in
    rw (same, is_file) (omega arith)

pub seal-holds : {R : Type 0} (read : List Bool → R) (w : ℕ) (s : ListPages) (a b : View) → IsDisk a → ListStands w s a → s.is_sealed ≡ false → KeepsIds Nothing a b
    → IsWritten s.file (65536 * s.written) s.bytes a b → (xs : List R) → ListHolds read w s xs a → ListHolds read w (record (flushed s) { is_sealed = true }) xs b
seal-holds read w s a b disk h unsealed ids was_written xs holds =
    let f = h.filling unsealed in
    let few : length xs ≤ per_page w * (s.written + 1) = (let c = f.count in let u = f.used in let n = holds.count in omega arith) in
    record {
      count = holds.count;
      file = file-flushed read w s xs a b disk ids h.size h.bytes f.page was_written holds;
      memory = λ tells. page-empty read w (s.written + 1) xs s.bytes few;
    }

-- ---- a page that was read

pub ready-holds : {R : Type 0} (read : List Bool → R) (w page : ℕ) (s t : ListPages) (a b : View) → IsDisk a → ListStands w s a → page < s.written → t ≡ with_page s page t.bytes
    → length t.bytes ≡ 65536 → ReadsOnly a b → AreBytesAt s.file (65536 * page) t.bytes a → (xs : List R) → ListHolds read w s xs a → ListHolds read w t xs b
ready-holds {R} read w page s t a b disk h few is long only bytes xs holds =
    let there : a.tells ≡ true → PageHolds read w page xs t.bytes =
    (λ tells. from_file tells (h.there tells)) in
    let again : ListHolds read w s xs b =
    holds-kept read w s xs a b only.kept.tells (only.ids.name s.file (λ x. absurd x)) (λ n named. only.kept.contents n (λ x. absurd x)) holds in
    let P : ListPages → Type 0 = λ x. ListHolds {R = R} read w x xs b in
    subst P (sym is) (record {
      count = again.count;
      file = again.file;
      memory = λ tells. there (sym only.kept.tells ∙ tells);
    })
  where
    from_named : (n : List ℕ) → NameOf s.file a n → PageHolds read w page xs t.bytes
    from_named n named =
        let t' = named-there s.file (65536 * s.written) n a disk h.size named in
        let same : t.bytes ≡ page_of page t'.0 = page-read page t.bytes t'.0 long (bytes n t'.0 named t'.1) in
        subst (λ (bs : List ℕ). PageHolds read w page xs bs) (sym same) (holds.file n t'.0 named t'.1 page few)

    from_some : (name : Option (List ℕ)) → name ≡ a.name_of s.file → IsSome name → PageHolds read w page xs t.bytes
    from_some (Some n) is_name some = from_named n (sym is_name)
    from_some None is_name some = absurd (false≢true some)

    from_file : a.tells ≡ true → IsSome (a.name_of s.file) → PageHolds read w page xs t.bytes
    from_file tells some = from_some (a.name_of s.file) refl some

-- ---- a new list

pub new-stands : (w : ℕ) (scratch : ScratchState) (file number : ℕ) (bytes : List ℕ) (a b : View) → IsCreated (next_name scratch) file a b → length bytes ≡ 65536
    → ListStands w (record { file = file; number = number; count = 0; is_sealed = false; written = 0; page = 0; used = 0; bytes = bytes }) b
new-stands w scratch file number bytes a b new long = record {
  live = new.live;
  there = λ tells. subst (λ (name : Option (List ℕ)). IsSome name) (sym (new.named tells)) refl;
  size = omega arith;
  bytes = long;
  few = omega arith;
  few_pages = omega arith;
  filling = λ _. record { page = refl; count = omega arith; used = omega arith };
  sealed = λ _. omega arith;
}

-- ---- what a `Scratch` did for a list

pub new-refused : (s t : ScratchState) (a b : View) → t ≡ s → ChangesOnly (Just (next_name s)) Nothing a b → (StandsOn s a → StandsOn t b) → (IsSome (a.contents (next_name s)) → ChangesOnly Nothing Nothing a b)
    → IsScratchWork (IsNameBetween s.base s.made (t.made + 1)) Nothing s t a b
new-refused s t a b is kept stands untouched =
    subst (λ (x : ScratchState). IsScratchWork (IsNameBetween s.base s.made (x.made + 1)) Nothing s x a b) (sym is)
    (work_refused s a b kept (λ h. subst (λ (x : ScratchState). StandsOn x b) is (stands h)) untouched)

pub new-work : (s t : ScratchState) (file : ℕ) (a b : View) → t ≡ with_file s file → ChangesOnly (Just (next_name s)) Nothing a b → IsCreated (next_name s) file a b → (StandsOn s a → StandsOn t b)
    → IsScratchWork (IsNameBetween s.base s.made (t.made + 1)) Nothing s t a b
new-work s t file a b is kept new stands =
    subst (λ (x : ScratchState). IsScratchWork (IsNameBetween s.base s.made (x.made + 1)) Nothing s x a b) (sym is)
    (work_made s file a b kept new (λ h. subst (λ (x : ScratchState). StandsOn x b) is (stands h)))

pub new-done : (s t : ScratchState) (file : ℕ) (a b : View) → t ≡ with_file s file → s.made < 10000 → ChangesOnly (Just (next_name s)) Nothing a b → IsCreated (next_name s) file a b
    → IsScratchDone (IsNameBetween s.base s.made t.made) Nothing s t a b
new-done s t file a b is few kept new =
    subst (λ (x : ScratchState). IsScratchDone (IsNameBetween s.base s.made x.made) Nothing s x a b) (sym is) (done_made s file a b few kept new)

pub remove-work : (s t : ScratchState) (file own : ℕ) (a b : View) → file ≡ own → t ≡ without_file s file → IsDisk a → IsLeft s own → ChangesOnly (NameOf file a) (Just file) a b → (StandsOn s a → StandsOn t b)
    → IsScratchWork (NameOf own a) (Just own) s t a b
remove-work s t file own a b e is disk left kept stands =
    subst (λ (f : ℕ). IsScratchWork (NameOf f a) (Just f) s t a b) e
    (subst (λ (x : ScratchState). IsScratchWork (NameOf file a) (Just file) s x a b) (sym is)
    (work_removed s file a b disk (subst (IsLeft s) (sym e) left) kept (λ h. subst (λ (x : ScratchState). StandsOn x b) is (stands h))))

pub remove-done : {X E : Type 0} (r : Result X E) (s t : ScratchState) (file own : ℕ) (a b : View) → file ≡ own → t ≡ without_file s file → IsDisk b → ChangesOnly (NameOf file a) (Just file) a b
    → IsAsItWasOrGone file a b → OnOk r (IsGone file a b) → OnOk r (StandsOn s a → IsScratchDone (NameOf own a) (Just own) s t a b)
remove-done (Ok x) s t file own a b e is disk kept left gone = λ stands.
    subst (λ (f : ℕ). IsScratchDone (NameOf f a) (Just f) s t a b) e
    (subst (λ (x : ScratchState). IsScratchDone (NameOf file a) (Just file) s x a b) (sym is) (done_removed s file a b disk stands kept left gone))
remove-done (Err x) s t file own a b e is disk kept left gone = tt
