-- A file with a closed gate, through writes and syncs.
use Rattle.std.proofs.Common.{◌≡◌, ℕ, zero, suc, ◌+◌, ◌≤◌, max, List, [], ◌∷◌, ◌++◌, length, take, drop, get_or, Option, Some, None, is_some, true, refl, sym, ap, ◌∙◌, subst, inl, inr, arith, length-append, append_assoc, append-nil}
use Rattle.std.proofs.lemmas.List.{length-take-le, length-drop, get_or_append_left, take_all, drop_all, get_or-take, get_or_past}
use Rattle.std.proofs.lemmas.Bool.{cases_Bool, cases_lt}
use Rattle.std.proofs.lemmas.Option.{none-some, same_Some}
use Rattle.std.specs.Prelude.{Result, Ok, Err, OnOk}
use Rattle.pos_edge.specs.View.{View, IsDisk}
use Rattle.pos_edge.specs.Frame.{ChangesFile, NameOf}
use Rattle.pos_edge.specs.Images.{written, Tears, Stays, ImagesBy, IsAbsentOrEmpty}
use Rattle.pos_edge.specs.Calls.{IsThere, IsCreated, IsWritten, IsSynced, SameContents}
use Rattle.pos_edge.proofs.Frames.{each_then, each_step, each_weaker}
use Rattle.pos_gate.specs.Gates.{IsTiny, IsShut, IsButGate, EachImageOf, HasBytes, IsFresh, HoldsShut, Holds, opened}

-- ---- bytes

pub length-written : (at : ℕ) (piece b : List ℕ) → at ≤ length b → length (written at piece b) ≡ max (length b) (at + length piece)
length-written at piece b h =
    simp (length-append, length-drop) (let e : length (take at b) ≡ at = length-take-le at b h in rw e (omega arith))

pub written_end : (at : ℕ) (piece b : List ℕ) → length b ≡ at → written at piece b ≡ b ++ piece
written_end at piece b e =
    let t : take at b ≡ b = take_all at b (omega arith) in
    let d : drop (at + length piece) b ≡ [] = drop_all (at + length piece) b (omega arith) in
    rw (t, d, append-nil) refl

-- a write past the gate leaves it closed
pub written-shut : (at : ℕ) (piece b : List ℕ) → 1 ≤ at → at ≤ length b → IsShut (Some b) → IsShut (Some (written at piece b))
written-shut at piece b some within shut =
    let e = length-written at piece b within in
    let t : length (take at b) ≡ at = length-take-le at b within in (
      omega arith,
      ap (λ s. get_or s 0 0) (append_assoc (take at b) piece (drop (at + length piece) b))
          ∙ get_or_append_left (take at b) (piece ++ drop (at + length piece) b) 0 0 (omega arith)
          ∙ get_or-take at b 0 0 (omega arith) ∙ shut.1,
    )

-- ---- what a live file has

pub still_there : (file : ℕ) (a b : View) → b.tells ≡ a.tells → b.name_of file ≡ a.name_of file → IsThere file a → IsThere file b
still_there file a b tells name there = λ t. ap is_some name ∙ there (sym tells ∙ t)

pub HasBytes-write : (file at : ℕ) (piece b : List ℕ) (v w : View) → at ≤ length b → HasBytes file b v → ChangesFile file v w → IsWritten file at piece v w
    → HasBytes file (written at piece b) w
HasBytes-write file at piece b v w within h kept done = record {
  live = kept.live;
  there = still_there file v w kept.frame.tells kept.name h.there;
  size = done.size ∙ (ap (λ n. max n (at + length piece)) h.size ∙ sym (length-written at piece b within));
  contents = λ name is. let was = sym kept.name ∙ is in done.contents name b was (h.contents name was);
}

pub HasBytes-sync : (file : ℕ) (b : List ℕ) (v w : View) → HasBytes file b v → ChangesFile file v w → w.size_of file ≡ v.size_of file → SameContents v w
    → HasBytes file b w
HasBytes-sync file b v w h kept size same = record {
  live = kept.live;
  there = still_there file v w kept.frame.tells kept.name h.there;
  size = size ∙ h.size;
  contents = λ name is. same name ∙ h.contents name (sym kept.name ∙ is);
}

-- a sync that succeeded leaves one image, the bytes
pub Holds-sync : (file : ℕ) (b : List ℕ) (v w : View) → HasBytes file b v → ChangesFile file v w → w.size_of file ≡ v.size_of file → SameContents v w
    → IsSynced file w → Holds file b w
Holds-sync file b v w h kept size same synced =
    let bytes = HasBytes-sync file b v w h kept size same in record {
      bytes = bytes;
      images = λ name is image img. synced name is image img ∙ bytes.contents name is;
    }

-- ---- images

pub Tears-shut : (at n : ℕ) (before image : Option (List ℕ)) → 1 ≤ at → IsShut before → Tears at n before image → IsShut image
Tears-shut at n None image some shut torn = absurd shut
Tears-shut at n (Some b) None some shut torn = absurd torn
Tears-shut at n (Some b) (Some c) some shut torn =
    let longer = torn.no_shorter in
    let first = shut.0 in
    (omega arith, torn.outside 0 (omega arith) (inl (omega arith)) ∙ shut.1)

pub Tears-tiny : (before image : Option (List ℕ)) → IsTiny before → Tears 0 1 before image → IsTiny image
Tears-tiny None image tiny torn = subst IsTiny (sym torn) tt
Tears-tiny (Some b) None tiny torn = absurd torn
Tears-tiny (Some b) (Some c) tiny torn = let e = torn.no_longer in omega arith

pub Stays-keeps : (P : Option (List ℕ) → Type 0) (before image : Option (List ℕ)) → P before → Stays before image → P image
Stays-keeps P before image p same = subst P (sym same) p

-- a call that changes images by R, from images that have P to images that have Q
pub images_step : (P Q : Option (List ℕ) → Type 0) (R : Option (List ℕ) → Option (List ℕ) → Type 0) (file : ℕ) (v w : View)
    → ((name : List ℕ) (image : Option (List ℕ)) → NameOf file v name → v.image name v.clock image → P image) → ImagesBy R file v w
    → ((before image : Option (List ℕ)) → P before → R before image → Q image) → EachImageOf Q file v w
images_step P Q R file v w now by step = λ name is. each_step name P Q R file v w is by (λ image img. now name image is img) step

-- the images at the end of a call
pub images_end : (P : Option (List ℕ) → Type 0) (file : ℕ) (v w : View) → ChangesFile file v w → EachImageOf P file v w
    → (name : List ℕ) (image : Option (List ℕ)) → NameOf file w name → w.image name w.clock image → P image
images_end P file v w kept each = λ name image is img. each name (sym kept.name ∙ is) w.clock image kept.frame.clock (omega arith) img

-- two calls one after another
pub images_then : (P : Option (List ℕ) → Type 0) (file : ℕ) (u v w : View) → ChangesFile file u v → ChangesFile file v w
    → EachImageOf P file u v → EachImageOf P file v w → EachImageOf P file u w
images_then P file u v w first second p q = λ name is.
    each_then name P (NameOf file v) (λ f. f ≡ file) u v w second.frame (p name is) (q name (first.name ∙ is))

pub images_weaker : (P Q : Option (List ℕ) → Type 0) (file : ℕ) (v w : View) → ((image : Option (List ℕ)) → P image → Q image) → EachImageOf P file v w → EachImageOf Q file v w
images_weaker P Q file v w weaker each = λ name is. each_weaker name P Q v w weaker (each name is)

-- ---- the calls

pub shut_images : (file at : ℕ) (piece b : List ℕ) (v w : View) → 1 ≤ at → HoldsShut file b v → ImagesBy (Tears at (length piece)) file v w → EachImageOf IsShut file v w
shut_images file at piece b v w some h by =
    images_step IsShut IsShut (Tears at (length piece)) file v w h.images by (λ before image s t. Tears-shut at (length piece) before image some s t)

-- a write past the gate
pub HoldsShut-write : (file at : ℕ) (piece b : List ℕ) (v w : View) → 1 ≤ at → at ≤ length b → HoldsShut file b v → ChangesFile file v w
    → ImagesBy (Tears at (length piece)) file v w → IsWritten file at piece v w → HoldsShut file (written at piece b) w
HoldsShut-write file at piece b v w some within h kept by done = record {
  bytes = HasBytes-write file at piece b v w within h.bytes kept done;
  shut = written-shut at piece b some within h.shut;
  images = images_end IsShut file v w kept (shut_images file at piece b v w some h by);
}

-- what is on the disk with a closed gate
pub HoldsShut-synced : (file : ℕ) (b : List ℕ) (v : View) → IsShut (Some b) → Holds file b v → HoldsShut file b v
HoldsShut-synced file b v shut h = record {
  bytes = h.bytes;
  shut = shut;
  images = λ name image is img. subst IsShut (sym (h.images name is image img)) shut;
}

-- ---- the three functions

pub on_ok : {T E : Type 0} {P Q : Type 0} (r : Result T E) → (P → Q) → OnOk r P → OnOk r Q
on_ok (Ok x) f p = f p
on_ok (Err e) f p = p

-- a fresh file after its gate is on the disk
pub begun_shut : (file : ℕ) (piece : List ℕ) (u v w : View) → piece ≡ 0 ∷ [] → IsFresh file u → ChangesFile file u v → IsWritten file 0 piece u v
    → ChangesFile file v w → w.size_of file ≡ v.size_of file → SameContents v w → IsSynced file w → HoldsShut file (0 ∷ []) w
begun_shut file piece u v w e h first wrote second size same synced =
    let bytes = HasBytes-write file 0 piece [] u v (omega arith) h.bytes first wrote in
    HoldsShut-synced file (0 ∷ []) w (omega arith, refl)
    (Holds-sync file (0 ∷ []) v w (subst (λ b. HasBytes file b v) (written_end 0 piece [] refl ∙ e) bytes) second size same synced)

-- an open gate over the first byte
pub opened-is : (b : List ℕ) → 1 ≤ length b → written 0 (1 ∷ []) b ≡ opened b
unfolding opened
opened-is b some = refl

behind : (s : List ℕ) (at : ℕ) → 1 ≤ at → get_or s at 0 ≡ get_or (written 0 (1 ∷ []) s) at 0
behind [] zero some = absurd (omega arith)
behind [] (suc at) some = refl
behind (x ∷ s) zero some = absurd (omega arith)
behind (x ∷ s) (suc at) some = refl

-- the same but for the gate
pub written-gate : (b : List ℕ) (image : Option (List ℕ)) → 1 ≤ length b → Tears 0 1 (Some b) image → IsButGate (opened b) image
written-gate b None some torn = absurd torn
written-gate b (Some c) some torn =
    let on : length (written 0 (1 ∷ []) b) ≡ max (length b) (0 + 1) = length-written 0 (1 ∷ []) b (omega arith) in
    let is = opened-is b some in
    let shorter = torn.no_shorter in
    let longer = torn.no_longer in
    let same : length c ≡ length (written 0 (1 ∷ []) b) = omega arith in
    subst (λ o. IsButGate o (Some c)) is (same, λ at past. at_cases at past)
  where
    at_cases : (at : ℕ) → 1 ≤ at → get_or c at 0 ≡ get_or (written 0 (1 ∷ []) b) at 0
    at_cases at past = elim (cases_lt at (length b)) [
      | inl inside ↦ torn.outside at inside (inr (omega arith)) ∙ behind b at past
      | inr beyond ↦
          let on : length (written 0 (1 ∷ []) b) ≡ max (length b) (0 + 1) = length-written 0 (1 ∷ []) b (omega arith) in
          let longer = torn.no_longer in
          get_or_past c at 0 (omega arith) ∙ sym (get_or_past (written 0 (1 ∷ []) b) at 0 (omega arith))
    ]

-- all but the gate on the disk
pub shut_synced : (file : ℕ) (b : List ℕ) (u v : View) → HoldsShut file b u → ChangesFile file u v → v.size_of file ≡ u.size_of file → SameContents u v → IsSynced file v
    → Holds file b v
shut_synced file b u v held kept size same synced = Holds-sync file b u v held.bytes kept size same synced

-- the gate on the disk
pub gate_synced : (file : ℕ) (b : List ℕ) (w x y : View) → 1 ≤ length b → Holds file b w → ChangesFile file w x
    → IsWritten file 0 (1 ∷ []) w x → ChangesFile file x y → y.size_of file ≡ x.size_of file → SameContents x y → IsSynced file y → Holds file (opened b) y
gate_synced file b w x y some held k3 wrote k4 size same synced =
    subst (λ o. Holds file o y) (opened-is b some)
    (Holds-sync file (written 0 (1 ∷ []) b) x y (HasBytes-write file 0 (1 ∷ []) b w x (omega arith) held.bytes k3 wrote) k4 size same synced)

-- a file that was just created is fresh
pub created_is_fresh : (name : List ℕ) (file : ℕ) (a b : View) → IsDisk b → a.clock ≤ b.clock → IsCreated name file a b → IsFresh file b
created_is_fresh name file a b disk later new = record {
  bytes = record {
    live = new.live;
    there = λ told. ap is_some (new.named told);
    size = new.size;
    contents = λ n is. elim (cases_Bool b.tells) [
      | inl told ↦ ap b.contents (same n is told) ∙ new.contents told
      | inr silent ↦ let t = (disk.named file n is).there in absurd (none-some t.0 (sym (disk.no_contents n silent) ∙ t.1))
    ];
  };
  images = λ n image is img. elim (cases_Bool b.tells) [
    | inl told ↦ tiny image (new.images b.clock image later (omega arith) (subst (λ (m : List ℕ). b.image m b.clock image) (same n is told) img))
    | inr silent ↦ let t = (disk.named file n is).there in absurd (none-some t.0 (sym (disk.no_contents n silent) ∙ t.1))
  ];
} where
  same : (n : List ℕ) → NameOf file b n → b.tells ≡ true → n ≡ name
  same n is told = same_Some n name (sym is ∙ new.named told)

  tiny : (image : Option (List ℕ)) → IsAbsentOrEmpty image → IsTiny image
  tiny image (inl e) = subst IsTiny (sym e) tt
  tiny image (inr e) = subst IsTiny (sym e) (omega arith)
