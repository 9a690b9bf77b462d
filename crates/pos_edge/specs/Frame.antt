-- What one or several calls leave as it was.
use Rattle.std.specs.Prelude.{ℕ, ◌≤◌, ◌≡◌, ◌↔◌, true, List, Option, Some, Result, MatchResult}
use Rattle.pos_edge.specs.View.{View}

-- no name or FileId, and this one alone
abbrev pub Nothing : {X : Type 0} → X → Type 0
Nothing x = ⊥

abbrev pub Just : {X : Type 0} → X → X → Type 0
Just x y = y ≡ x

-- the name of this FileId's file
abbrev pub NameOf : ℕ → View → List ℕ → Type 0
NameOf file view name = view.name_of file ≡ Some name

-- Whatever happened from old to new, only files of these names and these FileIds may have changed.
-- A FileId outside stays live with its size, and keeps its file unless that has one of these names.
pub record ChangesOnly (names : List ℕ → Type 0) (ids : ℕ → Type 0) (old new : View) : Type 0 where
  pub faults : old.faults ≤ new.faults
  pub reads : old.reads ≤ new.reads
  pub clock : old.clock ≤ new.clock
  pub tells : new.tells ≡ old.tells
  pub tells_images : new.tells_images ≡ old.tells_images
  pub live : (file : ℕ) → old.is_live file ≡ true → (ids file → ⊥) → new.is_live file ≡ true
  pub size : (file : ℕ) → old.is_live file ≡ true → (ids file → ⊥) → new.size_of file ≡ old.size_of file
  pub name : (file : ℕ) → old.is_live file ≡ true → (ids file → ⊥) → ((n : List ℕ) → old.name_of file ≡ Some n → names n → ⊥) → new.name_of file ≡ old.name_of file
  pub contents : (n : List ℕ) → (names n → ⊥) → new.contents n ≡ old.contents n
  -- at each moment from old to new, the images of another name are those that it had
  pub images : (n : List ℕ) (t : ℕ) (image : Option (List ℕ)) → (names n → ⊥) → old.clock ≤ t → t ≤ new.clock → new.image n t image ↔ old.image n old.clock image
  -- no moment that the clock had reached changes its images
  pub past : (n : List ℕ) (t : ℕ) (image : Option (List ℕ)) → t ≤ old.clock → new.image n t image ↔ old.image n t image

-- which FileIds are live and what their files are called, but for some FileIds
pub record KeepsIds (but : ℕ → Type 0) (old new : View) : Type 0 where
  pub live : (file : ℕ) → (but file → ⊥) → new.is_live file ≡ old.is_live file
  pub name : (file : ℕ) → (but file → ⊥) → new.name_of file ≡ old.name_of file

-- the count of faults is as it was
abbrev pub SameFaults : View → View → Type 0
SameFaults old new = new.faults ≡ old.faults

-- the count of faults is as it was, unless this fault is answered
abbrev pub SameFaultsBut : {X E : Type 0} → E → Result X E → View → View → Type 0
SameFaultsBut fault result old new = MatchResult result (λ done. SameFaults old new) (λ answered. (answered ≡ fault → ⊥) → SameFaults old new)

-- nothing has changed
pub record IsUntouched (old new : View) : Type 0 where
  pub kept : ChangesOnly Nothing Nothing old new
  pub ids : KeepsIds Nothing old new
  pub faults : new.faults ≡ old.faults

-- No file was changed, and each FileId keeps its life and name: what reads do.
pub record ReadsOnly (old new : View) : Type 0 where
  pub kept : ChangesOnly Nothing Nothing old new
  pub ids : KeepsIds Nothing old new

-- Of a value that owns one file: only this file has changed, and the FileId stays live, keeps its name and is no smaller.
pub record ChangesFile (file : ℕ) (old new : View) : Type 0 where
  pub frame : ChangesOnly (NameOf file old) (Just file) old new
  pub live : new.is_live file ≡ true
  pub name : new.name_of file ≡ old.name_of file
  pub grows : old.size_of file ≤ new.size_of file

-- A file that other calls left alone: live, of its size and name, with its bytes, and its images at each moment.
pub record FileBeside (file : ℕ) (old new : View) : Type 0 where
  pub live : new.is_live file ≡ true
  pub size : new.size_of file ≡ old.size_of file
  pub name : new.name_of file ≡ old.name_of file
  pub contents : (n : List ℕ) → NameOf file old n → new.contents n ≡ old.contents n
  pub images : (n : List ℕ) (t : ℕ) (i : Option (List ℕ)) → NameOf file old n → old.clock ≤ t → t ≤ new.clock → new.image n t i ↔ old.image n old.clock i
