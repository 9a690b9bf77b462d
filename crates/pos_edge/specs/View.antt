-- What is known of a disk: its counts, the files that are open, their contents, and what a crash may leave.
use Rattle.std.specs.Prelude.{ℕ, ◌≤◌, ◌≡◌, Bool, true, false, List, length, Option, Some, None}

-- A file is known by its name, a list of bytes; an open file by its FileId, a number.
-- A moment is a number on the disk's clock.
pub record View : Type 1 where
  -- how often the disk has failed, and how often it was read from
  pub faults : ℕ
  pub reads : ℕ
  -- the live FileIds, and how many bytes each is known to have
  pub is_live : ℕ → Bool
  pub size_of : ℕ → ℕ
  -- whether the next two are told
  pub tells : Bool
  -- the bytes under a name; None: no file has it
  pub contents : List ℕ → Option (List ℕ)
  -- the name of a FileId's file, while that file is there
  pub name_of : ℕ → Option (List ℕ)
  -- whether the images are told
  pub tells_images : Bool
  pub clock : ℕ
  -- what a crash at this moment may leave under this name; None: no file
  pub image : List ℕ → ℕ → Option (List ℕ) → Type 0

-- the FileId's file is there, and has the bytes that the FileId knows of
pub record HasFile (view : View) (file : ℕ) (name : List ℕ) : Type 0 where
  pub live : view.is_live file ≡ true
  pub there : (bytes : List ℕ) × (view.contents name ≡ Some bytes) × (view.size_of file ≤ length bytes)

-- What holds of every disk between two calls.
pub record IsDisk (view : View) : Type 0 where
  -- a disk that tells images tells contents
  pub images_told : view.tells_images ≡ true → view.tells ≡ true
  pub named : (file : ℕ) (name : List ℕ) → view.name_of file ≡ Some name → HasFile view file name
  -- the contents are one of the images
  pub contents_image : (name : List ℕ) → view.tells_images ≡ true → view.image name view.clock (view.contents name)
  -- a name that is not there has the one image "absent"
  pub absent_image : (name : List ℕ) (image : Option (List ℕ)) → view.contents name ≡ None → view.image name view.clock image → image ≡ None
  -- what isn't told is not there to cite
  pub no_contents : (name : List ℕ) → view.tells ≡ false → view.contents name ≡ None
  pub no_images : (name : List ℕ) (t : ℕ) (image : Option (List ℕ)) → view.tells_images ≡ false → view.image name t image → ⊥
