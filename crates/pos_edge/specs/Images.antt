-- What a crash may leave of a file. Between two syncs that succeed, each range that was written and all past
-- the old end may hold any bytes, the length is between the least and the greatest, and all other bytes stay.
use Rattle.std.specs.Prelude.{ℕ, ◌+◌, ◌≤◌, ◌<◌, ◌≡◌, ◌⊎◌, max, List, [], ◌++◌, length, take, drop, slice_index, Option, Some, None}
use Rattle.pos_edge.specs.View.{View}

-- these bytes, with a piece written over them from a place on
abbrev pub written : ℕ → List ℕ → List ℕ → List ℕ
written at piece bytes = take at bytes ++ piece ++ drop (at + length piece) bytes

-- the place k is not one of the n places from `at` on
abbrev pub IsOutsideRange : ℕ → ℕ → ℕ → Type 0
IsOutsideRange at n k = (k < at) ⊎ (at + n ≤ k)

-- A write of n bytes that was cut short: any bytes in its range and past the old end, a length from the old
-- to the greatest, all else as it was.
pub record Torn (at n : ℕ) (old new : List ℕ) : Type 0 where
  pub no_shorter : length old ≤ length new
  pub no_longer : length new ≤ max (length old) (at + n)
  pub outside : (k : ℕ) → k < length old → IsOutsideRange at n k → slice_index new k ≡ slice_index old k

-- the same of a file that a crash may also have left absent
abbrev pub Tears : ℕ → ℕ → Option (List ℕ) → Option (List ℕ) → Type 0
Tears at n None new = new ≡ None
Tears at n (Some old) None = ⊥
Tears at n (Some old) (Some new) = Torn at n old new

abbrev pub Stays : Option (List ℕ) → Option (List ℕ) → Type 0
Stays old new = new ≡ old

abbrev pub MayVanish : Option (List ℕ) → Option (List ℕ) → Type 0
MayVanish old new = (new ≡ old) ⊎ (new ≡ None)

abbrev pub IsAbsentOrEmpty : Option (List ℕ) → Type 0
IsAbsentOrEmpty image = (image ≡ None) ⊎ (image ≡ Some [])

-- at each moment from old to new, both ends with it, each image of this name has P
abbrev pub EachImage : List ℕ → (Option (List ℕ) → Type 0) → View → View → Type 0
EachImage name P old new = (t : ℕ) (image : Option (List ℕ)) → old.clock ≤ t → t ≤ new.clock → new.image name t image → P image

-- at each moment from old to new, each image of the FileId's file comes by this relation from one that it had before
abbrev pub ImagesBy : (Option (List ℕ) → Option (List ℕ) → Type 0) → ℕ → View → View → Type 0
ImagesBy R file old new = (name : List ℕ) → old.name_of file ≡ Some name → EachImage name (λ image. (before : Option (List ℕ)) × old.image name old.clock before × R before image) old new

-- a crash now leaves this under the name, and nothing else
abbrev pub IsOnlyImage : List ℕ → Option (List ℕ) → View → Type 0
IsOnlyImage name kept view = (image : Option (List ℕ)) → view.image name view.clock image → image ≡ kept
