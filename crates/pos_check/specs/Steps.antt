-- What the steps of a check have hashed and counted. This is for private functions; no public clause speaks of it.
use Rattle.std.specs.Prelude.{◌≡◌, ℕ, List, ◌++◌, length, map}
use Rattle.std.specs.List.{concat}
use Rattle.sha2.specs.Hashers.{Holds256}
use Rattle.sha2.specs.declared.Sha256.{Sha256}
use Rattle.pos_layout.specs.declared.layout.Layout.{Layout}
use Rattle.pos_harvest.specs.Listings.{AreQualitiesOf}
use Rattle.pos_check.specs.Summaries.{AreChecked, HaveProofs, IsChecked, count_all}

-- a hasher took these strings of bytes, one after another
abbrev pub TakesAll : Sha256 → Sha256 → List (List ℕ) → Type 0
TakesAll old new pieces = (m : List ℕ) → Holds256 old m → Holds256 new (m ++ concat pieces)

-- the places from first up to, not with, second show proofs, and a hasher took the qualities of their branches
pub record TakesPlaces (l : Layout) (b c : List ℕ) (first second : ℕ) (old new : Sha256) : Type 0 where
  pub qualities : List (List ℕ)
  pub shown : AreQualitiesOf l b c first second qualities
  pub proofs : HaveProofs l b c first second
  pub hashed : TakesAll old new qualities

-- the places of a span show proofs, so many, and a hasher took their qualities
pub record TakesChallenge (l : Layout) (b c : List ℕ) (proofs : ℕ) (old new : Sha256) : Type 0 where
  pub qualities : List (List ℕ)
  pub checked : IsChecked l b c qualities
  pub as_many : proofs ≡ length qualities
  pub hashed : TakesAll old new qualities

-- so many challenges of a plot were checked, so many proofs were counted, and a hasher holds their qualities
pub record HoldsSummary (l : Layout) (b : List ℕ) (n proofs : ℕ) (hasher : Sha256) : Type 0 where
  pub lists : List (List (List ℕ))
  pub checked : AreChecked l b n lists
  pub counted : proofs ≡ count_all lists
  pub hashed : Holds256 hasher (concat (map concat lists))
