-- What has to be wrong with a file for a damage to be answered, of a file that is asked for a challenge.
-- Source: this project's plot file format. Tables count from 1 to 7, places from 0.
use Rattle.std.specs.Prelude.{◌≡◌, ℕ, ◌<◌, ◌≤◌, ◌⊎◌, List, length, Some}
use Rattle.pos_layout.specs.declared.damage.Damage.{Damage}
use Rattle.pos_layout.specs.declared.damage.Damage.TheVariants.{NotAProof}
use Rattle.pos_layout.specs.Causes.{OpeningCause}
use Rattle.pos_layout.specs.Damages.{opening}
use Rattle.pos_layout.specs.Fields.{header_in, count_of, layout_in}
use Rattle.pos_layout.specs.declared.layout.Layout.{Layout}
use Rattle.pos_layout.specs.Rules.{Opens}
use Rattle.pos_reader.specs.ReadingCauses.{NumberCause}
use Rattle.pos_harvest.specs.Listings.{IsProofListDamage, IsQualityListDamage}
use Rattle.pos_harvest.specs.Places.{ShowsNoProof}

-- a place of the file
pub record IsPlace (b : List ℕ) (t i : ℕ) : Type 0 where
  pub first : 1 ≤ t
  pub last : t ≤ 7
  pub inside : i < count_of (header_in b) t

-- the damage of a number
abbrev pub IsNumberDamage : Layout → List ℕ → Damage → Type 0
IsNumberDamage l b d = (t i : ℕ) × IsPlace b t i × NumberCause l b t i d

-- a tuple that is no proof
abbrev pub IsProofDamage : Layout → List ℕ → List ℕ → Damage → Type 0
IsProofDamage l b c d = (i : ℕ) × IsPlace b 7 i × (d ≡ NotAProof i) × ShowsNoProof l b c i

-- the damage is one of the file: of what opening tests, or of a number, or of a tuple
abbrev pub IsDamage : Layout → List ℕ → List ℕ → Damage → Type 0
IsDamage l b c d = OpeningCause l b d ⊎ (Opens l b × (IsNumberDamage l b d ⊎ IsProofDamage l b c d))

-- ---- which damage is answered

-- the first damage that opening these bytes finds
abbrev pub IsOpeningDamage : List ℕ → Damage → Type 0
IsOpeningDamage b d = opening (layout_in b) b (length b) ≡ Some d

-- of bytes that are asked for the proofs of a challenge: the first that opening finds, or what there is in place of the list
abbrev pub IsProveDamage : List ℕ → List ℕ → Damage → Type 0
IsProveDamage c b d = IsOpeningDamage b d ⊎ (Opens (layout_in b) b × IsProofListDamage (layout_in b) b c d)

-- and for the qualities
abbrev pub IsQualityDamage : List ℕ → List ℕ → Damage → Type 0
IsQualityDamage c b d = IsOpeningDamage b d ⊎ (Opens (layout_in b) b × IsQualityListDamage (layout_in b) b c d)
