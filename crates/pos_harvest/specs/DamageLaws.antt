-- What is proved of the damages that a challenge meets, in any file that opens: each is one of the file.
-- Source: this project's plot file format. Places count from 0.
use Rattle.std.specs.Prelude.{◌≡◌, ℕ, ◌<◌, List, Err}
use Rattle.pos_layout.specs.declared.damage.Damage.{Damage}
use Rattle.pos_layout.specs.Rules.{Opens}
use Rattle.pos_layout.specs.Fields.{layout_in}
use Rattle.pos_reader.specs.Spans.{IsLastDamage, last_count}
use Rattle.pos_harvest.specs.Listings.{IsProofListDamage, IsQualityListDamage}
use Rattle.pos_harvest.specs.Places.{tuple_at, quality_in}
use Rattle.pos_harvest.specs.PlotDamage.{IsNumberDamage, IsDamage}

-- a damage that the search for a span shows is one of a number
abbrev pub SpanDamageIsOfANumber : Type 0
SpanDamageIsOfANumber = (b : List ℕ) (d : Damage) → Opens (layout_in b) b → IsLastDamage (layout_in b) b d → IsNumberDamage (layout_in b) b d

-- and one on the way to the values of a place
abbrev pub TupleDamageIsOfANumber : Type 0
TupleDamageIsOfANumber = (b : List ℕ) (i : ℕ) (d : Damage) → Opens (layout_in b) b → i < last_count b → tuple_at (layout_in b) b i ≡ Err d →
    IsNumberDamage (layout_in b) b d

-- and one on a branch
abbrev pub BranchDamageIsOfANumber : Type 0
BranchDamageIsOfANumber = (b c : List ℕ) (i : ℕ) (d : Damage) → Opens (layout_in b) b → i < last_count b → quality_in (layout_in b) b c i ≡ Err d →
    IsNumberDamage (layout_in b) b d

-- so a damage in place of the proofs is one of the file, for this challenge
abbrev pub ProofListDamageIsOfTheFile : Type 0
ProofListDamageIsOfTheFile = (b c : List ℕ) (d : Damage) → Opens (layout_in b) b → IsProofListDamage (layout_in b) b c d → IsDamage (layout_in b) b c d

-- and one in place of the qualities is one of a number
abbrev pub QualityListDamageIsOfANumber : Type 0
QualityListDamageIsOfANumber = (b c : List ℕ) (d : Damage) → Opens (layout_in b) b → IsQualityListDamage (layout_in b) b c d → IsNumberDamage (layout_in b) b d
