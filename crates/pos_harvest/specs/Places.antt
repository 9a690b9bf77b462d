-- What a place of table 7 of a file that opens stands for, whatever the file's bytes are: a proof or a damage, and a quality
-- or a damage.
-- Source: the Construction document, "proving"; the order of reading is this project's own. Places count from 0.
use Rattle.std.specs.Prelude.{◌≡◌, ℕ, ◌⊎◌, List, Option, Some, Result, Ok, Err}
use Rattle.pos_tuple.specs.Proof.{Proof}
use Rattle.pos_order.specs.Order.{Turning}
use Rattle.pos_order.specs.Quality.{pair_quality, quality_index}
use Rattle.pos_lists.specs.Walk.{walk_from, limb_from}
use Rattle.pos_layout.specs.declared.damage.Damage.{Damage}
use Rattle.pos_layout.specs.declared.damage.Damage.TheVariants.{NotAProof}
use Rattle.pos_layout.specs.declared.layout.Layout.{Layout}
use Rattle.pos_layout.specs.Fields.{header_in}
use Rattle.pos_layout.specs.Reading.{num, then_read}
use Rattle.pos_reader.specs.declared.refusal.ReadRefusal.{ReadRefusal}
use Rattle.pos_reader.specs.declared.refusal.ReadRefusal.TheVariants.{DiskFailed, Damage as Found}

-- the 64 values that a place unfolds to, or the first damage on the way
unfoldable pub tuple_at : Layout → List ℕ → ℕ → Result (List ℕ) Damage
tuple_at l b i = walk_from (num l b) (header_in b).size i

-- the quality of the two values at the end of the branch that the challenge chooses, or the first damage on this branch
unfoldable pub quality_in : Layout → List ℕ → List ℕ → ℕ → Result (List ℕ) Damage
quality_in l b c i =
    let k = (header_in b).size in
    then_read (limb_from (num l b) k (quality_index c) i) (λ pair. Ok (pair_quality k c pair.0 pair.1))

-- the values of this place, turned, are the proof xs
pub record ShowsProof (l : Layout) (b c : List ℕ) (i : ℕ) (xs : List ℕ) : Type 0 where
  pub values : List ℕ
  pub read : tuple_at l b i ≡ Ok values
  pub turned : Turning 6 xs values
  pub proof : Proof (header_in b).id.0 (header_in b).size c xs

-- these values are, in no order of halves, a proof
abbrev pub IsNoProof : List ℕ → ℕ → List ℕ → List ℕ → Type 0
IsNoProof id k c values = (xs : List ℕ) → Turning 6 xs values → Proof id k c xs → ⊥

-- the values of this place are none
pub record ShowsNoProof (l : Layout) (b c : List ℕ) (i : ℕ) : Type 0 where
  pub values : List ℕ
  pub read : tuple_at l b i ≡ Ok values
  pub never : IsNoProof (header_in b).id.0 (header_in b).size c values

-- what there is in place of a proof: a damage on the way to the values, or that these are none
abbrev pub FailsAsProof : Layout → List ℕ → List ℕ → ℕ → Damage → Type 0
FailsAsProof l b c i d = (tuple_at l b i ≡ Err d) ⊎ ((d ≡ NotAProof i) × ShowsNoProof l b c i)

-- the right answer for a place; where the disk failed nothing is said
abbrev pub AnswersProof : Layout → List ℕ → List ℕ → ℕ → Result (List ℕ) ReadRefusal → Type 0
AnswersProof l b c i (Ok xs) = ShowsProof l b c i xs
AnswersProof l b c i (Err DiskFailed) = Unit {0}
AnswersProof l b c i (Err (Found d)) = FailsAsProof l b c i d

-- the same by a source's refusals: of one that names no damage nothing is said
abbrev pub AnswersProofBy : {E : Type 0} → (E → Option Damage) → Layout → List ℕ → List ℕ → ℕ → Result (List ℕ) E → Type 0
AnswersProofBy found l b c i (Ok xs) = ShowsProof l b c i xs
AnswersProofBy found l b c i (Err e) = (d : Damage) → found e ≡ Some d → FailsAsProof l b c i d
