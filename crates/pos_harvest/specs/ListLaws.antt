-- What is proved of a whole file: what its places show is what the plot's lists have, and over the plot of an id the lists of
-- a challenge are exactly its proofs and their qualities.
-- Source: the Construction document, "proving"; the order of the list is this project's own. Places count from 0.
use Rattle.std.specs.Prelude.{◌≡◌, ℕ, ◌<◌, ◌≤◌, List, map, Ok}
use Rattle.pos_order.specs.Quality.{pair_quality, quality_index, quality_of}
use Rattle.pos_lists.specs.PlotLists.{PlotLists, count, number_at, place_in}
use Rattle.pos_lists.specs.Trees.{tree, branch}
use Rattle.pos_laws.specs.Listing.{IsSpan, Lists}
use Rattle.pos_laws.specs.PlotOf.{PlotOf}
use Rattle.pos_layout.specs.declared.damage.Damage.{Damage}
use Rattle.pos_layout.specs.declared.damage.Damage.TheVariants.{NotAProof}
use Rattle.pos_layout.specs.Rules.{Well}
use Rattle.pos_layout.specs.Fields.{layout_in}
use Rattle.pos_harvest.specs.Listings.{ListsProofs, ListsQualities, IsProofListDamage, IsQualityListDamage}
use Rattle.pos_harvest.specs.Places.{tuple_at, quality_in, ShowsProof, ShowsNoProof}

-- a place of table 7 unfolds to the tree of its place of table 6
abbrev pub TupleIsTheTree : Type 0
TupleIsTheTree = (b : List ℕ) (p : PlotLists) (i : ℕ) → Well (layout_in b) b p → i < count p 7 →
    tuple_at (layout_in b) b i ≡ Ok (tree p 6 (place_in p.k (number_at p 7 i)))

-- and has the quality of this tree's branch
abbrev pub QualityIsOfTheBranch : Type 0
QualityIsOfTheBranch = (b : List ℕ) (p : PlotLists) (c : List ℕ) (i : ℕ) → Well (layout_in b) b p → i < count p 7 →
    quality_in (layout_in b) b c i
    ≡ Ok (pair_quality p.k c (branch p 5 (quality_index c) (place_in p.k (number_at p 7 i))).0
    (branch p 5 (quality_index c) (place_in p.k (number_at p 7 i))).1)

-- where a place shows a proof, its quality is the proof's
abbrev pub QualityIsOfTheProof : Type 0
QualityIsOfTheProof = (b : List ℕ) (p : PlotLists) (c : List ℕ) (i : ℕ) (xs : List ℕ) → Well (layout_in b) b p → i < count p 7 →
    ShowsProof (layout_in b) b c i xs → quality_in (layout_in b) b c i ≡ Ok (quality_of p.k c xs)

-- over the plot of an id, what is listed for a challenge is exactly its proofs, each once, by rising plot order
abbrev pub ListedAreTheProofs : Type 0
ListedAreTheProofs = (b : List ℕ) (p : PlotLists) (id : List ℕ) (k : ℕ) (c : List ℕ) (out : List (List ℕ)) → Well (layout_in b) b p →
    PlotOf p id k → ListsProofs (layout_in b) b c out → Lists id k c out

-- and the qualities listed are those of these proofs, in their order
abbrev pub ListedAreTheQualities : Type 0
ListedAreTheQualities = (b : List ℕ) (p : PlotLists) (id : List ℕ) (k : ℕ) (c : List ℕ) (proofs out : List (List ℕ)) →
    Well (layout_in b) b p → PlotOf p id k → Lists id k c proofs → ListsQualities (layout_in b) b c out → out ≡ map (quality_of k c) proofs

-- and no damage is shown in place of the proofs
abbrev pub EachPlaceHasAProof : Type 0
EachPlaceHasAProof = (b : List ℕ) (p : PlotLists) (id : List ℕ) (k : ℕ) (c : List ℕ) (d : Damage) → Well (layout_in b) b p →
    PlotOf p id k → IsProofListDamage (layout_in b) b c d → ⊥

-- nor, over any whole file, in place of the qualities
abbrev pub EachPlaceHasAQuality : Type 0
EachPlaceHasAQuality = (b : List ℕ) (p : PlotLists) (c : List ℕ) (d : Damage) → Well (layout_in b) b p → IsQualityListDamage (layout_in b) b c d → ⊥

-- a place of the plot's span for the challenge whose values are no proof, the first there
pub record IsFirstWithoutProof (b : List ℕ) (p : PlotLists) (c : List ℕ) (d : Damage) : Type 0 where
  pub first : ℕ
  pub second : ℕ
  pub span : IsSpan p c first second
  pub place : ℕ
  pub from : first ≤ place
  pub to : place < second
  pub before : (i : ℕ) → first ≤ i → i < place → (xs : List ℕ) × ShowsProof (layout_in b) b c i xs
  pub named : d ≡ NotAProof place
  pub never : ShowsNoProof (layout_in b) b c place

-- over a whole file that is the plot of no id, a damage in place of the proofs is such a place
abbrev pub OnlyAPlaceWithoutProof : Type 0
OnlyAPlaceWithoutProof = (b : List ℕ) (p : PlotLists) (c : List ℕ) (d : Damage) → Well (layout_in b) b p → IsProofListDamage (layout_in b) b c d →
    IsFirstWithoutProof b p c d
