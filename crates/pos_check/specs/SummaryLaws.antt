-- What is proved of a summary and of what there is in place of one, over whole files and over the plot of an id.
-- Source: this project's own. Challenges and places count from 0.
use Rattle.std.specs.Prelude.{◌≡◌, ℕ, ◌<◌, List, [], length, map, slice_index_or}
use Rattle.pos_lists.specs.PlotLists.{PlotLists}
use Rattle.pos_order.specs.Quality.{quality_of}
use Rattle.pos_laws.specs.Listing.{Lists}
use Rattle.pos_laws.specs.PlotOf.{PlotOf}
use Rattle.pos_layout.specs.declared.damage.Damage.{Damage}
use Rattle.pos_layout.specs.Rules.{Well}
use Rattle.pos_layout.specs.Fields.{layout_in}
use Rattle.pos_harvest.specs.ListLaws.{IsFirstWithoutProof}
use Rattle.pos_check.specs.declared.summary.Summary.{Summary}
use Rattle.pos_check.specs.Challenges.{check_challenge}
use Rattle.pos_check.specs.Summaries.{IsChecked, IsSummary, StopsCheck, challenge_of, count_all, digest_all}

-- over a whole file there is just one summary of so many challenges
abbrev pub OneSummary : Type 0
OneSummary = (b : List ℕ) (p : PlotLists) (n : ℕ) (s t : Summary) → Well (layout_in b) b p → IsSummary (layout_in b) b n s → IsSummary (layout_in b) b n t → s ≡ t

-- these are the qualities of the proofs of one id and one size for this challenge: of all of them, by rising plot order
pub record RatesProofs (id : List ℕ) (k : ℕ) (c : List ℕ) (qualities : List (List ℕ)) : Type 0 where
  pub proofs : List (List ℕ)
  pub lists : Lists id k c proofs
  pub rated : qualities ≡ map (quality_of k c) proofs

-- a summary of all proofs of one id and one size for its first n challenges: how many they are, and the digest of their
-- qualities, by challenge and then by rising plot order
pub record SumsUp (id : List ℕ) (k n : ℕ) (s : Summary) : Type 0 where
  pub lists : List (List (List ℕ))
  pub as_many : length lists ≡ n
  pub each : (i : ℕ) → i < n → RatesProofs id k (check_challenge id i) (slice_index_or lists i [])
  pub challenges : s.challenges ≡ n
  pub proofs : s.proofs ≡ count_all lists
  pub digest : s.digest ≡ digest_all lists

-- over the plot of an id, the summary is that of its proofs
abbrev pub SummaryIsOfTheProofs : Type 0
SummaryIsOfTheProofs = (b : List ℕ) (p : PlotLists) (id : List ℕ) (k n : ℕ) (s : Summary) → Well (layout_in b) b p → PlotOf p id k →
    IsSummary (layout_in b) b n s → SumsUp id k n s

-- and no damage is shown in place of it
abbrev pub EachChallengeIsChecked : Type 0
EachChallengeIsChecked = (b : List ℕ) (p : PlotLists) (id : List ℕ) (k n : ℕ) (d : Damage) → Well (layout_in b) b p → PlotOf p id k →
    StopsCheck (layout_in b) b n d → ⊥

-- Of the first n challenges the first for which a place of the plot's span has no proof, and the first such place there. The places
-- of each earlier challenge were all checked.
pub record IsPlaceWithoutProof (b : List ℕ) (p : PlotLists) (n : ℕ) (d : Damage) : Type 0 where
  pub challenge : ℕ
  pub asked : challenge < n
  pub before : (i : ℕ) → i < challenge → (qualities : List (List ℕ)) × IsChecked (layout_in b) b (challenge_of b i) qualities
  pub first : IsFirstWithoutProof b p (challenge_of b challenge) d

-- over a whole file that is the plot of no id, a damage in place of a summary is such a place
abbrev pub OnlyAPlaceStopsACheck : Type 0
OnlyAPlaceStopsACheck = (b : List ℕ) (p : PlotLists) (n : ℕ) (d : Damage) → Well (layout_in b) b p → StopsCheck (layout_in b) b n d → IsPlaceWithoutProof b p n d
