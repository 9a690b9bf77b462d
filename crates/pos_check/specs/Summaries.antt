-- What a check of a plot file shows: how many proofs some challenges have, and the digest of their qualities. The file's bytes
-- are any that open.
-- Source: this project's own. Challenges and places count from 0.
use Rattle.std.specs.Prelude.{◌≡◌, ℕ, ◌<◌, ◌≤◌, List, [], length, map, slice_index_or, sum_by}
use Rattle.std.specs.List.{concat}
use Rattle.sha2.specs.Sha256.{sha256}
use Rattle.pos_layout.specs.declared.damage.Damage.{Damage}
use Rattle.pos_layout.specs.Fields.{header_in}
use Rattle.pos_layout.specs.declared.layout.Layout.{Layout}
use Rattle.pos_reader.specs.Spans.{Span}
use Rattle.pos_harvest.specs.Listings.{AreQualitiesOf, IsProofListDamage}
use Rattle.pos_harvest.specs.Places.{ShowsProof}
use Rattle.pos_check.specs.declared.summary.Summary.{Summary}
use Rattle.pos_check.specs.Challenges.{check_challenge}

-- each place from first up to, not with, second shows a proof
abbrev pub HaveProofs : Layout → List ℕ → List ℕ → ℕ → ℕ → Type 0
HaveProofs l b c first second = (i : ℕ) → first ≤ i → i < second → (xs : List ℕ) × ShowsProof l b c i xs

-- the places of a span all show proofs for the challenge, and out has the qualities of their branches
pub record IsChecked (l : Layout) (b c : List ℕ) (out : List (List ℕ)) : Type 0 where
  pub first : ℕ
  pub second : ℕ
  pub span : Span l b c first second
  pub proofs : HaveProofs l b c first second
  pub qualities : AreQualitiesOf l b c first second out

-- challenge number i of the plot in these bytes
abbrev pub challenge_of : List ℕ → ℕ → List ℕ
challenge_of b i = check_challenge (header_in b).id.0 i

-- for each of the first n challenges of a plot, in order, the qualities of its places
pub record AreChecked (l : Layout) (b : List ℕ) (n : ℕ) (lists : List (List (List ℕ))) : Type 0 where
  pub as_many : length lists ≡ n
  pub each : (i : ℕ) → i < n → IsChecked l b (challenge_of b i) (slice_index_or lists i [])

-- how many qualities there are in all, and their digest: SHA-256 of all of them, one after another
abbrev pub count_all : List (List (List ℕ)) → ℕ
count_all lists = sum_by length lists

abbrev pub digest_all : List (List (List ℕ)) → List ℕ
digest_all lists = sha256 (concat (map concat lists))

-- The summary of the first n challenges: each place of a span of each shows a proof, so many they are in all, and this is the
-- digest of the qualities of their branches, by challenge and then by place.
pub record IsSummary (l : Layout) (b : List ℕ) (n : ℕ) (s : Summary) : Type 0 where
  pub lists : List (List (List ℕ))
  pub checked : AreChecked l b n lists
  pub challenges : s.challenges ≡ n
  pub proofs : s.proofs ≡ count_all lists
  pub digest : s.digest ≡ digest_all lists

-- What there is in place of a summary: of the first n challenges, the first that has not, for each place of a span, a proof,
-- shows this damage in the search for its span, or at the first place of a span that shows no proof.
pub record StopsCheck (l : Layout) (b : List ℕ) (n : ℕ) (d : Damage) : Type 0 where
  pub challenge : ℕ
  pub inside : challenge < n
  pub before : (i : ℕ) → i < challenge → (qualities : List (List ℕ)) × IsChecked l b (challenge_of b i) qualities
  pub here : IsProofListDamage l b (challenge_of b challenge) d
