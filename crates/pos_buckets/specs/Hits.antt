-- The targets of a left value whose places are marked, as the bits of a word.
use Rattle.std.specs.Prelude.{◌≡◌, ℕ, ◌+◌, ◌^◌, ◌<◌, List, slice_index}
use Rattle.std.specs.Int.{bit_at}
use Rattle.pos_buckets.specs.Targets.{target_place}

-- bit m is the mark of the m-th target
abbrev pub AreHits : ℕ → ℕ → List ℕ → ℕ → Type 0
AreHits parity place marks hits = (m : ℕ) → m < 64 → bit_at hits m ≡ slice_index marks (target_place parity place m)

-- the bits of the last n targets so far
pub record AreHighHits (parity place : ℕ) (marks : List ℕ) (n hits : ℕ) : Type 0 where
  pub below : hits < 2 ^ n
  pub bits : (j m : ℕ) → j < n → m + n ≡ 64 + j → bit_at hits j ≡ slice_index marks (target_place parity place m)
