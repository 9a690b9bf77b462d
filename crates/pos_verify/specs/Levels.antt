-- How the verifier joins the entries of one level to those of the next. This is for its private functions; no public
-- clause speaks of it.
use Rattle.std.specs.Prelude.{◌≡◌, ℕ, ◌+◌, ◌*◌, ◌^◌, ◌<◌, List, length, Option, Some, None, IsSome}
use Rattle.std.specs.List.{slice_get}
use Rattle.pos_tuple.specs.declared.entry.Entry.{Entry}
use Rattle.pos_tuple.specs.Node.{metadata_units, joined, node}
use Rattle.pos_verify.specs.Verdict.{group}

-- the entry has a y and metadata of table t
pub record FitsTable (k t : ℕ) (e : Entry) : Type 0 where
  pub y : e.y < 2 ^ (k + 6)
  pub metadata : length e.meta ≡ k * metadata_units t

-- so do the first n entries
abbrev pub AllFit : ℕ → ℕ → ℕ → List Entry → Type 0
AllFit k t n entries = (q : ℕ) (e : Entry) → q < n → slice_get entries q ≡ Some e → FitsTable k t e

-- what the two entries of group q join to in table t
abbrev pub joined_at : ℕ → ℕ → List Entry → ℕ → Option Entry
joined_at k t entries q = joined k t (slice_get entries (2 * q)) (slice_get entries (2 * q + 1))

-- the first n entries are the nodes of the groups of 2 ^ level values
abbrev pub AreGroupNodes : List ℕ → ℕ → ℕ → List ℕ → ℕ → List Entry → Type 0
AreGroupNodes id k level xs n entries = (q : ℕ) → q < n → slice_get entries q ≡ node id k level (group level q xs)

-- group q is the first of the groups that do not join
pub record StopsAt (k t : ℕ) (entries : List Entry) (n q : ℕ) : Type 0 where
  pub inside : q < n
  pub here : joined_at k t entries q ≡ None
  pub left : (p : ℕ) → p < q → IsSome (joined_at k t entries p)

-- the first n of the new entries are what the groups of the old ones join to
pub record AreJoined (k t : ℕ) (n : ℕ) (old new : List Entry) : Type 0 where
  pub joins : (q : ℕ) → q < n → slice_get new q ≡ joined_at k t old q
  pub fit : AllFit k t n new
