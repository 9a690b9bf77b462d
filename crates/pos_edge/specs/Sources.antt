-- What a source gave, and when one in memory fails.
use Rattle.std.specs.Prelude.{ℕ, ◌≡◌, min, max, List, [], ◌++◌, length, slice_get, Contains, Option, Some, None}
use Rattle.pos_edge.specs.Faults.{raised}

-- A source at a moment: the bytes left, where it tells them, how many were taken, and how often it has failed.
pub record Supply : Type 0 where
  pub left : Option (List ℕ)
  pub taken : ℕ
  pub faults : ℕ

-- The bytes left, with these before them. None: the source doesn't tell what is left.
abbrev pub behind : List ℕ → Option (List ℕ) → Option (List ℕ)
behind bytes None = None
behind bytes (Some left) = Some (bytes ++ left)

-- These bytes were taken, by one call or several. A count that would pass the end of its type stands there.
pub record IsTaken (bytes : List ℕ) (old new : Supply) : Type 0 where
  pub left : old.left ≡ behind bytes new.left
  pub count : new.taken ≡ raised old.taken (length bytes)

-- no byte is left, as far as that is told
abbrev pub IsDrained : Option (List ℕ) → Type 0
IsDrained None = Unit {0}
IsDrained (Some left) = left ≡ []

-- A source in memory: the bytes left, how many were taken, how many takes were made, how many of them failed, how many
-- bytes each take gives at most, and the numbers of the takes that are to fail.
pub record SourceState : Type 0 where
  pub left : List ℕ
  pub taken : ℕ
  pub takes : ℕ
  pub faults : ℕ
  pub pieces : List ℕ
  pub failing : List ℕ

-- nothing was taken yet
abbrev pub fresh_source : List ℕ → List ℕ → List ℕ → SourceState
fresh_source bytes pieces failing = record { left = bytes; taken = 0; takes = 0; faults = 0; pieces = pieces; failing = failing }

-- the next take is one that is to fail
abbrev pub FailsAtTake : SourceState → Type 0
FailsAtTake source = Contains source.failing source.takes

-- A take into a buffer of so many bytes gives at most so many: all that fit where it has no piece, and else at least one.
abbrev pub most_into : ℕ → Option ℕ → ℕ
most_into room None = room
most_into room (Some piece) = min room (max 1 piece)

-- how many bytes the next take gives, if it does not fail
abbrev pub next_count : SourceState → ℕ → ℕ
next_count source room = min (most_into room (slice_get source.pieces source.takes)) (length source.left)
