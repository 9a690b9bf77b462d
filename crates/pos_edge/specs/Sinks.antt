-- What a sink was given, and when one in memory fails.
use Rattle.std.specs.Prelude.{ℕ, ◌+◌, ◌≤◌, ◌<◌, ◌≡◌, ◌⊎◌, List, [], ◌++◌, length, take, Contains, Option, Some, None}

-- A sink at a moment: the bytes written, where it tells them, and how often it has failed.
pub record Heard : Type 0 where
  pub text : Option (List ℕ)
  pub faults : ℕ

-- The bytes written, with these behind them. None: the sink doesn't tell what was written.
abbrev pub followed_by : Option (List ℕ) → List ℕ → Option (List ℕ)
followed_by None piece = None
followed_by (Some text) piece = Some (text ++ piece)

-- a front part of the piece, which may be empty or whole, stands behind what was written before
abbrev pub AppendsPartOf : List ℕ → Option (List ℕ) → Option (List ℕ) → Type 0
AppendsPartOf piece old new = (n : ℕ) × (n ≤ length piece) × (new ≡ followed_by old (take n piece))

-- A sink in memory: what was written, how many puts were made, how many of them failed,
-- the numbers of the puts that are to fail, and how many bytes there is room for.
pub record SinkState : Type 0 where
  pub text : List ℕ
  pub puts : ℕ
  pub faults : ℕ
  pub failing : List ℕ
  pub room : ℕ

-- nothing was put yet
abbrev pub fresh_sink : List ℕ → ℕ → SinkState
fresh_sink failing room = record { text = []; puts = 0; faults = 0; failing = failing; room = room }

-- the next put, with this piece, is one that is to fail, or there is no room for it
abbrev pub FailsAtPut : SinkState → List ℕ → Type 0
FailsAtPut sink piece = Contains sink.failing sink.puts ⊎ (sink.room < length sink.text + length piece)
