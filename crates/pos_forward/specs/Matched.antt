-- A matcher while it takes the entries of a table: what it and the drafts stand for.
-- Source: the Construction document, "forward propagation"; the order of work is this project's own.
use Rattle.std.specs.Prelude.{◌≡◌, ℕ, ◌+◌, ◌-◌, ◌^◌, ◌<◌, ◌≤◌, List, [], ◌++◌, length, All}
use Rattle.pos_tuple.specs.declared.entry.Entry.{Entry}
use Rattle.pos_tuple.specs.Match.{bucket}
use Rattle.pos_tuple.specs.Node.{IsEntry}
use Rattle.pos_buckets.specs.Places.{IsClear}
use Rattle.pos_laws.specs.Making.{AreMatching, NeverFalls}
use Rattle.pos_forward.specs.declared.drafts.Draft.{Draft}
use Rattle.pos_forward.specs.declared.buckets.Bucket.{Bucket}
use Rattle.pos_forward.specs.declared.matcher.Matcher.{Matcher}
use Rattle.pos_forward.specs.Tables.{ys_of, ArePairsTo}
use Rattle.pos_forward.specs.Waiting.{IsFew, AreMadeOrWait}

-- the values of a bucket are its entries' y, and all are in the bucket before the one that it names
pub record IsBucket (b : Bucket) : Type 0 where
  pub ys : b.ys.items ≡ ys_of b.entries.items
  pub one : All (λ e. bucket e.y + 1 ≡ b.next) b.entries.items
  pub small : b.next < 2 ^ 60

-- es are taken so far, in the order of y: those before the two buckets, the left and the right bucket
pub record AreTaken (k t : ℕ) (es before : List Entry) (left right : Bucket) : Type 0 where
  pub split : es ≡ before ++ (left.entries.items ++ right.entries.items)
  pub left_first : left.first ≡ length before
  pub right_first : right.first ≡ length before + length left.entries.items
  pub left_bucket : IsBucket left
  pub right_bucket : IsBucket right
  pub earlier : All (λ e. (bucket e.y + 1 < left.next) × (left.next < right.next)) before
  pub below : All (λ e. bucket e.y + 1 < right.next) (before ++ left.entries.items)
  pub entries : All (IsEntry k (t - 1)) es
  pub rise : NeverFalls es

-- The entries es of table t - 1 are taken: each matching pair of them whose right place is below n is among the drafts
-- of table t or waits.
pub record HasPairsTo (k t : ℕ) (es : List Entry) (n : ℕ) (m : Matcher) (drafts : List Draft) : Type 0 where
  pub before : List Entry
  pub taken : AreTaken k t es before m.left m.right
  pub clear : IsClear m.places
  pub few : IsFew k t m.waiting
  pub done : List (ℕ × ℕ)
  pub pairs : ArePairsTo es n done
  pub gathered : AreMadeOrWait k t es done m.waiting drafts

-- The entries es of table t - 1 are taken, and the pairs whose right place is before the right bucket are made or wait.
pub record IsMatched (k t : ℕ) (es : List Entry) (m : Matcher) (drafts : List Draft) : Type 0 where
  pub has : HasPairsTo k t es m.right.first m drafts
  pub begun : length m.right.entries.items ≡ 0 → m.right.next ≡ 0
  pub small : m.right.next < 2 ^ 59

-- the right bucket became the left one, and the right one has no entries and is the one before `next`
pub record HasTurned (next : ℕ) (old new : Matcher) : Type 0 where
  pub pairs : (k t : ℕ) (es : List Entry) (drafts : List Draft) → HasPairsTo k t es (length es) old drafts → HasPairsTo k t es new.right.first new drafts
  pub empty : new.right.entries.items ≡ []
  pub next_is : new.right.next ≡ next
  pub waiting : new.waiting ≡ old.waiting

-- nothing is taken: a matcher is ready for any table
abbrev pub IsReady : Matcher → Type 0
IsReady m = (k t : ℕ) → IsMatched k t [] m []

-- an entry of table t - 1 may come next: it is not below those that are taken
pub record MayTake (k t : ℕ) (e : Entry) (m : Matcher) (drafts : List Draft) : Type 0 where
  pub es : List Entry
  pub matched : IsMatched k t es m drafts
  pub rise : All (λ b. b.y ≤ e.y) es
  pub few : length es < 2 ^ 52
  pub entry : IsEntry k (t - 1) e

-- some entries are taken, not too many
pub record MayFinish (k t : ℕ) (m : Matcher) (drafts : List Draft) : Type 0 where
  pub es : List Entry
  pub matched : IsMatched k t es m drafts
  pub few : length es ≤ 2 ^ 52

-- there are more than c matching pairs of places of these entries, so also where more entries come behind them
abbrev pub IsOverfull : ℕ → List Entry → Type 0
IsOverfull c es = (pairs : List (ℕ × ℕ)) × (c < length pairs) × ((rest : List Entry) → AreMatching (es ++ rest) pairs)
