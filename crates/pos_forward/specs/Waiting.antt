-- Pairs that wait until there are eight of them, and the drafts that are made of them.
use Rattle.std.specs.Prelude.{◌≡◌, ℕ, ◌+◌, ◌-◌, ◌%◌, ◌<◌, List, [], ◌∷◌, ◌++◌, length, map, take, All}
use Rattle.std.specs.Simd.Lanes.{zip2}
use Rattle.pos_tuple.specs.declared.entry.Entry.{Entry}
use Rattle.pos_tuple.specs.Node.{IsEntry, next_entry}
use Rattle.pos_forward.specs.declared.drafts.Draft.{Draft}
use Rattle.pos_forward.specs.declared.buckets.Bucket.{Bucket}
use Rattle.pos_forward.specs.declared.waiting.Waiting.{Waiting}
use Rattle.pos_forward.specs.Drafts.{draft_pair, draft_entry, entry_of_place, HasDraftBits, IsNextDraft}

-- the left and the right entries of the pairs that wait, and their places
abbrev pub waiting_left : Waiting → List Entry
waiting_left w = take w.count w.left

abbrev pub waiting_right : Waiting → List Entry
waiting_right w = take w.count w.right

abbrev pub waiting_pairs : Waiting → List (ℕ × ℕ)
waiting_pairs w = take w.count w.pairs

-- there is room for eight pairs
pub record HasEight (w : Waiting) : Type 0 where
  pub lefts : length w.left ≡ 8
  pub rights : length w.right ≡ 8
  pub places : length w.pairs ≡ 8

-- the entries of the pairs that wait are of table t - 1
pub record AreOfTable (k t : ℕ) (w : Waiting) : Type 0 where
  pub left : All (IsEntry k (t - 1)) (waiting_left w)
  pub right : All (IsEntry k (t - 1)) (waiting_right w)

-- fewer than eight pairs of entries of table t - 1 wait
pub record IsFew (k t : ℕ) (w : Waiting) : Type 0 where
  pub few : w.count < 8
  pub room : HasEight w
  pub fit : AreOfTable k t w

-- one pair more waits
pub record HasOnePairMore (l r : Entry) (p : ℕ × ℕ) (old new : Waiting) : Type 0 where
  pub count : new.count ≡ old.count + 1
  pub room : HasEight new
  pub left : waiting_left new ≡ waiting_left old ++ l ∷ []
  pub right : waiting_right new ≡ waiting_right old ++ r ∷ []
  pub pairs : waiting_pairs new ≡ waiting_pairs old ++ p ∷ []

-- the entries of the pairs that wait
abbrev pub waiting_entries : ℕ → ℕ → Waiting → List Entry
waiting_entries k t w = zip2 (next_entry k t) (waiting_left w) (waiting_right w)

-- behind the drafts others were made, with these entries and these places
pub record HasMade (k t : ℕ) (es : List Entry) (ps : List (ℕ × ℕ)) (old new : List Draft) : Type 0 where
  pub piece : List Draft
  pub is : new ≡ old ++ piece
  pub entries : map (draft_entry k t) piece ≡ es
  pub pairs : map draft_pair piece ≡ ps
  pub fit : All (HasDraftBits k t) piece

-- the pairs that waited are made: no pair waits
pub record AreAllMade (k t : ℕ) (old new : Waiting) (drafts after : List Draft) : Type 0 where
  pub made : HasMade k t (waiting_entries k t old) (waiting_pairs old) drafts after
  pub none : new.count ≡ 0
  pub room : HasEight new

-- the pairs that wait have the entries of their places
pub record IsWaiting (es : List Entry) (w : Waiting) : Type 0 where
  pub left : waiting_left w ≡ map (λ p. entry_of_place es p.0) (waiting_pairs w)
  pub right : waiting_right w ≡ map (λ p. entry_of_place es p.1) (waiting_pairs w)

-- these pairs, in this order, are those of the drafts and then those that wait; the drafts are made by eights
pub record AreMadeOrWait (k t : ℕ) (es : List Entry) (pairs : List (ℕ × ℕ)) (w : Waiting) (drafts : List Draft) : Type 0 where
  pub waiting : IsWaiting es w
  pub pairs_are : map draft_pair drafts ++ waiting_pairs w ≡ pairs
  pub made : All (IsNextDraft k t es) drafts
  pub eights : length drafts % 8 ≡ 0

-- a bucket's entries stand in es from its first place on
abbrev pub StandsIn : List Entry → Bucket → Type 0
StandsIn es b = (i : ℕ) → i < length b.entries.items → entry_of_place es (b.first + i) ≡ entry_of_place b.entries.items i

-- a pair of places in two buckets as places of the table, where the buckets begin at a and b
abbrev pub shifted : ℕ → ℕ → ℕ × ℕ → ℕ × ℕ
shifted a b p = (a + p.0, b + p.1)

-- a bucket with no entries
pub record IsEmptyBucket (first next : ℕ) (b : Bucket) : Type 0 where
  pub next_is : b.next ≡ next
  pub first_is : b.first ≡ first
  pub ys : b.ys.items ≡ []
  pub entries : b.entries.items ≡ []

-- a bucket with one entry more
pub record HasOneEntryMore (e : Entry) (old new : Bucket) : Type 0 where
  pub next_is : new.next ≡ old.next
  pub first_is : new.first ≡ old.first
  pub ys : new.ys.items ≡ old.ys.items ++ e.y ∷ []
  pub entries : new.entries.items ≡ old.entries.items ++ e ∷ []
