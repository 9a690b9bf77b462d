-- The entries taken so far: what holds of the two buckets, and the steps of a matcher.
use Rattle.std.proofs.Common.{◌≡◌, ◌≢◌, ℕ, ◌+◌, ◌-◌, ◌/◌, ◌^◌, ◌<◌, ◌≤◌, List, [], ◌∷◌, ◌++◌, length, map, get_or, arith, sym, ap, ap₂, subst, ◌∙◌, length-append, length-take-le, append_assoc, append-nil, ⊎_elim}
use Rattle.std.specs.List.{All}
use Rattle.std.specs.List.Sorted.{IsNonDecreasing}
use Rattle.std.proofs.lemmas.Bool.{cases_eq, cases_lt}
use Rattle.std.proofs.lemmas.List.{length-map, get_or-map, map_push, length_push}
use Rattle.std.proofs.lemmas.List.Elements.{All-push, All-append, All-get_or, All-weaker}
use Rattle.std.proofs.lemmas.List.Quantifiers.{all_pairs_push}
use Rattle.pos_tuple.specs.declared.entry.Entry.{Entry}
use Rattle.pos_tuple.specs.Match.{bucket}
use Rattle.pos_tuple.specs.Node.{IsEntry}
use Rattle.pos_buckets.specs.Pairs.{IsPair, ArePairs, AreNeighbours}
use Rattle.pos_forward.specs.declared.drafts.Draft.{Draft}
use Rattle.pos_forward.specs.declared.buckets.Bucket.{Bucket}
use Rattle.pos_forward.specs.declared.waiting.Waiting.{Waiting}
use Rattle.pos_forward.specs.declared.matcher.Matcher.{Matcher}
use Rattle.pos_forward.specs.Drafts.{draft_pair, entry_of_place}
use Rattle.pos_forward.specs.Tables.{ys_of, ArePairsTo}
use Rattle.pos_forward.specs.Waiting.{IsFew, AreMadeOrWait, StandsIn, shifted, waiting_pairs, IsEmptyBucket, HasOneEntryMore}
use Rattle.pos_forward.specs.Matched.{AreTaken, HasPairsTo, IsMatched, IsOverfull}
use Rattle.pos_forward.proofs.ListLemmas.{All-left, All-right}
use Rattle.pos_forward.proofs.TableLemmas.{no_entry, length-ys}
use Rattle.pos_forward.proofs.BucketLemmas.{at-bucket, at-behind, length-parts, pairs-skip, pairs-join}
use Rattle.pos_forward.proofs.PairsLemmas.{pairs-grow, pairs-overfull}
use Rattle.pos_forward.proofs.GatherLemmas.{gathered-wider}
use Rattle.pos_forward.proofs.ReadyLemmas.{empty-bucket}

module _ (k t : ℕ) (es before : List Entry) (left right : Bucket) (h : AreTaken k t es before left right) where
  pub taken-count : length es ≡ length before + length left.entries.items + length right.entries.items
  taken-count = ap length h.split ∙ length-parts before left.entries.items right.entries.items

  -- the right bucket ends where the entries do
  pub right-end : right.first + length right.entries.items ≡ length es
  right-end = omega (arith, taken-count, h.right_first)

  all-entries : All (IsEntry k (t - 1)) (before ++ (left.entries.items ++ right.entries.items))
  all-entries = subst (All (IsEntry k (t - 1))) h.split h.entries

  pub left-entries : All (IsEntry k (t - 1)) left.entries.items
  left-entries =
      All-left (IsEntry k (t - 1)) left.entries.items right.entries.items
      (All-right (IsEntry k (t - 1)) before (left.entries.items ++ right.entries.items) all-entries)

  pub right-entries : All (IsEntry k (t - 1)) right.entries.items
  right-entries =
      All-right (IsEntry k (t - 1)) left.entries.items right.entries.items
      (All-right (IsEntry k (t - 1)) before (left.entries.items ++ right.entries.items) all-entries)

  pub left-stands : StandsIn es left
  left-stands i lt =
      ap₂ (λ (xs : List Entry) (n : ℕ). entry_of_place xs (n + i)) h.split h.left_first
      ∙ at-bucket before left.entries.items right.entries.items i no_entry lt

  right-at : (i : ℕ) (d : Entry) → get_or es (right.first + i) d ≡ get_or right.entries.items i d
  right-at i d =
      ap₂ (λ (xs : List Entry) (n : ℕ). get_or xs (n + i) d) h.split h.right_first
      ∙ at-behind before left.entries.items right.entries.items i d

  pub right-stands : StandsIn es right
  right-stands i lt = right-at i no_entry

  pub buckets-neighbours : left.next + 1 ≡ right.next → AreNeighbours left.ys.items right.ys.items
  buckets-neighbours next i j i_in j_in =
      let i_lt : i < length left.entries.items = omega (arith, ap length h.left_bucket.ys, length-ys left.entries.items) in
      let j_lt : j < length right.entries.items = omega (arith, ap length h.right_bucket.ys, length-ys right.entries.items) in
      let l_is : get_or left.ys.items i 0 ≡ (get_or left.entries.items i no_entry).y =
      ap (λ (ys : List ℕ). get_or ys i 0) h.left_bucket.ys ∙ get_or-map (λ (e : Entry). e.y) left.entries.items i no_entry 0 i_lt in
      let r_is : get_or right.ys.items j 0 ≡ (get_or right.entries.items j no_entry).y =
      ap (λ (ys : List ℕ). get_or ys j 0) h.right_bucket.ys ∙ get_or-map (λ (e : Entry). e.y) right.entries.items j no_entry 0 j_lt in
      let l_one : bucket (get_or left.entries.items i no_entry).y + 1 ≡ left.next = All-get_or (λ e. bucket e.y + 1 ≡ left.next) left.entries.items i no_entry i_lt h.left_bucket.one in
      let r_one : bucket (get_or right.entries.items j no_entry).y + 1 ≡ right.next = All-get_or (λ e. bucket e.y + 1 ≡ right.next) right.entries.items j no_entry j_lt h.right_bucket.one in
      let l_b : bucket (get_or left.ys.items i 0) ≡ bucket (get_or left.entries.items i no_entry).y = ap bucket l_is in
      let r_b : bucket (get_or right.ys.items j 0) ≡ bucket (get_or right.entries.items j no_entry).y = ap bucket r_is in
      omega (arith, l_one, r_one, l_b, r_b, next)

  right-y : (i d : ℕ) → i < length right.entries.items → get_or right.ys.items i d ≡ (get_or es (right.first + i) no_entry).y
  right-y i d lt =
      ap (λ (ys : List ℕ). get_or ys i d) h.right_bucket.ys ∙ get_or-map (λ (e : Entry). e.y) right.entries.items i no_entry d lt
      ∙ ap (λ (e : Entry). e.y) (sym (right-at i no_entry))

  pub right-rises : IsNonDecreasing right.ys.items
  right-rises i j d le inside =
      let j_lt : j < length right.entries.items = omega (arith, ap length h.right_bucket.ys, length-ys right.entries.items) in
      let i_lt : i < length right.entries.items = omega arith in
      ⊎_elim (λ (same : i ≡ j). let e : get_or right.ys.items i d ≡ get_or right.ys.items j d = ap (λ n. get_or right.ys.items n d) same in omega arith)
      (λ (other : i ≢ j).
      let up : (get_or es (right.first + i) no_entry).y ≤ (get_or es (right.first + j) no_entry).y =
      h.rise (right.first + i) (right.first + j) no_entry (omega arith) (omega (arith, taken-count, h.right_first)) in
      omega (arith, up, right-y i d i_lt, right-y j d j_lt))
      (cases_eq i j)

  -- buckets that are no neighbours have no pairs, and the others those that are listed
  pub join-none :
      (done : List (ℕ × ℕ)) → left.next + 1 ≢ right.next → ArePairsTo es right.first done → ArePairsTo es (length es) done
  join-none done apart p =
      let l = left.entries.items in
      let r = right.entries.items in
      subst (λ (xs : List Entry). ArePairsTo xs (length xs) done) (sym h.split)
      (pairs-skip before l r left.next right.next h.left_bucket.one h.right_bucket.one h.earlier done apart
      (subst (λ (xs : List Entry). ArePairsTo xs (length before + length l) done) h.split
      (subst (λ (n : ℕ). ArePairsTo es n done) h.right_first p)))

  pub join-pairs :
      (done local : List (ℕ × ℕ)) → ArePairsTo es right.first done → ArePairs left.ys.items right.ys.items local
      → ArePairsTo es (length es) (done ++ map (shifted left.first right.first) local)
  join-pairs done local p pairs =
      let l = left.entries.items in
      let r = right.entries.items in
      let two : ArePairs (ys_of l) (ys_of r) local =
      subst (λ (a : List ℕ). ArePairs a (ys_of r) local) h.left_bucket.ys (subst (λ (b : List ℕ). ArePairs left.ys.items b local) h.right_bucket.ys pairs) in
      let joined : ArePairsTo es (length es) (done ++ map (shifted (length before) (length before + length l)) local) =
      subst (λ (xs : List Entry). ArePairsTo xs (length xs) (done ++ map (shifted (length before) (length before + length l)) local)) (sym h.split)
      (pairs-join before l r left.next right.next h.left_bucket.one h.right_bucket.one h.earlier done local
      (subst (λ (xs : List Entry). ArePairsTo xs (length before + length l) done) h.split
      (subst (λ (n : ℕ). ArePairsTo es n done) h.right_first p)) two) in
      subst (λ (a : ℕ). ArePairsTo es (length es) (done ++ map (shifted a right.first) local)) (sym h.left_first)
      (subst (λ (b : ℕ). ArePairsTo es (length es) (done ++ map (shifted (length before) b) local)) (sym h.right_first) joined)

  pub pairs-inside :
      (local : List (ℕ × ℕ)) → ArePairs left.ys.items right.ys.items local
      → All (λ p. (p.0 < length left.entries.items) × (p.1 < length right.entries.items)) local
  pairs-inside local pairs =
      All-weaker (IsPair left.ys.items right.ys.items) (λ p. (p.0 < length left.entries.items) × (p.1 < length right.entries.items))
      (λ p is. (omega (arith, is.left_in, ap length h.left_bucket.ys, length-ys left.entries.items), omega (arith, is.right_in, ap length h.right_bucket.ys, length-ys right.entries.items)))
      local pairs.each

  all-below : All (λ e. bucket e.y + 1 ≤ right.next) es
  all-below =
      subst (All (λ e. bucket e.y + 1 ≤ right.next)) (sym h.split)
      (subst (All (λ e. bucket e.y + 1 ≤ right.next)) (append_assoc before left.entries.items right.entries.items)
      (All-append (λ e. bucket e.y + 1 ≤ right.next) (before ++ left.entries.items) right.entries.items
      (All-weaker (λ e. bucket e.y + 1 < right.next) (λ e. bucket e.y + 1 ≤ right.next) (λ e lt. omega (arith, lt)) (before ++ left.entries.items) h.below)
      (All-weaker (λ e. bucket e.y + 1 ≡ right.next) (λ e. bucket e.y + 1 ≤ right.next) (λ e same. omega (arith, same)) right.entries.items h.right_bucket.one)))

  -- the right bucket becomes the left one, and the right one is empty
  pub move-on :
      (empty : Bucket) (next : ℕ) → IsEmptyBucket (right.first + length right.entries.items) next empty → right.next < next → next < 2 ^ 60
      → AreTaken k t es (before ++ left.entries.items) right empty
  move-on empty next new up small = record {
    split =
        h.split ∙ sym (append_assoc before left.entries.items right.entries.items)
        ∙ ap (λ (xs : List Entry). (before ++ left.entries.items) ++ xs) (sym (append-nil right.entries.items) ∙ ap (λ (xs : List Entry). right.entries.items ++ xs) (sym new.entries));
    left_first = h.right_first ∙ sym (length-append before left.entries.items);
    right_first =
        new.first_is ∙ ap (λ n. n + length right.entries.items) (h.right_first ∙ sym (length-append before left.entries.items));
    left_bucket = h.right_bucket;
    right_bucket = empty-bucket (right.first + length right.entries.items) next empty new small;
    earlier =
        All-weaker (λ e. bucket e.y + 1 < right.next) (λ e. (bucket e.y + 1 < right.next) × (right.next < empty.next))
        (λ e lt. (lt, omega (arith, new.next_is))) (before ++ left.entries.items) h.below;
    below =
        subst (All (λ e. bucket e.y + 1 < empty.next)) (h.split ∙ sym (append_assoc before left.entries.items right.entries.items))
        (All-weaker (λ e. bucket e.y + 1 ≤ right.next) (λ e. bucket e.y + 1 < empty.next) (λ e le. omega (arith, le, new.next_is)) es all-below);
    entries = h.entries;
    rise = h.rise;
  }

  -- one entry more in the right bucket
  pub take-one :
      (e : Entry) (more : Bucket) → HasOneEntryMore e right more → IsEntry k (t - 1) e → All (λ b. b.y ≤ e.y) es → bucket e.y + 1 ≡ right.next
      → AreTaken k t (es ++ e ∷ []) before left more
  take-one e more new entry rise_e one = record {
    split =
        ap (λ (xs : List Entry). xs ++ e ∷ []) h.split
        ∙ append_assoc before (left.entries.items ++ right.entries.items) (e ∷ [])
        ∙ ap (λ (xs : List Entry). before ++ xs) (append_assoc left.entries.items right.entries.items (e ∷ []) ∙ ap (λ (xs : List Entry). left.entries.items ++ xs) (sym new.entries));
    left_first = h.left_first;
    right_first = new.first_is ∙ h.right_first;
    left_bucket = h.left_bucket;
    right_bucket = record {
      ys =
          new.ys ∙ ap (λ (ys : List ℕ). ys ++ e.y ∷ []) h.right_bucket.ys
          ∙ sym (ap ys_of new.entries ∙ map_push (λ (b : Entry). b.y) right.entries.items e);
      one =
          subst (All (λ b. bucket b.y + 1 ≡ more.next)) (sym new.entries)
          (All-push (λ b. bucket b.y + 1 ≡ more.next) right.entries.items e
          (All-weaker (λ b. bucket b.y + 1 ≡ right.next) (λ b. bucket b.y + 1 ≡ more.next) (λ b same. same ∙ sym new.next_is) right.entries.items h.right_bucket.one)
          (one ∙ sym new.next_is));
      small = subst (λ (n : ℕ). n < 2 ^ 60) (sym new.next_is) h.right_bucket.small;
    };
    earlier =
        All-weaker (λ b. (bucket b.y + 1 < left.next) × (left.next < right.next)) (λ b. (bucket b.y + 1 < left.next) × (left.next < more.next))
        (λ b p. (p.0, omega (arith, p.1, new.next_is))) before h.earlier;
    below =
        All-weaker (λ b. bucket b.y + 1 < right.next) (λ b. bucket b.y + 1 < more.next) (λ b lt. omega (arith, lt, new.next_is))
        (before ++ left.entries.items) h.below;
    entries = All-push (IsEntry k (t - 1)) es e h.entries entry;
    rise = all_pairs_push (λ a b. a.y ≤ b.y) es e h.rise (λ i d lt. All-get_or (λ b. b.y ≤ e.y) es i d lt rise_e);
  }

-- how many pairs there are
pub length-gathered :
    (k t : ℕ) (es : List Entry) (done : List (ℕ × ℕ)) (w : Waiting) (drafts : List Draft) → IsFew k t w → AreMadeOrWait k t es done w drafts
    → length done ≡ length drafts + w.count
length-gathered k t es done w drafts few h =
    let taken : length (waiting_pairs w) ≡ w.count = length-take-le w.count w.pairs (omega (arith, few.few, few.room.places)) in
    sym (ap length h.pairs_are) ∙ length-append (map draft_pair drafts) (waiting_pairs w)
    ∙ ap₂ (λ (a b : ℕ). a + b) (length-map drafts draft_pair) taken

pub has-overfull :
    (k t c : ℕ) (es : List Entry) (n : ℕ) (m : Matcher) (drafts : List Draft) → HasPairsTo k t es n m drafts
    → c < length drafts + m.waiting.count → IsOverfull c es
has-overfull k t c es n m drafts h lt =
    pairs-overfull es n c h.done h.pairs (omega (arith, length-gathered k t es h.done m.waiting drafts h.few h.gathered))

-- the right bucket of a matcher becomes the left one
pub moved :
    (k t : ℕ) (es : List Entry) (m : Matcher) (drafts : List Draft) (left right : Bucket) (next : ℕ)
    → HasPairsTo k t es (length es) m drafts → left ≡ m.right
    → IsEmptyBucket (m.right.first + length m.right.entries.items) next right → m.right.next < next → next < 2 ^ 60
    → HasPairsTo k t es right.first (record m { left = left; right = right }) drafts
moved k t es m drafts left right next h same empty up small = record {
  before = h.before ++ m.left.entries.items;
  taken =
      subst (λ (b : Bucket). AreTaken k t es (h.before ++ m.left.entries.items) b right) (sym same)
      (move-on k t es h.before m.left m.right h.taken right next empty up small);
  clear = h.clear;
  few = h.few;
  done = h.done;
  pairs =
      let n : length es ≡ right.first = omega (arith, taken-count k t es h.before m.left m.right h.taken, empty.first_is, h.taken.right_first) in
      subst (λ (x : ℕ). ArePairsTo es x h.done) n h.pairs;
  gathered = h.gathered;
}

-- a value that is not behind the right bucket is in it
pub same-bucket :
    (k t : ℕ) (es : List Entry) (m : Matcher) (drafts : List Draft) (y : ℕ) → IsMatched k t es m drafts → All (λ e. e.y ≤ y) es
    → bucket y < m.right.next → bucket y + 1 ≡ m.right.next
same-bucket k t es m drafts y h rise lt =
    let r = m.right.entries.items in
    let taken = h.has.taken in
    ⊎_elim
    (λ (some : 0 < length r).
    let one : bucket (get_or r 0 no_entry).y + 1 ≡ m.right.next = All-get_or (λ e. bucket e.y + 1 ≡ m.right.next) r 0 no_entry some taken.right_bucket.one in
    let all : All (λ e. e.y ≤ y) (h.has.before ++ (m.left.entries.items ++ r)) = subst (All (λ e. e.y ≤ y)) taken.split rise in
    let rights : All (λ e. e.y ≤ y) r =
    All-right (λ e. e.y ≤ y) m.left.entries.items r (All-right (λ e. e.y ≤ y) h.has.before (m.left.entries.items ++ r) all) in
    let up : (get_or r 0 no_entry).y ≤ y = All-get_or (λ e. e.y ≤ y) r 0 no_entry some rights in
    let low : (get_or r 0 no_entry).y / 15113 ≤ y / 15113 = omega arith in
    omega (arith, one, low))
    (λ (none : length r ≤ 0). let zero_is : m.right.next ≡ 0 = h.begun (omega arith) in absurd (omega arith))
    (cases_lt 0 (length r))

-- one entry more
pub taken-one :
    (k t : ℕ) (es : List Entry) (e : Entry) (m : Matcher) (more : Bucket) (drafts : List Draft)
    → HasPairsTo k t es m.right.first m drafts → HasOneEntryMore e m.right more → IsEntry k (t - 1) e → All (λ b. b.y ≤ e.y) es
    → bucket e.y + 1 ≡ m.right.next → m.right.next < 2 ^ 59
    → IsMatched k t (es ++ e ∷ []) (record m { right = more }) drafts
taken-one k t es e m more drafts h new entry rise one small = record {
  has = record {
    before = h.before;
    taken = take-one k t es h.before m.left m.right h.taken e more new entry rise one;
    clear = h.clear;
    few = h.few;
    done = h.done;
    pairs =
        subst (λ (n : ℕ). ArePairsTo (es ++ e ∷ []) n h.done) (sym new.first_is)
        (pairs-grow es e m.right.first h.done (omega (arith, taken-count k t es h.before m.left m.right h.taken, h.taken.right_first)) rise h.pairs);
    gathered = gathered-wider k t es (e ∷ []) h.done m.waiting drafts h.pairs.each h.gathered;
  };
  begun = λ none. absurd (omega (arith, ap length new.entries, length_push m.right.entries.items e));
  small = omega (arith, new.next_is);
}

-- with all taken and the right bucket empty, the drafts with those that wait are the next table
pub all-pairs :
    (k t : ℕ) (es : List Entry) (m : Matcher) (drafts : List Draft) (h : HasPairsTo k t es m.right.first m drafts)
    → m.right.entries.items ≡ [] → ArePairsTo es (length es) h.done
all-pairs k t es m drafts h none =
    let n : m.right.first ≡ length es = omega (arith, taken-count k t es h.before m.left m.right h.taken, h.taken.right_first, ap length none) in
    subst (λ (x : ℕ). ArePairsTo es x h.done) n h.pairs
