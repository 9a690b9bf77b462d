-- What is proved of making tables: done table by table it describes the id, and the count of a table's
-- entries is the count of tuples with a node.
use Rattle.std.specs.Prelude.{◌≡◌, ℕ, suc, ◌+◌, ◌≤◌, ◌<◌, List, length, map}
use Rattle.pos_tuple.specs.declared.entry.Entry.{Entry}
use Rattle.pos_laws.specs.Tables.{Describes}
use Rattle.pos_lists.specs.TableLists.{TableLists, pairs_of, entries, with_level}
use Rattle.pos_lists.specs.Sound.{IsSound, IsWithin}
use Rattle.pos_laws.specs.Making.{AreNodes, NeverFalls, IsFirstTable, AreMatching, IsNextTable, AreMade, IsAbove, IsFull}

-- the entries of all values are those of level 0
abbrev pub FirstTableIsRight : Type 0
FirstTableIsRight = (ts : TableLists) (id : List ℕ) (k : ℕ) (es : List Entry) →
    IsFirstTable id k ts.values es → AreNodes ts id k 0 es

-- the entries of all matching pairs of a level are those of the next
abbrev pub NextTableIsRight : Type 0
NextTableIsRight = (ts : TableLists) (id : List ℕ) (k n : ℕ) (below es : List Entry) →
    AreNodes ts id k n below → IsNextTable k n below (pairs_of ts (suc n)) es → AreNodes ts id k (suc n) es

-- a run that has the first table, in the order of y, has made level 0
abbrev pub FirstTableIsMade : Type 0
FirstTableIsMade = (ts : TableLists) (id : List ℕ) (k : ℕ) (es : List Entry) →
    IsFirstTable id k ts.values es → NeverFalls es → AreMade ts id k 0

-- a run that has made the levels up to n and adds the next table, in the order of y, has made level n + 1
abbrev pub NextTableIsMade : Type 0
NextTableIsMade = (ts : TableLists) (id : List ℕ) (k n : ℕ) (below : List Entry) (ps : List (ℕ × ℕ)) (es : List Entry) →
    length ts.pairs ≡ n → AreMade ts id k n → AreNodes ts id k n below →
    IsNextTable k n below ps es → NeverFalls es →
    AreMade (with_level ts ps) id k (suc n) × AreNodes (with_level ts ps) id k (suc n) es

-- tables that are made up to level 6 are, with the y of its entries as the last list, those of the id
abbrev pub MadeTablesDescribe : Type 0
MadeTablesDescribe = (ts : TableLists) (id : List ℕ) (k : ℕ) (es : List Entry) (last : List ℕ) →
    length ts.pairs ≡ 6 → AreMade ts id k 6 → AreNodes ts id k 6 es → last ≡ map (λ e. e.y) es →
    Describes (record ts { last = last }) id k

-- a level with at most c entries has no more than c tuples with a node
abbrev pub NoneIsAbove : Type 0
NoneIsAbove = (ts : TableLists) (id : List ℕ) (k n c : ℕ) (es : List Entry) →
    AreNodes ts id k n es → length es ≤ c → IsAbove id k n c → ⊥

-- and one with more than c entries has more than c tuples with a node
abbrev pub EntriesAreAbove : Type 0
EntriesAreAbove = (ts : TableLists) (id : List ℕ) (k n c : ℕ) (es : List Entry) →
    AreNodes ts id k n es → c < length es → IsAbove id k n c

-- more than c different matching pairs of a level are more than c tuples with a node at the next
abbrev pub PairsAreAbove : Type 0
PairsAreAbove = (ts : TableLists) (id : List ℕ) (k n c : ℕ) (below : List Entry) (pairs : List (ℕ × ℕ)) →
    AreNodes ts id k n below → AreMatching below pairs → c < length pairs → IsAbove id k (suc n) c

-- the tables of an id are sound
abbrev pub DescribedIsSound : Type 0
DescribedIsSound = (ts : TableLists) (id : List ℕ) (k : ℕ) → Describes ts id k → IsSound ts k

-- where no level from 1 to n has more than c entries, and the next has more than c matching pairs, the next table is the
-- first that is full
abbrev pub MorePairsAreFull : Type 0
MorePairsAreFull = (ts : TableLists) (id : List ℕ) (k n c : ℕ) (below : List Entry) (pairs : List (ℕ × ℕ)) → n < 6 →
    AreMade ts id k n → ((m : ℕ) → 0 < m → m ≤ n → entries ts m ≤ c) →
    AreNodes ts id k n below → AreMatching below pairs → c < length pairs → IsFull id k c (n + 2)

-- and where all levels have at most c entries no table is full
abbrev pub NoneIsFull : Type 0
NoneIsFull = (ts : TableLists) (id : List ℕ) (k c t : ℕ) → AreMade ts id k 6 → IsWithin c ts → IsFull id k c t → ⊥

-- at most one table is the first that is full
abbrev pub OneIsFull : Type 0
OneIsFull = (id : List ℕ) (k c s t : ℕ) → IsFull id k c s → IsFull id k c t → s ≡ t
