-- What is proved of renumbering: the order of line points and a count of marks give each used place one new place.
use Rattle.std.specs.Prelude.{◌≡◌, ◌≢◌, ℕ, suc, ◌+◌, ◌^◌, ◌<◌, Bool, List, length, slice_index, AllPairs}
use Rattle.std.specs.List.Sorted.{IsPermutation}
use Rattle.pos_laws.specs.Tables.{Describes}
use Rattle.pos_lists.specs.TableLists.{TableLists, entries, left_of, right_of, PairsInside}
use Rattle.pos_lists.specs.Used.{IsUsed, MarksUsed}
use Rattle.pos_lists.specs.Rank.{rank, new_place}
use Rattle.pos_lists.specs.Numbering.{AreGathered, AreNumbered}
use Rattle.pos_laws.specs.Renumbering.{point_at, last_at, IsRenumbered, IsNumbered, firsts, IsOneToOne, IsLastTable}

-- the work on one level renumbers it, and each used place's rank is there
abbrev pub NumberedIsRenumbered : Type 0
NumberedIsRenumbered = (ts : TableLists) (n : ℕ) (old : ℕ → ℕ) (pointed moved : List (ℕ × ℕ)) (p : ℕ → Bool) →
    IsNumbered ts n old pointed moved → MarksUsed ts (suc n) p →
    IsRenumbered ts n old (new_place p moved) (firsts pointed)
    × ((i : ℕ) → IsUsed ts (suc n) i → rank p i < length moved)

-- and gives different used places different new ones, whatever the tables are
abbrev pub NumberedIsApart : Type 0
NumberedIsApart = (ts : TableLists) (n : ℕ) (old : ℕ → ℕ) (pointed moved : List (ℕ × ℕ)) (p : ℕ → Bool) →
    IsNumbered ts n old pointed moved → MarksUsed ts (suc n) p → IsOneToOne ts (suc n) (new_place p moved)

-- the same work with the new numbers by old place: over marks of the used places, what is gathered of a level and numbered
-- renumbers it, and gives different used places different new ones
abbrev pub GatheredIsRenumbered : Type 0
GatheredIsRenumbered = (ts : TableLists) (n : ℕ) (old : ℕ → ℕ) (gathered pointed : List (ℕ × ℕ)) (places : List ℕ) (p : ℕ → Bool) →
    n < 6 → PairsInside ts 6 → MarksUsed ts (suc n) p →
    AreGathered p (point_at ts n old) (entries ts (suc n)) gathered → AreNumbered gathered pointed places →
    IsRenumbered ts n old (slice_index places) (firsts pointed) × IsOneToOne ts (suc n) (slice_index places)

-- over the tables of an id the values of level 0 are apart
abbrev pub ValuesAreApart : Type 0
ValuesAreApart = (ts : TableLists) (id : List ℕ) (k : ℕ) → Describes ts id k → IsOneToOne ts 0 (slice_index ts.values)

-- over the tables of an id the two new places of a used pair differ
abbrev pub PairsDiffer : Type 0
PairsDiffer = (ts : TableLists) (id : List ℕ) (k n : ℕ) (old : ℕ → ℕ) (i : ℕ) → Describes ts id k → n < 6 →
    IsOneToOne ts n old → IsUsed ts (suc n) i → old (left_of ts (suc n) i) ≢ old (right_of ts (suc n) i)

-- and so do the points of two used pairs
abbrev pub PointsDiffer : Type 0
PointsDiffer = (ts : TableLists) (id : List ℕ) (k n : ℕ) (old : ℕ → ℕ) (i j : ℕ) → Describes ts id k → n < 6 →
    IsOneToOne ts n old → IsUsed ts (suc n) i → IsUsed ts (suc n) j → i ≢ j → point_at ts n old i ≢ point_at ts n old j

-- so a renumbering over places that are apart gives places that are apart
abbrev pub RenumberedIsApart : Type 0
RenumberedIsApart = (ts : TableLists) (id : List ℕ) (k n : ℕ) (old new : ℕ → ℕ) (points : List ℕ) →
    Describes ts id k → n < 6 → IsOneToOne ts n old → IsRenumbered ts n old new points → IsOneToOne ts (suc n) new

-- where level 6 has at most 2 ^ (k + 1) new places, the numbers of table 7 differ
abbrev pub LastNumbersDiffer : Type 0
LastNumbersDiffer = (ts : TableLists) (k : ℕ) (new : ℕ → ℕ) (i j : ℕ) → IsOneToOne ts 6 new →
    i < entries ts 6 → j < entries ts 6 → new i < 2 ^ (k + 1) → new j < 2 ^ (k + 1) → i ≢ j →
    last_at ts k new i ≢ last_at ts k new j

-- what has, by place, the number of each place of level 6 is table 7 once it is sorted, where the numbers then rise
abbrev pub SortedIsLastTable : Type 0
SortedIsLastTable = (ts : TableLists) (k : ℕ) (new : ℕ → ℕ) (by_place lasts : List ℕ) → length by_place ≡ entries ts 6 →
    ((i : ℕ) → i < entries ts 6 → slice_index by_place i ≡ last_at ts k new i) →
    IsPermutation by_place lasts → AllPairs ◌<◌ lasts → IsLastTable ts k new lasts
