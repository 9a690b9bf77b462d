-- What is proved of used places: marks that go down table by table are on exactly the used places.
use Rattle.std.specs.Prelude.{◌≡◌, ℕ, suc, ◌≤◌, ◌<◌, ◌↔◌, Bool, true, false}
use Rattle.pos_lists.specs.Places.{no_place, with_place}
use Rattle.pos_lists.specs.TableLists.{TableLists, entries, left_of, right_of, PairsInside}
use Rattle.pos_lists.specs.Used.{IsUsed, MarksUsed, NamedBelow, MarksNamed}

-- where the pairs point into the level below, used places are places
abbrev pub UsedIsInside : Type 0
UsedIsInside = (ts : TableLists) (n i : ℕ) → n ≤ 6 → PairsInside ts 6 → IsUsed ts n i → i < entries ts n

-- the used places of a level are those that the used places of the next level are made of
abbrev pub MarkedByTheNextTable : Type 0
MarkedByTheNextTable = (ts : TableLists) (n : ℕ) (upper lower : ℕ → Bool) → n < 6 → PairsInside ts 6 →
    MarksUsed ts (suc n) upper → MarksNamed ts n upper lower → MarksUsed ts n lower

-- so marks on all of level 6, and then on what is marked above, are on exactly the used places of each level
abbrev pub PrunedByTables : Type 0
PrunedByTables = (ts : TableLists) (marks : ℕ → ℕ → Bool) → PairsInside ts 6 →
    ((i : ℕ) → (marks 6 i ≡ true) ↔ (i < entries ts 6)) →
    ((n : ℕ) → n < 6 → MarksNamed ts n (marks (suc n)) (marks n)) →
    (n : ℕ) → n ≤ 6 → MarksUsed ts n (marks n)

-- before a pass over the pairs nothing is named
abbrev pub NothingIsNamed : Type 0
NothingIsNamed = (ts : TableLists) (n : ℕ) (upper : ℕ → Bool) → NamedBelow ts n upper 0 no_place

-- a place that upper gives adds its two places
abbrev pub APairIsNamed : Type 0
APairIsNamed = (ts : TableLists) (n high : ℕ) (upper lower : ℕ → Bool) → upper high ≡ true → NamedBelow ts n upper high lower →
    NamedBelow ts n upper (suc high) (with_place (right_of ts (suc n) high) (with_place (left_of ts (suc n) high) lower))

-- and one that it does not give adds none
abbrev pub APairIsPassedOver : Type 0
APairIsPassedOver = (ts : TableLists) (n high : ℕ) (upper lower : ℕ → Bool) → upper high ≡ false →
    NamedBelow ts n upper high lower → NamedBelow ts n upper (suc high) lower
