-- Which places of the tables are used: those that a place of level 6 is made of, at any depth.
-- Source: the Construction document, "back propagation". Levels count from 0 to 6, places from 0.
use Rattle.std.specs.Prelude.{◌≡◌, ℕ, zero, suc, ◌-◌, ◌<◌, ◌⊎◌, ◌↔◌, Bool, true}
use Rattle.pos_lists.specs.TableLists.{TableLists, entries, left_of, right_of}

-- place j of level n + 1 names place i of level n: it is one of the two places that j is made of
abbrev pub Names : TableLists → ℕ → ℕ → ℕ → Type 0
Names ts n j i = (i ≡ left_of ts (suc n) j) ⊎ (i ≡ right_of ts (suc n) j)

-- place i of level n is reached from level n + d: at that level each place is, and further down each of
-- the two places that a reached place of the level above is made of
unfoldable pub IsReached : TableLists → ℕ → ℕ → ℕ → Type 0
IsReached ts zero n i = i < entries ts n
IsReached ts (suc d) n i = (j : ℕ) × IsReached ts d (suc n) j × Names ts n j i

-- place i of level n, from 0 to 6, is reached from level 6
abbrev pub IsUsed : TableLists → ℕ → ℕ → Type 0
IsUsed ts n i = IsReached ts (6 - n) n i

-- the test p gives exactly the used places of level n
abbrev pub MarksUsed : TableLists → ℕ → (ℕ → Bool) → Type 0
MarksUsed ts n p = (i : ℕ) → (p i ≡ true) ↔ IsUsed ts n i

-- the test lower gives exactly the places of level n that are named by those places of level n + 1 below high which upper
-- gives: what is marked below while a pass goes up one table
abbrev pub NamedBelow : TableLists → ℕ → (ℕ → Bool) → ℕ → (ℕ → Bool) → Type 0
NamedBelow ts n upper high lower =
    (i : ℕ) → (lower i ≡ true) ↔ ((j : ℕ) × (j < high) × (upper j ≡ true) × Names ts n j i)

-- and so of all places of level n + 1
abbrev pub MarksNamed : TableLists → ℕ → (ℕ → Bool) → (ℕ → Bool) → Type 0
MarksNamed ts n upper lower = NamedBelow ts n upper (entries ts (suc n)) lower
