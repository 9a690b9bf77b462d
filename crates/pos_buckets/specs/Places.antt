-- The places of one bucket: which have a value, and where in a rising list the first value of a place stands.
use Rattle.std.specs.Prelude.{◌≡◌, ℕ, ◌+◌, ◌-◌, ◌<◌, ◌≤◌, List, length, slice_index}
use Rattle.pos_buckets.specs.declared.places.Places.{Places}

-- there is room for the 15113 places of a bucket
pub record HasPlaces (marks firsts : List ℕ) : Type 0 where
  pub marks_count : length marks ≡ 15113
  pub firsts_count : length firsts ≡ 15113

-- a mark for each place, which is 0 or 1
pub record AreFlags (marks : List ℕ) : Type 0 where
  pub count : length marks ≡ 15113
  pub at : (r : ℕ) → r < 15113 → slice_index marks r ≤ 1

-- no place is marked
pub record AreClear (marks firsts : List ℕ) : Type 0 where
  pub room : HasPlaces marks firsts
  pub none : (r : ℕ) → r < 15113 → slice_index marks r ≡ 0

-- no place has a value
abbrev pub IsClear : Places → Type 0
IsClear p = AreClear p.marks.items p.firsts.items

-- these values are in the bucket that begins at base
abbrev pub AreInside : ℕ → List ℕ → Type 0
AreInside base values = (i : ℕ) → i < length values →
    (base ≤ slice_index values i) × (slice_index values i < base + 15113)

-- exactly the places of the first n values are marked, and each that is marked has the index of the first value there
pub record AreMarked (base : ℕ) (values : List ℕ) (n : ℕ) (marks firsts : List ℕ) : Type 0 where
  pub room : HasPlaces marks firsts
  pub first : (r : ℕ) → r < 15113 → 0 < slice_index marks r →
      (slice_index firsts r < n) × (slice_index values (slice_index firsts r) ≡ base + r)
  pub least : (r i : ℕ) → r < 15113 → 0 < slice_index marks r → i < slice_index firsts r →
      slice_index values i < base + r
  pub marked : (i : ℕ) → i < n → 0 < slice_index marks (slice_index values i - base)
  pub flags : AreFlags marks

-- the same of all values
abbrev pub IsMarked : ℕ → List ℕ → Places → Type 0
IsMarked base values p = AreMarked base values (length values) p.marks.items p.firsts.items

-- the marks that are left have their first value at n or behind
pub record AreLeftFrom (base : ℕ) (values : List ℕ) (n : ℕ) (marks firsts : List ℕ) : Type 0 where
  pub room : HasPlaces marks firsts
  pub first : (r : ℕ) → r < 15113 → 0 < slice_index marks r →
      (n ≤ slice_index firsts r) × (slice_index firsts r < length values)
      × (slice_index values (slice_index firsts r) ≡ base + r)
