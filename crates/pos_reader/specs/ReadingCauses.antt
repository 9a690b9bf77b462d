-- When reading an open file finds each damage: one row for each test, by what the tests before it found right and what it
-- found wrong.
-- Source: this project's plot file format. Offsets and lengths are in bytes, tables count from 1 to 7, parks and places from 0.
use Rattle.std.specs.Prelude.{◌≡◌, ◌≢◌, ℕ, ◌+◌, ◌-◌, ◌/◌, ◌%◌, ◌≤◌, ◌⊎◌, false, List, length, take, slice_index}
use Rattle.sha2.specs.Sha256.{sha256}
use Rattle.pos_rice.specs.Park.{Park}
use Rattle.pos_lists.specs.PlotLists.{f7_in}
use Rattle.pos_layout.specs.declared.header.Header.{Header}
use Rattle.pos_layout.specs.declared.entry.ParkEntry.{ParkEntry}
use Rattle.pos_layout.specs.declared.damage.Damage.{Damage}
use Rattle.pos_layout.specs.declared.damage.Damage.TheVariants.{Directory, Digest, Form as WrongForm, Pointer}
use Rattle.pos_layout.specs.declared.layout.Layout.{Layout}
use Rattle.pos_layout.specs.Layouts.{full_of, digest_of, longest_park, park_count}
use Rattle.pos_layout.specs.Lists.{points_inside}
use Rattle.pos_layout.specs.Fields.{header_in, count_of, directory_of, end_of, entry_in, park_in}

-- an entry can be that of a park of table t
pub record IsListed (l : Layout) (h : Header) (t park : ℕ) (e : ParkEntry) : Type 0 where
  pub some : 1 ≤ e.park_length
  pub short : e.park_length ≤ longest_park l h.size
  pub after : end_of l h (t - 1) ≤ e.offset
  pub inside : e.offset + e.park_length ≤ directory_of h t
  pub count : e.count ≡ park_count l (count_of h t) park
  pub head : t ≢ 7 → e.head ≡ 0

-- the park's bytes have the digest that its entry says
abbrev pub IsDigested : Layout → List ℕ → ParkEntry → Type 0
IsDigested l b e = take (digest_of l) (sha256 (park_in b e)) ≡ e.digest

-- and are the park of these numbers, so many as the entry says
pub record HoldsPark (l : Layout) (b : List ℕ) (t park : ℕ) (ns : List ℕ) : Type 0 where
  pub listed : IsListed l (header_in b) t park (entry_in l b t park)
  pub digested : IsDigested l b (entry_in l b t park)
  pub count : length ns ≡ (entry_in l b t park).count
  pub are : Park (header_in b).size ns (park_in b (entry_in l b t park))

-- what has to be wrong for the entry of a park of table t to be refused with this damage
abbrev pub EntryCause : Layout → List ℕ → ℕ → ℕ → Damage → Type 0
EntryCause l b t park (Directory u q) =
    (u ≡ t) × (q ≡ park) × (¬ IsListed l (header_in b) t park (entry_in l b t park))
EntryCause l b t park _ = ⊥

-- the park itself,
abbrev pub ParkCause : Layout → List ℕ → ℕ → ℕ → Damage → Type 0
ParkCause l b t park (Directory u q) =
    (u ≡ t) × (q ≡ park)
    × ((¬ IsListed l (header_in b) t park (entry_in l b t park))
    ⊎ ((t ≡ 7) × ((ns : List ℕ) × HoldsPark l b t park ns
    × ((entry_in l b t park).head ≢ f7_in (header_in b).size (slice_index ns 0)))))
ParkCause l b t park (Digest u q) =
    (u ≡ t) × (q ≡ park) × IsListed l (header_in b) t park (entry_in l b t park)
    × (¬ IsDigested l b (entry_in l b t park))
ParkCause l b t park (WrongForm u q) =
    (u ≡ t) × (q ≡ park) × IsListed l (header_in b) t park (entry_in l b t park)
    × IsDigested l b (entry_in l b t park)
    × ((ns : List ℕ) → length ns ≡ (entry_in l b t park).count → Park (header_in b).size ns (park_in b (entry_in l b t park)) → ⊥)
ParkCause l b t park _ = ⊥

-- the park holds these numbers, and in table 7 its head is the f7 of the first
pub record ReadsAs (l : Layout) (b : List ℕ) (t park : ℕ) (ns : List ℕ) : Type 0 where
  pub holds : HoldsPark l b t park ns
  pub head : t ≡ 7 → (entry_in l b t park).head ≡ f7_in (header_in b).size (slice_index ns 0)

-- or number i of table t
abbrev pub NumberCause : Layout → List ℕ → ℕ → ℕ → Damage → Type 0
NumberCause l b t i (Pointer u at) =
    (u ≡ t) × (at ≡ i)
    × ((ns : List ℕ) × ReadsAs l b t (i / full_of l) ns
    × (points_inside (header_in b).size t (count_of (header_in b) (t - 1)) (slice_index ns (i % full_of l)) ≡ false))
NumberCause l b t i d = ParkCause l b t (i / full_of l) d
