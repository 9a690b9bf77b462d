-- Where full parks begin and end, by the two layouts: with these no other proof but these divides by how many numbers a park has.
use Rattle.std.proofs.Common.{◌≡◌, ℕ, ◌+◌, ◌-◌, ◌*◌, ◌/◌, ◌<◌, ◌≤◌, arith}
use Rattle.pos_layout.specs.declared.layout.Layout.TheVariants.{One, Two}
use Rattle.pos_layout.specs.declared.layout.Layout.{Layout}
use Rattle.pos_layout.specs.Layouts.{full_of, parks_of}

-- a place is not before its park
pub park_from : (l : Layout) (i : ℕ) → full_of l * (i / full_of l) ≤ i
unfolding full_of
park_from One i = omega arith
park_from Two i = omega arith

-- and before the park behind it
pub park_to : (l : Layout) (i : ℕ) → i < full_of l * (i / full_of l) + full_of l
unfolding full_of
park_to One i = omega arith
park_to Two i = omega arith

-- a park that begins inside a table is one of it
pub park_there : (l : Layout) (park n : ℕ) → full_of l * park < n → park < parks_of l n
unfolding full_of
park_there One park n h = omega arith
park_there Two park n h = omega arith

-- a table with a park has a number
pub some_there : (l : Layout) (n : ℕ) → 0 < parks_of l n → 0 < n
unfolding full_of
some_there One n h = omega arith
some_there Two n h = omega arith

-- where the next park begins
pub next_park : (l : Layout) (park : ℕ) → full_of l * (park + 1) ≡ full_of l * park + full_of l
unfolding full_of
next_park One park = omega arith
next_park Two park = omega arith

-- where the last of some parks ends
pub park_end : (l : Layout) (parks : ℕ) → 0 < parks → full_of l * parks ≡ full_of l * (parks - 1) + full_of l
unfolding full_of
park_end One parks h = omega arith
park_end Two parks h = omega arith

-- the park of the place at which it begins
pub park_at : (l : Layout) (park : ℕ) → full_of l * park / full_of l ≡ park
unfolding full_of
park_at One park = omega arith
park_at Two park = omega arith

-- the park of the last of some of its places
pub park_before : (l : Layout) (park below : ℕ) → 1 ≤ below → below ≤ full_of l → (full_of l * park + below - 1) / full_of l ≡ park
unfolding full_of
park_before One park below h g = omega arith
park_before Two park below h g = omega arith

-- a table has few parks
pub parks_few : (l : Layout) (n : ℕ) → n ≤ 2251799813685248 → parks_of l n ≤ 1099511627776
unfolding full_of
parks_few One n h = omega arith
parks_few Two n h = omega arith
