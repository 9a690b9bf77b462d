-- Where the numbers of an f7 begin and end in table 7 of a file that opens, whatever its bytes are: by the heads of its
-- parks, and by how many numbers of one park are below the f7.
-- Source: this project's plot file format. Places and parks count from 0.
use Rattle.std.specs.Prelude.{◌≡◌, ℕ, ◌+◌, ◌-◌, ◌*◌, ◌/◌, ◌^◌, ◌<◌, ◌≤◌, ◌⊎◌, List, Ok, Err}
use Rattle.pos_tuple.specs.Proof.{challenge_value}
use Rattle.pos_layout.specs.declared.damage.Damage.{Damage}
use Rattle.pos_layout.specs.declared.layout.Layout.{Layout}
use Rattle.pos_layout.specs.Layouts.{full_of, parks_of}
use Rattle.pos_layout.specs.Fields.{count_of, header_in}
use Rattle.pos_layout.specs.Reading.{head, under}

-- how many numbers, and how many parks, table 7 has
abbrev pub last_count : List ℕ → ℕ
last_count b = count_of (header_in b) 7

abbrev pub last_parks : Layout → List ℕ → ℕ
last_parks l b = parks_of l (last_count b)

-- the head of this park of table 7 is a number below f; is a number not below f
abbrev pub BeginsBelow : Layout → List ℕ → ℕ → ℕ → Type 0
BeginsBelow l b f park = (n : ℕ) × (head l b park ≡ Ok n) × (n < f)

abbrev pub BeginsFrom : Layout → List ℕ → ℕ → ℕ → Type 0
BeginsFrom l b f park = (n : ℕ) × (head l b park ≡ Ok n) × (f ≤ n)

-- The numbers below f end before place i, which follows a place of this park: so many of its numbers are below f, and where
-- a next park begins at i, its head is not.
pub record EndsIn (l : Layout) (b : List ℕ) (f park i : ℕ) : Type 0 where
  pub begins : BeginsBelow l b f park
  pub counts : under l b park f ≡ Ok (i - full_of l * park)
  pub next : i ≡ full_of l * (park + 1) → park + 1 < last_parks l b → BeginsFrom l b f (park + 1)

-- i is the first place of table 7 whose number has an f7 of f or above, as far as these reads show it
pub record Bound (l : Layout) (b : List ℕ) (f i : ℕ) : Type 0 where
  pub inside : i ≤ last_count b
  pub none : i ≡ 0 → 0 < last_parks l b → BeginsFrom l b f 0
  pub some : 0 < i → EndsIn l b f ((i - 1) / full_of l) i

-- the places of table 7 from first up to, not with, second are those with the challenge's f7, as far as these reads show it
pub record Span (l : Layout) (b c : List ℕ) (first second : ℕ) : Type 0 where
  pub ordered : first ≤ second
  pub lower : Bound l b (challenge_value (header_in b).size c) first
  pub upper : Bound l b (challenge_value (header_in b).size c + 1) second

-- a damage that such a read of table 7 shows
abbrev pub IsLastDamage : Layout → List ℕ → Damage → Type 0
IsLastDamage l b d =
    (park : ℕ) × (park < last_parks l b)
    × ((head l b park ≡ Err d) ⊎ ((f : ℕ) × (f ≤ 2 ^ (header_in b).size) × (under l b park f ≡ Err d)))
