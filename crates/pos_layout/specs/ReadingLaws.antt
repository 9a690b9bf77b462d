-- What is proved of reading a file that stores a plot: it shows the plot's lists, and of a whole file all holds that the
-- laws on plain lists ask for.
-- Source: this project's plot file format. Tables count from 1 to 7, parks and places from 0.
use Rattle.std.specs.Prelude.{◌≡◌, ℕ, ◌+◌, ◌-◌, ◌*◌, ◌^◌, ◌<◌, ◌≤◌, nat_lt, true, List, count_by, Ok}
use Rattle.pos_lists.specs.PlotLists.{PlotLists, numbers, count, number_at, f7_in, NumbersRise}
use Rattle.pos_lists.specs.Trees.{IsInRange}
use Rattle.pos_lists.specs.Walk.{ReadsPlot, ReadsValues}
use Rattle.pos_layout.specs.Bytes.{part}
use Rattle.pos_layout.specs.Layouts.{Layout, full_of, parks_of}
use Rattle.pos_layout.specs.Fields.{count_of, header_in}
use Rattle.pos_layout.specs.Lists.{points_inside}
use Rattle.pos_layout.specs.Reading.{num, head, under, read_park}
use Rattle.pos_layout.specs.Rules.{Stores, Well}

-- each park reads as its part of the table's list
abbrev pub ParksAreRead : Type 0
ParksAreRead = (l : Layout) (b : List ℕ) (p : PlotLists) (t park : ℕ) → Stores l b p → 1 ≤ t → t ≤ 7 → park < parks_of l (count p t) →
    read_park l b t park ≡ Ok (part (numbers p t) (full_of l * park) (full_of l))

-- a head of table 7 as the f7 of its park's first number
abbrev pub HeadsAreRead : Type 0
HeadsAreRead = (l : Layout) (b : List ℕ) (p : PlotLists) (park : ℕ) → Stores l b p → park < parks_of l (count p 7) →
    head l b park ≡ Ok (f7_in p.k (number_at p 7 (full_of l * park)))

-- a count as how many numbers of the park have a lesser f7
abbrev pub CountsAreRead : Type 0
CountsAreRead = (l : Layout) (b : List ℕ) (p : PlotLists) (park f7 : ℕ) → Stores l b p → park < parks_of l (count p 7) →
    under l b park f7
    ≡ Ok (count_by (λ n. nat_lt n (f7 * 2 ^ (p.k + 1))) (part (numbers p 7) (full_of l * park) (full_of l)))

-- and where no number points outside, each place as the list's number
abbrev pub NumbersAreRead : Type 0
NumbersAreRead = (l : Layout) (b : List ℕ) (p : PlotLists) (t i : ℕ) → Well l b p → 1 ≤ t → t ≤ 7 → i < count p t →
    num l b t i ≡ Ok (number_at p t i)

-- the bytes b of this layout show the plot p as the laws on plain lists ask for
pub record ShowsLists (l : Layout) (b : List ℕ) (p : PlotLists) : Type 0 where
  pub rise : NumbersRise p
  pub in_range : IsInRange p
  pub reads : ReadsPlot (num l b) p
  pub few : count p 6 ≤ 2 ^ (p.k + 1)

-- a whole file shows its plot so
abbrev pub AWholeFileShowsItsLists : Type 0
AWholeFileShowsItsLists = (l : Layout) (b : List ℕ) (p : PlotLists) → Well l b p → ShowsLists l b p

-- whatever the bytes are, a number that is read points inside by the counts of the header
abbrev pub NumbersPointInside : Type 0
NumbersPointInside = (l : Layout) (b : List ℕ) (t i n : ℕ) → num l b t i ≡ Ok n →
    points_inside (header_in b).size t (count_of (header_in b) (t - 1)) n ≡ true

-- so what is read of table 1 is of values of k bits
abbrev pub AnyFileReadsValues : Type 0
AnyFileReadsValues = (l : Layout) (b : List ℕ) → ReadsValues (num l b) (header_in b).size
