-- What is proved of reading a plot place by place: a span bounds the listing, a walk gives a tree, and one branch the
-- two values of the quality.
use Rattle.std.specs.Prelude.{◌≡◌, ℕ, suc, ◌+◌, ◌-◌, ◌^◌, ◌<◌, ◌≤◌, List, [], length, All, slice_range, slice_index, slice_index_or, Result, Ok}
use Rattle.pos_order.specs.Order.{plot_order}
use Rattle.pos_order.specs.Quality.{quality_of, pair_quality, quality_index}
use Rattle.pos_lists.specs.PlotLists.{PlotLists, numbers, count, number_at, place_in, NumbersRise}
use Rattle.pos_lists.specs.Trees.{limit, tree, branch, IsInRange}
use Rattle.pos_laws.specs.Listing.{asked, listing, pair_in, quality_pairs, IsBound, IsSpan}
use Rattle.pos_lists.specs.Walk.{walk, limb, walk_from, limb_from, ReadsPlot, ReadsValues}

-- a branch ends at the two values of the tree that its bits choose
abbrev pub BranchIsOfTheTree : Type 0
BranchIsOfTheTree = (p : PlotLists) (n q i : ℕ) → q < 2 ^ n → branch p n q i ≡ pair_in q (tree p (suc n) i)

-- so the branch of a place that stands for a tuple in plot order gives the tuple's quality
abbrev pub BranchGivesTheQuality : Type 0
BranchGivesTheQuality = (p : PlotLists) (k : ℕ) (c : List ℕ) (i : ℕ) (xs : List ℕ) → tree p 6 i ≡ plot_order 6 xs →
    pair_quality k c (branch p 5 (quality_index c) i).0 (branch p 5 (quality_index c) i).1 ≡ quality_of k c xs

-- the pairs of the listing are the ends of these branches, place by place
abbrev pub PairsAreBranches : Type 0
PairsAreBranches = (p : PlotLists) (c : List ℕ) (j : ℕ) → j < length (asked p c) →
    slice_index_or (quality_pairs p c) j (0, 0) ≡ branch p 5 (quality_index c) (place_in p.k (slice_index (asked p c) j))

-- the numbers asked for are those of the span
abbrev pub SpanIsAsked : Type 0
SpanIsAsked = (p : PlotLists) (c : List ℕ) (first second : ℕ) → IsSpan p c first second →
    asked p c ≡ slice_range (numbers p 7) first second

-- and the listing and its pairs are those of the span's places, in order
abbrev pub ListingBySpan : Type 0
ListingBySpan = (p : PlotLists) (c : List ℕ) (first second : ℕ) → IsSpan p c first second →
    (length (listing p c) ≡ second - first) ×
    ((j : ℕ) → j < second - first →
    slice_index_or (listing p c) j [] ≡ tree p 6 (place_in p.k (number_at p 7 (first + j))))

abbrev pub PairsBySpan : Type 0
PairsBySpan = (p : PlotLists) (c : List ℕ) (first second : ℕ) → IsSpan p c first second →
    (length (quality_pairs p c) ≡ second - first) ×
    ((j : ℕ) → j < second - first →
    slice_index_or (quality_pairs p c) j (0, 0) ≡ branch p 5 (quality_index c) (place_in p.k (number_at p 7 (first + j))))

-- where the numbers rise there is a bound for each f7, and there is never more than one, so one span
abbrev pub BoundsAreThere : Type 0
BoundsAreThere = (p : PlotLists) (f : ℕ) → NumbersRise p → (i : ℕ) × IsBound p f i

abbrev pub OneBound : Type 0
OneBound = (p : PlotLists) (f i j : ℕ) → IsBound p f i → IsBound p f j → i ≡ j

abbrev pub SpanIsOrdered : Type 0
SpanIsOrdered = (p : PlotLists) (c : List ℕ) (first second : ℕ) → IsSpan p c first second →
    (first ≤ second) × (second ≤ count p 7)

-- reading the numbers of a plot in range gives its trees and its branches
abbrev pub WalkIsTheTree : Type 0 → Type 0
WalkIsTheTree E = (num : ℕ → ℕ → Result ℕ E) (p : PlotLists) (n i : ℕ) →
    IsInRange p → ReadsPlot num p → n ≤ 6 → i < limit p n → walk num n i ≡ Ok (tree p n i)

abbrev pub LimbIsTheBranch : Type 0 → Type 0
LimbIsTheBranch E = (num : ℕ → ℕ → Result ℕ E) (p : PlotLists) (n q i : ℕ) →
    IsInRange p → ReadsPlot num p → n < 6 → i < count p (suc n) → limb num n q i ≡ Ok (branch p n q i)

-- and from a place of table 7 on
abbrev pub WalkFromTheTop : Type 0 → Type 0
WalkFromTheTop E = (num : ℕ → ℕ → Result ℕ E) (p : PlotLists) (i : ℕ) → IsInRange p → ReadsPlot num p → i < count p 7 →
    walk_from num p.k i ≡ Ok (tree p 6 (place_in p.k (number_at p 7 i)))

abbrev pub LimbFromTheTop : Type 0 → Type 0
LimbFromTheTop E = (num : ℕ → ℕ → Result ℕ E) (p : PlotLists) (q i : ℕ) → IsInRange p → ReadsPlot num p → i < count p 7 →
    limb_from num p.k q i ≡ Ok (branch p 5 q (place_in p.k (number_at p 7 i)))

-- over any readings, be there a plot or not, a walk that meets nothing wrong gives 2 ^ n values; and if all numbers of
-- table 1 are of values below 2 ^ k, these are below 2 ^ k too, as are the two values of a branch, the lesser first
abbrev pub WalksHaveTheirLength : Type 0 → Type 0
WalksHaveTheirLength E = (num : ℕ → ℕ → Result ℕ E) (n i : ℕ) (xs : List ℕ) → walk num n i ≡ Ok xs → length xs ≡ 2 ^ n

abbrev pub WalksHaveTheirValues : Type 0 → Type 0
WalksHaveTheirValues E = (num : ℕ → ℕ → Result ℕ E) (k n i : ℕ) (xs : List ℕ) → ReadsValues num k →
    walk num (suc n) i ≡ Ok xs → All (λ x. x < 2 ^ k) xs

abbrev pub LimbsHaveTheirValues : Type 0 → Type 0
LimbsHaveTheirValues E = (num : ℕ → ℕ → Result ℕ E) (k n q i x y : ℕ) → ReadsValues num k →
    limb num n q i ≡ Ok (x, y) → (x < y) × (y < 2 ^ k)
