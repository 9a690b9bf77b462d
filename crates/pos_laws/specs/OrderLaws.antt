-- What is proved of the orders of tuples: line points keep the order of trees, and a tuple is a turning of its plot order.
use Rattle.std.specs.Prelude.{◌≡◌, ◌≢◌, ℕ, ◌^◌, ◌<◌, ◌⊎◌, List, ◌++◌, length}
use Rattle.pos_points.specs.Points.{point_of}
use Rattle.pos_lists.specs.Pairs.{greater, lesser}
use Rattle.pos_order.specs.Order.{Below, lesser_first, plot_order, Turning}

-- the trees of the places below m, given by place, rise
abbrev pub TreesRise : (ℕ → List ℕ) → ℕ → Type 0
TreesRise f m = (i j : ℕ) → i < j → j < m → Below (f i) (f j)

-- the tree of a number: that of the lesser place of its pair, then that of the greater
abbrev pub joined_tree : (ℕ → List ℕ) → ℕ → List ℕ
joined_tree f s = f (lesser s) ++ f (greater s)

-- of two different lists of one length just one is below the other
abbrev pub BelowIsTotal : Type 0
BelowIsTotal = (a b : List ℕ) → length a ≡ length b → a ≢ b → Below a b ⊎ Below b a

-- no two lists are below each other
abbrev pub BelowGoesOneWay : Type 0
BelowGoesOneWay = (a b : List ℕ) → Below a b → Below b a → ⊥

-- a list is below all that one above it is below
abbrev pub BelowIsTransitive : Type 0
BelowIsTransitive = (a b c : List ℕ) → Below a b → Below b c → Below a c

-- line points rise with the greater number, and then with the lesser one
abbrev pub PointsRise : Type 0
PointsRise = (s t : ℕ) → s < t → (greater s < greater t) ⊎ ((greater s ≡ greater t) × (lesser s < lesser t))

-- over trees that rise, rising line points give joined trees that rise
abbrev pub PointsRiseAsTrees : Type 0
PointsRiseAsTrees = (f : ℕ → List ℕ) (m s t : ℕ) → TreesRise f m → greater t < m → s < t →
    Below (joined_tree f s) (joined_tree f t)

-- over trees that rise, the joined tree of two places' point has the lesser of their trees first
abbrev pub PointsArePlotOrdered : Type 0
PointsArePlotOrdered = (f : ℕ → List ℕ) (m x y : ℕ) → TreesRise f m → x < m → y < m → x ≢ y →
    joined_tree f (point_of x y) ≡ lesser_first (f x) (f y)

-- a tuple is a turning of its plot order
abbrev pub TuplesTurnTheirPlotOrder : Type 0
TuplesTurnTheirPlotOrder = (n : ℕ) (xs : List ℕ) → length xs ≡ 2 ^ n → Turning n xs (plot_order n xs)
