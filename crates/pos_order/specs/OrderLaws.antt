-- What is proved of plot order, of turnings and of the quality.
use Rattle.std.specs.Prelude.{◌≡◌, ℕ, ◌^◌, List, length, IsSome}
use Rattle.pos_tuple.specs.Node.{node}
use Rattle.pos_order.specs.Order.{plot_order, Turning}
use Rattle.pos_order.specs.Quality.{quality_of}

-- a tuple and each of its turnings have one plot order
abbrev pub TurningsHaveOnePlotOrder : Type 0
TurningsHaveOnePlotOrder =
    (n : ℕ) (zs xs : List ℕ) → length xs ≡ 2 ^ n → Turning n zs xs → plot_order n zs ≡ plot_order n xs

-- 64 values and each of their turnings have one quality for each challenge
abbrev pub TurningsHaveOneQuality : Type 0
TurningsHaveOneQuality =
    (k : ℕ) (challenge zs xs : List ℕ) → length xs ≡ 64 → Turning 6 zs xs → quality_of k challenge zs ≡ quality_of k challenge xs

-- two tuples that have a node and one plot order are one tuple
abbrev pub PlotOrderIsExact : Type 0
PlotOrderIsExact = (id : List ℕ) (k n : ℕ) (xs ys : List ℕ) → IsSome (node id k n xs) → IsSome (node id k n ys) →
    plot_order n xs ≡ plot_order n ys → xs ≡ ys

-- at most one turning of a tuple has a node
abbrev pub OneTurning : Type 0
OneTurning = (id : List ℕ) (k n : ℕ) (zs ws xs : List ℕ) → Turning n zs xs → Turning n ws xs →
    IsSome (node id k n zs) → IsSome (node id k n ws) → zs ≡ ws
