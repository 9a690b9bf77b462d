-- The list of the proofs for a challenge, and how it is found in a plot.
-- Source of what a proof is: the Construction document; the order of the list is this project's own.
use Rattle.std.specs.Prelude.{◌≡◌, ℕ, ◌+◌, ◌*◌, ◌≤◌, ◌<◌, ◌==◌, ◌↔◌, List, [], length, map, filter, slice_index, slice_index_or, AllPairs, Contains}
use Rattle.pos_tuple.specs.Proof.{Proof, challenge_value}
use Rattle.pos_order.specs.Order.{Below, plot_order, Turning}
use Rattle.pos_order.specs.Quality.{quality_index}
use Rattle.pos_lists.specs.PlotLists.{PlotLists, numbers, count, number_at, f7_in, place_in}
use Rattle.pos_lists.specs.Trees.{tree}

-- the numbers of table 7 with the challenge's f7
unfoldable pub asked : PlotLists → List ℕ → List ℕ
asked p c = filter (λ s. f7_in p.k s == challenge_value p.k c) (numbers p 7)

-- the tuples that a plot lists for a challenge, in plot order
unfoldable pub listing : PlotLists → List ℕ → List (List ℕ)
listing p c = map (λ s. tree p 6 (place_in p.k s)) (asked p c)

-- the values at places 2 * q and 2 * q + 1
unfoldable pub pair_in : ℕ → List ℕ → ℕ × ℕ
pair_in q ys = (slice_index ys (2 * q), slice_index ys (2 * q + 1))

-- for each tuple of the listing the two values that the quality takes
unfoldable pub quality_pairs : PlotLists → List ℕ → List (ℕ × ℕ)
quality_pairs p c = map (pair_in (quality_index c)) (listing p c)

-- out has exactly the proofs of this id and size for this challenge, by rising plot order; so each once
pub record Lists (id : List ℕ) (k : ℕ) (c : List ℕ) (out : List (List ℕ)) : Type 0 where
  pub exactly : (xs : List ℕ) → Contains out xs ↔ Proof id k c xs
  pub rise : AllPairs (λ a b. Below (plot_order 6 a) (plot_order 6 b)) out

-- out has, for each tuple of the plot's listing and in its order, a turning of it that is a proof
pub record AreTurned (p : PlotLists) (c : List ℕ) (out : List (List ℕ)) : Type 0 where
  pub as_long : length out ≡ length (listing p c)
  pub turned : (i : ℕ) → i < length out → Turning 6 (slice_index_or out i []) (slice_index_or (listing p c) i [])
  pub proofs : (i : ℕ) → i < length out → Proof p.id p.k c (slice_index_or out i [])

-- the places of table 7 below i have an f7 below f, and those from i on have not
pub record IsBound (p : PlotLists) (f i : ℕ) : Type 0 where
  pub inside : i ≤ count p 7
  pub below : (j : ℕ) → j < i → f7_in p.k (number_at p 7 j) < f
  pub from : (j : ℕ) → i ≤ j → j < count p 7 → f ≤ f7_in p.k (number_at p 7 j)

-- the places of table 7 from first up to, not with, second are those with the challenge's f7
pub record IsSpan (p : PlotLists) (c : List ℕ) (first second : ℕ) : Type 0 where
  pub lower : IsBound p (challenge_value p.k c) first
  pub upper : IsBound p (challenge_value p.k c + 1) second
