-- The trees of values that the places of a plot stand for, and where its numbers point.
-- Source: the Construction document, "proving"; the numbers of table 7 are this project's own.
-- Tables count from 1 to 7, places from 0. A place of a table n from 1 to 6 stands for 2 ^ n values;
-- a value stands for itself, as a place of a table 0.
use Rattle.std.specs.Prelude.{ℕ, zero, suc, ◌-◌, ◌^◌, ◌<◌, nat_lt, if◌then◌else◌, List, [], ◌∷◌, ◌++◌}
use Rattle.pos_lists.specs.Pairs.{greater, lesser}
use Rattle.pos_lists.specs.PlotLists.{PlotLists, count, number_at, f7_in, place_in}

-- the numbers that a pair of table n + 1 may have are below this: values are below 2 ^ k, and places
-- of a table from 1 to 6 below its count
unfoldable pub limit : PlotLists → ℕ → ℕ
limit p zero = 2 ^ p.k
limit p (suc n) = count p (suc n)

-- the 2 ^ n values of a place of table n: those of the lesser place of its pair, then those of the greater
unfoldable pub tree : PlotLists → ℕ → ℕ → List ℕ
tree p zero i = i ∷ []
tree p (suc n) i = tree p n (lesser (number_at p (suc n) i)) ++ tree p n (greater (number_at p (suc n) i))

-- the two values at the end of one branch of the tree of place i of table n + 1: from the top table
-- down a bit of q, its highest first, chooses the place to follow, 0 the lesser and 1 the greater
unfoldable pub branch : PlotLists → ℕ → ℕ → ℕ → ℕ × ℕ
branch p zero q i = (lesser (number_at p 1 i), greater (number_at p 1 i))
branch p (suc n) q i =
    if nat_lt q (2 ^ n)
    then branch p n q (lesser (number_at p (suc (suc n)) i))
    else branch p n (q - 2 ^ n) (greater (number_at p (suc (suc n)) i))

-- no number points past its table below, nor past the f7 of k bits
pub record IsInRange (p : PlotLists) : Type 0 where
  pub points : (n i : ℕ) → n < 6 → i < count p (suc n) → greater (number_at p (suc n) i) < limit p n
  pub answers : (i : ℕ) → i < count p 7 → f7_in p.k (number_at p 7 i) < 2 ^ p.k
  pub places : (i : ℕ) → i < count p 7 → place_in p.k (number_at p 7 i) < count p 6
