-- The plot of an id and a size.
-- Source: the Construction document, "plotting", with the plot-ordered tuples of chiapos.
use Rattle.std.specs.Prelude.{◌≡◌, ℕ, suc, ◌<◌, List, length, AllPairs, Contains, Some}
use Rattle.pos_tuple.specs.Proof.{f7}
use Rattle.pos_order.specs.Order.{Below, plot_order}
use Rattle.pos_laws.specs.Kept.{IsKept}
use Rattle.pos_lists.specs.PlotLists.{PlotLists, numbers, count, last_number}
use Rattle.pos_lists.specs.Trees.{tree}

-- place i of table n stands for the tuple xs: its tree is the plot order of xs
abbrev pub StandsFor : PlotLists → ℕ → ℕ → List ℕ → Type 0
StandsFor p n i xs = tree p n i ≡ plot_order n xs

-- s is the number in table 7 of place i of table 6: the f7 of the tuple with a node for which this place
-- stands, and then the place
abbrev pub IsLastNumber : PlotLists → List ℕ → ℕ → ℕ → ℕ → Type 0
IsLastNumber p id k i s =
    (xs : List ℕ) × (v : ℕ) × StandsFor p 6 i xs × (f7 id k xs ≡ Some v) × (s ≡ last_number k v i)

-- the trees of tables 1 to 6 rise by place, and the places stand for exactly the kept tuples; table 7
-- has, rising, exactly one number for each place of table 6
pub record PlotOf (p : PlotLists) (id : List ℕ) (k : ℕ) : Type 0 where
  pub same_id : p.id ≡ id
  pub same_size : p.k ≡ k
  pub seven : length p.tables ≡ 7
  pub trees_rise : (n i j : ℕ) → n < 6 → i < j → j < count p (suc n) → Below (tree p (suc n) i) (tree p (suc n) j)
  pub kept : (n i : ℕ) → n < 6 → i < count p (suc n) →
      (xs : List ℕ) × IsKept id k (suc n) xs × StandsFor p (suc n) i xs
  pub all : (n : ℕ) (xs : List ℕ) → n < 6 → IsKept id k (suc n) xs →
      (i : ℕ) × (i < count p (suc n)) × StandsFor p (suc n) i xs
  pub numbers_rise : AllPairs ◌<◌ (numbers p 7)
  pub each_place : (i : ℕ) → i < count p 6 → (s : ℕ) × Contains (numbers p 7) s × IsLastNumber p id k i s
  pub each_number : (s : ℕ) → Contains (numbers p 7) s → (i : ℕ) × (i < count p 6) × IsLastNumber p id k i s
