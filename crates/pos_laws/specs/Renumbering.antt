-- How the used places of the tables become the places of a plot: by the order of their line points.
-- Source: the Construction document, "compression" and "sort on line points".
use Rattle.std.specs.Prelude.{◌≡◌, ℕ, suc, ◌/◌, ◌<◌, ◌==◌, if◌then◌else◌, List, [], ◌∷◌, length, slice_index, slice_index_or, AllPairs, Contains}
use Rattle.pos_points.specs.Points.{point_of}
use Rattle.pos_lists.specs.TableLists.{TableLists, entries, left_of, right_of}
use Rattle.pos_lists.specs.Used.{IsUsed}
use Rattle.pos_lists.specs.Rank.{first_in, second_in}
use Rattle.pos_lists.specs.PlotLists.{PlotLists, numbers, last_number}

-- different used places of level n stand at different new places
abbrev pub IsOneToOne : TableLists → ℕ → (ℕ → ℕ) → Type 0
IsOneToOne ts n old = (i j : ℕ) → IsUsed ts n i → IsUsed ts n j → old i ≡ old j → i ≡ j

-- the line point of a place of level n + 1, whose pair's places stand below at the places that old gives
abbrev pub point_at : TableLists → ℕ → (ℕ → ℕ) → ℕ → ℕ
point_at ts n old i = point_of (old (left_of ts (suc n) i)) (old (right_of ts (suc n) i))

-- the places of level n + 1 are renumbered by their points, where old gives the new places of level n:
-- the points rise, each used place has its point at its new place, and there is no other
pub record IsRenumbered (ts : TableLists) (n : ℕ) (old new : ℕ → ℕ) (points : List ℕ) : Type 0 where
  pub rise : AllPairs ◌<◌ points
  pub placed : (i : ℕ) → IsUsed ts (suc n) i → new i < length points
  pub pointed : (i : ℕ) → IsUsed ts (suc n) i → slice_index points (new i) ≡ point_at ts n old i
  pub filled : (s : ℕ) → s < length points → (i : ℕ) × IsUsed ts (suc n) i × (new i ≡ s)

-- the number of table 7 for a place of level 6, whose new place new gives
abbrev pub last_at : TableLists → ℕ → (ℕ → ℕ) → ℕ → ℕ
last_at ts k new i = last_number k (slice_index ts.last i / 64) (new i)

-- the numbers of table 7: one for each place of level 6, rising, and no other
pub record IsLastTable (ts : TableLists) (k : ℕ) (new : ℕ → ℕ) (lasts : List ℕ) : Type 0 where
  pub rise : AllPairs ◌<◌ lasts
  pub placed : (i : ℕ) → i < entries ts 6 → Contains lasts (last_at ts k new i)
  pub filled : (s : ℕ) → Contains lasts s → (i : ℕ) × (i < entries ts 6) × (s ≡ last_at ts k new i)

-- the seven lists of p are made of the tables by renumbering; place n gives the new places of level n,
-- and those of level 0 are the values
pub record IsRelocated (ts : TableLists) (p : PlotLists) (place : ℕ → ℕ → ℕ) : Type 0 where
  pub values : (i : ℕ) → place 0 i ≡ slice_index ts.values i
  pub six : (n : ℕ) → n < 6 → IsRenumbered ts n (place n) (place (suc n)) (numbers p (suc n))
  pub seventh : IsLastTable ts p.k (place 6) (numbers p 7)

-- the work on level n + 1: the points of the used places, each with its place, by rising point; and the
-- used places, by rising place, each with the place where its point stands in the first list
pub record IsNumbered (ts : TableLists) (n : ℕ) (old : ℕ → ℕ) (pointed moved : List (ℕ × ℕ)) : Type 0 where
  pub rise : AllPairs (λ a b. a.0 < b.0) pointed
  pub all : (i : ℕ) → IsUsed ts (suc n) i → Contains pointed (point_at ts n old i, i)
  pub only : (s : ℕ) → s < length pointed →
      IsUsed ts (suc n) (second_in pointed s) × (first_in pointed s ≡ point_at ts n old (second_in pointed s))
  pub moved_rise : AllPairs (λ a b. a.0 < b.0) moved
  pub moved_all : (s : ℕ) → s < length pointed → Contains moved (second_in pointed s, s)
  pub moved_only : (r : ℕ) → r < length moved →
      (second_in moved r < length pointed) × (second_in pointed (second_in moved r) ≡ first_in moved r)

-- the points of such a list
unfoldable pub firsts : List (ℕ × ℕ) → List ℕ
firsts [] = []
firsts (x ∷ xs) = x.0 ∷ firsts xs

-- the levels 1 to m are renumbered, one after another, into these lists; place n gives the new places of level n
pub record AreRenumbered (ts : TableLists) (m : ℕ) (place : ℕ → ℕ → ℕ) (lists : List (List ℕ)) : Type 0 where
  pub values : (i : ℕ) → place 0 i ≡ slice_index ts.values i
  pub as_long : length lists ≡ m
  pub levels : (n : ℕ) → n < m → IsRenumbered ts n (place n) (place (suc n)) (slice_index_or lists n [])

-- the places of all levels, with those of one level given
abbrev pub with_places : ℕ → (ℕ → ℕ) → (ℕ → ℕ → ℕ) → ℕ → ℕ → ℕ
with_places m new place n = if n == m then new else place n

-- the plot of these lists
abbrev pub plot_with : List ℕ → ℕ → List (List ℕ) → PlotLists
plot_with id k lists = record { id = id; k = k; tables = lists }
