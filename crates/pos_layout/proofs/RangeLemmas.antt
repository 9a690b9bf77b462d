-- A number of a plot in range passes the test of where it points.
use Rattle.std.proofs.Common.{◌≡◌, ℕ, zero, suc, ◌<◌, ◌&&◌, Bool, true, false, arith, lt-ltb}
use Rattle.pos_lists.specs.PlotLists.{PlotLists, count, number_at}
use Rattle.pos_lists.specs.Trees.{limit, IsInRange}
use Rattle.pos_layout.specs.Lists.{points_inside}

both_true : (a b : Bool) → a ≡ true → b ≡ true → (a && b) ≡ true
both_true true b e f = f
both_true false b e f = e

-- by the table
pub inside_in_range : (p : PlotLists) (t i : ℕ) → IsInRange p → t < 7 → i < count p (suc t) →
    points_inside p.k (suc t) (count p t) (number_at p (suc t) i) ≡ true
unfolding points_inside limit
inside_in_range p zero i range h l = lt-ltb _ _ (range.points 0 i (omega arith) l)
inside_in_range p (suc zero) i range h l = lt-ltb _ _ (range.points 1 i (omega arith) l)
inside_in_range p (suc (suc zero)) i range h l = lt-ltb _ _ (range.points 2 i (omega arith) l)
inside_in_range p (suc (suc (suc zero))) i range h l = lt-ltb _ _ (range.points 3 i (omega arith) l)
inside_in_range p (suc (suc (suc (suc zero)))) i range h l = lt-ltb _ _ (range.points 4 i (omega arith) l)
inside_in_range p (suc (suc (suc (suc (suc zero))))) i range h l = lt-ltb _ _ (range.points 5 i (omega arith) l)
inside_in_range p (suc (suc (suc (suc (suc (suc zero)))))) i range h l =
    both_true _ _ (lt-ltb _ _ (range.answers i l)) (lt-ltb _ _ (range.places i l))
inside_in_range p (suc (suc (suc (suc (suc (suc (suc t))))))) i range h l = absurd (omega arith)
