-- One branch of a tree ends at the two values that the bits of q choose.
use Rattle.std.proofs.Common.{◌≡◌, ℕ, zero, suc, ◌+◌, ◌-◌, ◌*◌, ◌^◌, ◌<◌, ◌≤◌, ⊎_elim, List, [], ◌++◌, length, slice_index, slice_index_or, sym, refl, ap, ap₂, ◌∙◌, subst, arith, lt-ltb, le-ltb, mod-lt}
use Rattle.std.proofs.lemmas.Bool.{cases_lt}
use Rattle.std.proofs.lemmas.List.{length-map, get_or-map, get_or_append_left, get_or-append_right}
use Rattle.pos_laws.specs.Listing.{listing, pair_in, quality_pairs}
use Rattle.pos_lists.specs.Pairs.{greater, lesser}
use Rattle.pos_order.specs.Order.{plot_order}
use Rattle.pos_order.specs.Quality.{quality_of, pair_quality, quality_index}
use Rattle.pos_lists.specs.PlotLists.{PlotLists, number_at}
use Rattle.pos_lists.specs.Trees.{tree, branch}
use Rattle.pos_laws.specs.WalkLaws.{BranchIsOfTheTree, BranchGivesTheQuality, PairsAreBranches}
use Rattle.pos_order.proofs.PlotOrderLemmas.{double}
use Rattle.pos_laws.proofs.AnyFile.{trees_have_their_length, tree-suc}
use Rattle.pos_laws.proofs.Listed.{length-listing, at-listing}

pair_in-left : (n q : ℕ) (a b : List ℕ) → length a ≡ 2 ^ suc n → q < 2 ^ n → pair_in q (a ++ b) ≡ pair_in q a
unfolding pair_in
pair_in-left n q a b e l =
    let d = double n in
    ap₂ {C = ℕ × ℕ} (λ x y. (x, y))
    (get_or_append_left a b 0 (2 * q) (omega arith)) (get_or_append_left a b 0 (2 * q + 1) (omega arith))

pair_in-right : (n q : ℕ) (a b : List ℕ) → length a ≡ 2 ^ suc n → 2 ^ n ≤ q → pair_in q (a ++ b) ≡ pair_in (q - 2 ^ n) b
unfolding pair_in
pair_in-right n q a b e l =
    let d = double n in
    let f : 2 * q - 2 ^ suc n ≡ 2 * (q - 2 ^ n) = omega arith in
    let g : 2 * q + 1 - 2 ^ suc n ≡ 2 * (q - 2 ^ n) + 1 = omega arith in
    ap₂ {C = ℕ × ℕ} (λ x y. (x, y))
    (get_or-append_right a b (2 ^ suc n) (2 * q) 0 e (omega arith) ∙ ap (slice_index b) f)
    (get_or-append_right a b (2 ^ suc n) (2 * q + 1) 0 e (omega arith) ∙ ap (slice_index b) g)

first_pair : (p : PlotLists) (i : ℕ) → branch p 0 0 i ≡ pair_in 0 (tree p 1 i)
unfolding branch pair_in tree
first_pair p i = refl

pub branch-low : (p : PlotLists) (n q i : ℕ) → q < 2 ^ n → branch p (suc n) q i ≡ branch p n q (lesser (number_at p (suc (suc n)) i))
unfolding branch
branch-low p n q i l = let e = lt-ltb q (2 ^ n) l in rw e

pub branch-high : (p : PlotLists) (n q i : ℕ) → 2 ^ n ≤ q → branch p (suc n) q i ≡ branch p n (q - 2 ^ n) (greater (number_at p (suc (suc n)) i))
unfolding branch
branch-high p n q i l = let e = le-ltb q (2 ^ n) l in rw e

pub branch_is_of_the_tree : BranchIsOfTheTree
branch_is_of_the_tree p zero q i l =
    let e : 0 ≡ q = omega arith in
    subst (λ b. branch p 0 b i ≡ pair_in b (tree p 1 i)) e (first_pair p i)
branch_is_of_the_tree p (suc n) q i l =
    let s = number_at p (suc (suc n)) i in
    let d = double n in
    ⊎_elim
    (λ (h : q < 2 ^ n).
    branch-low p n q i h ∙ branch_is_of_the_tree p n q (lesser s) h
    ∙ sym (pair_in-left n q _ (tree p (suc n) (greater s)) (trees_have_their_length p (suc n) (lesser s)) h)
    ∙ ap (pair_in q) (sym (tree-suc p (suc n) i)))
    (λ (h : 2 ^ n ≤ q).
    branch-high p n q i h ∙ branch_is_of_the_tree p n (q - 2 ^ n) (greater s) (omega arith)
    ∙ sym (pair_in-right n q (tree p (suc n) (lesser s)) _ (trees_have_their_length p (suc n) (lesser s)) h)
    ∙ ap (pair_in q) (sym (tree-suc p (suc n) i)))
    (cases_lt q (2 ^ n))

pub index_below : (c : List ℕ) → quality_index c < 2 ^ 5
index_below c = mod-lt (slice_index c 31) (omega arith)

quality-pair_in : (k : ℕ) (c xs : List ℕ) (q : ℕ × ℕ) → q ≡ pair_in (quality_index c) (plot_order 6 xs) →
    pair_quality k c q.0 q.1 ≡ quality_of k c xs
unfolding quality_of pair_in
quality-pair_in k c xs q e = ap (λ (r : ℕ × ℕ). pair_quality k c r.0 r.1) e

pub branch_gives_the_quality : BranchGivesTheQuality
branch_gives_the_quality p k c i xs e =
    quality-pair_in k c xs _
    (branch_is_of_the_tree p 5 (quality_index c) i (index_below c) ∙ ap (pair_in (quality_index c)) e)

pub quality_of-pair_in : (k : ℕ) (c xs ys : List ℕ) → plot_order 6 xs ≡ ys →
    quality_of k c xs ≡ pair_quality k c (pair_in (quality_index c) ys).0 (pair_in (quality_index c) ys).1
quality_of-pair_in k c xs ys e = sym (quality-pair_in k c xs _ (ap (pair_in (quality_index c)) (sym e)))

pub length-quality_pairs : (p : PlotLists) (c : List ℕ) → length (quality_pairs p c) ≡ length (listing p c)
unfolding quality_pairs
length-quality_pairs p c = length-map (listing p c) (pair_in (quality_index c))

pub at-quality_pairs : (p : PlotLists) (c : List ℕ) (j : ℕ) → j < length (listing p c) →
    slice_index_or (quality_pairs p c) j (0, 0) ≡ pair_in (quality_index c) (slice_index_or (listing p c) j [])
unfolding quality_pairs
at-quality_pairs p c j l = get_or-map (pair_in (quality_index c)) (listing p c) j [] (0, 0) l

pub pairs_are_branches : PairsAreBranches
pairs_are_branches p c j l =
    at-quality_pairs p c j (omega (arith, length-listing p c))
    ∙ ap (pair_in (quality_index c)) (at-listing p c j [] l)
    ∙ sym (branch_is_of_the_tree p 5 (quality_index c) _ (index_below c))
