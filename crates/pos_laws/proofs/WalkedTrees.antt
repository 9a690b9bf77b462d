-- Reading a plot in range, with nothing wrong, gives its trees and its branches.
use Rattle.std.proofs.Common.{◌≡◌, ℕ, zero, suc, ◌+◌, ◌-◌, ◌%◌, ◌^◌, ◌<◌, ◌≤◌, ⊎_elim, nat_lt, if◌then◌else◌, Result, Ok, sym, refl, ap, ap₂, ◌∙◌, subst, arith, lt-ltb, le-ltb}
use Rattle.std.proofs.lemmas.Bool.{cases_lt}
use Rattle.pos_lists.specs.Pairs.{greater, lesser}
use Rattle.pos_lists.specs.PlotLists.{PlotLists, count, number_at, place_in}
use Rattle.pos_lists.specs.Trees.{limit, tree, branch}
use Rattle.pos_lists.specs.Walk.{after, join_ok, walk, limb, walk_from, limb_from}
use Rattle.pos_laws.specs.WalkLaws.{WalkIsTheTree, LimbIsTheBranch, WalkFromTheTop, LimbFromTheTop}
use Rattle.pos_laws.proofs.AnyFile.{lesser_below_greater, limit-suc}
use Rattle.pos_laws.proofs.Branches.{branch-low, branch-high}

pub walk_is_the_tree : {E : Type 0} → WalkIsTheTree E
unfolding walk tree limit
walk_is_the_tree num p zero i range reads l g = refl
walk_is_the_tree num p (suc n) i range reads l g =
    let e = reads n i (omega arith) g in
    let s = number_at p (suc n) i in
    let top = range.points n i l g in
    let o = lesser_below_greater s in
    ap (λ r. after r (λ s. join_ok (walk num n (lesser s)) (walk num n (greater s)))) e
    ∙ ap₂ join_ok
    (walk_is_the_tree num p n (lesser s) range reads (omega arith) (omega arith))
    (walk_is_the_tree num p n (greater s) range reads (omega arith) top)

-- what a branch reads of the next table
limb-read : {E : Type 0} (num : ℕ → ℕ → Result ℕ E) (n q i s : ℕ) → num (suc (suc n)) i ≡ Ok s →
    limb num (suc n) q i ≡ (if nat_lt q (2 ^ n) then limb num n q (lesser s) else limb num n (q - 2 ^ n) (greater s))
unfolding limb
limb-read num n q i s e =
    ap (λ r. after r (λ s. if nat_lt q (2 ^ n) then limb num n q (lesser s) else limb num n (q - 2 ^ n) (greater s))) e

limb-low : {E : Type 0} (num : ℕ → ℕ → Result ℕ E) (n q i s : ℕ) → num (suc (suc n)) i ≡ Ok s → q < 2 ^ n →
    limb num (suc n) q i ≡ limb num n q (lesser s)
limb-low num n q i s e l = let t = lt-ltb q (2 ^ n) l in limb-read num n q i s e ∙ rw t

limb-high : {E : Type 0} (num : ℕ → ℕ → Result ℕ E) (n q i s : ℕ) → num (suc (suc n)) i ≡ Ok s → 2 ^ n ≤ q →
    limb num (suc n) q i ≡ limb num n (q - 2 ^ n) (greater s)
limb-high num n q i s e l = let t = le-ltb q (2 ^ n) l in limb-read num n q i s e ∙ rw t

limb-first : {E : Type 0} (num : ℕ → ℕ → Result ℕ E) (p : PlotLists) (q i : ℕ) → num 1 i ≡ Ok (number_at p 1 i) →
    limb num 0 q i ≡ Ok (branch p 0 q i)
unfolding limb branch
limb-first num p q i e = ap (λ r. after r (λ s. Ok (lesser s, greater s))) e

pub limb_is_the_branch : {E : Type 0} → LimbIsTheBranch E
limb_is_the_branch num p zero q i range reads l g = limb-first num p q i (reads 0 i (omega arith) g)
limb_is_the_branch num p (suc n) q i range reads l g =
    let e = reads (suc n) i (omega arith) g in
    let s = number_at p (suc (suc n)) i in
    let top : greater s < count p (suc n) = subst (λ v. greater s < v) (limit-suc p n) (range.points (suc n) i l g) in
    let o = lesser_below_greater s in
    ⊎_elim
    (λ (h : q < 2 ^ n).
    limb-low num n q i s e h
    ∙ limb_is_the_branch num p n q (lesser s) range reads (omega arith) (omega arith)
    ∙ ap Ok (sym (branch-low p n q i h)))
    (λ (h : 2 ^ n ≤ q).
    limb-high num n q i s e h
    ∙ limb_is_the_branch num p n (q - 2 ^ n) (greater s) range reads (omega arith) top
    ∙ ap Ok (sym (branch-high p n q i h)))
    (cases_lt q (2 ^ n))

pub walk_from_the_top : {E : Type 0} → WalkFromTheTop E
unfolding walk_from
walk_from_the_top num p i range reads l =
    ap (λ r. after r (λ s. walk num 6 (s % 2 ^ (p.k + 1)))) (reads 6 i (omega arith) l)
    ∙ walk_is_the_tree num p 6 (place_in p.k (number_at p 7 i)) range reads (omega arith)
    (subst (λ v. place_in p.k (number_at p 7 i) < v) (sym (limit-suc p 5)) (range.places i l))

pub limb_from_the_top : {E : Type 0} → LimbFromTheTop E
unfolding limb_from
limb_from_the_top num p q i range reads l =
    ap (λ r. after r (λ s. limb num 5 q (s % 2 ^ (p.k + 1)))) (reads 6 i (omega arith) l)
    ∙ limb_is_the_branch num p 5 q (place_in p.k (number_at p 7 i)) range reads (omega arith) (range.places i l)
