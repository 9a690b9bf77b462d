-- Reading a tree or a branch from numbers that may be damaged: num t i answers number i of table t, or what is
-- wrong there. The first thing that is wrong is answered.
use Rattle.std.specs.Prelude.{◌≡◌, ℕ, zero, suc, ◌-◌, ◌^◌, ◌<◌, nat_lt, if◌then◌else◌, List, [], ◌∷◌, ◌++◌, Result, Ok, Err}
use Rattle.pos_lists.specs.Pairs.{greater, lesser}
use Rattle.pos_lists.specs.PlotLists.{PlotLists, count, number_at, place_in}

-- what comes after something that went well
abbrev pub after : {E A B : Type 0} → Result A E → (A → Result B E) → Result B E
after (Ok x) f = f x
after (Err e) f = Err e

-- two lists joined
abbrev pub join_ok : {E : Type 0} → Result (List ℕ) E → Result (List ℕ) E → Result (List ℕ) E
join_ok (Err e) b = Err e
join_ok (Ok xs) (Err e) = Err e
join_ok (Ok xs) (Ok ys) = Ok (xs ++ ys)

-- the 2 ^ n values of place i of table n: first all below the lesser place, then all below the greater
unfoldable pub walk : {E : Type 0} → (ℕ → ℕ → Result ℕ E) → ℕ → ℕ → Result (List ℕ) E
walk num zero i = Ok (i ∷ [])
walk num (suc n) i =
    after (num (suc n) i) (λ s. join_ok (walk num n (lesser s)) (walk num n (greater s)))

-- the two values at the end of a branch of place i of table n + 1, as the bits of q choose
unfoldable pub limb : {E : Type 0} → (ℕ → ℕ → Result ℕ E) → ℕ → ℕ → ℕ → Result (ℕ × ℕ) E
limb num zero q i = after (num 1 i) (λ s. Ok (lesser s, greater s))
limb num (suc n) q i =
    after (num (suc (suc n)) i)
    (λ s. if nat_lt q (2 ^ n) then limb num n q (lesser s) else limb num n (q - 2 ^ n) (greater s))

-- the 64 values, and the two values of a branch, of place i of table 7, for a size k
unfoldable pub walk_from : {E : Type 0} → (ℕ → ℕ → Result ℕ E) → ℕ → ℕ → Result (List ℕ) E
walk_from num k i = after (num 7 i) (λ s. walk num 6 (place_in k s))

unfoldable pub limb_from : {E : Type 0} → (ℕ → ℕ → Result ℕ E) → ℕ → ℕ → ℕ → Result (ℕ × ℕ) E
limb_from num k q i = after (num 7 i) (λ s. limb num 5 q (place_in k s))

-- num reads the plot p, with nothing wrong at any of its places
abbrev pub ReadsPlot : {E : Type 0} → (ℕ → ℕ → Result ℕ E) → PlotLists → Type 0
ReadsPlot num p = (n i : ℕ) → n < 7 → i < count p (suc n) → num (suc n) i ≡ Ok (number_at p (suc n) i)

-- num answers in table 1 only numbers of two values below 2 ^ k
abbrev pub ReadsValues : {E : Type 0} → (ℕ → ℕ → Result ℕ E) → ℕ → Type 0
ReadsValues num k = (i s : ℕ) → num 1 i ≡ Ok s → greater s < 2 ^ k
