-- Two lists that rise by one order and have the same elements are one list.
use Rattle.std.proofs.Common.{◌≡◌, ℕ, zero, suc, ◌<◌, ◌⊎◌, inl, inr, ⊎_elim, List, [], ◌∷◌, length, slice_index_or, AllPairs, Contains, sym, refl, ap₂, ◌∙◌, subst, arith}
use Rattle.std.proofs.lemmas.List.{get_or_default}

-- an element of a list is its first, or is in the rest
pub contains_cases : {X : Type 0} (x z : X) (xs : List X) → Contains (x ∷ xs) z → (z ≡ x) ⊎ Contains xs z
contains_cases x z xs c = at c.0 c.1 c.2
  where
    at : (k : ℕ) → k < suc (length xs) → slice_index_or (x ∷ xs) k z ≡ z → (z ≡ x) ⊎ Contains xs z
    at zero l e = inl (sym e)
    at (suc k) l e = inr (k, omega arith, e)

pub contains_first : {X : Type 0} (x : X) (xs : List X) → Contains (x ∷ xs) x
contains_first x xs = (0, omega arith, refl)

pub contains_rest : {X : Type 0} (x z : X) (xs : List X) → Contains xs z → Contains (x ∷ xs) z
contains_rest x z xs c = (suc c.0, omega (arith, c.1), c.2)

-- the first is before each of the rest, and the rest rises
pub first_before : {X : Type 0} (R : X → X → Type 0) (x z : X) (xs : List X) → AllPairs R (x ∷ xs) → Contains xs z → R x z
first_before R x z xs rise c = subst (R x) c.2 (rise 0 (suc c.0) z (omega arith) (omega (arith, c.1)))

pub rest_rises : {X : Type 0} (R : X → X → Type 0) (x : X) (xs : List X) → AllPairs R (x ∷ xs) → AllPairs R xs
rest_rises R x xs rise i j d l h = rise (suc i) (suc j) d (omega arith) (omega arith)

pub same_rising : {X : Type 0} (R : X → X → Type 0) → ((x y : X) → R x y → R y x → ⊥) → (xs ys : List X) →
    AllPairs R xs → AllPairs R ys → ((z : X) → Contains xs z → Contains ys z) → ((z : X) → Contains ys z → Contains xs z) → xs ≡ ys
same_rising R one_way [] [] rx ry to from = refl
same_rising R one_way [] (y ∷ ys) rx ry to from = absurd (omega (arith, (from y (contains_first y ys)).1))
same_rising R one_way (x ∷ xs) [] rx ry to from = absurd (omega (arith, (to x (contains_first x xs)).1))
same_rising R one_way (x ∷ xs) (y ∷ ys) rx ry to from =
    ap₂ (λ a b. a ∷ b) same
    (same_rising R one_way xs ys (rest_rises R x xs rx) (rest_rises R y ys ry)
    (λ z c.
    ⊎_elim
    (λ (e : z ≡ y). absurd (let o = subst (R x) (e ∙ sym same) (first_before R x z xs rx c) in one_way x x o o))
    (λ g. g)
    (contains_cases y z ys (to z (contains_rest x z xs c))))
    (λ z c.
    ⊎_elim
    (λ (e : z ≡ x). absurd (let o = subst (R y) (e ∙ same) (first_before R y z ys ry c) in one_way y y o o))
    (λ g. g)
    (contains_cases x z xs (from z (contains_rest y z ys c)))))
  where
    same : x ≡ y
    same =
        ⊎_elim
        (λ e. e)
        (λ c.
        ⊎_elim
        (λ e. sym e)
        (λ g. absurd (one_way x y (first_before R x y xs rx g) (first_before R y x ys ry c)))
        (contains_cases x y xs (from y (contains_first y ys))))
        (contains_cases y x ys (to x (contains_first x xs)))

-- an element by its place, at a default of choice
pub contains_at : {X : Type 0} (xs : List X) (i : ℕ) (d : X) → i < length xs → Contains xs (slice_index_or xs i d)
contains_at xs i d l = (i, l, get_or_default xs i (slice_index_or xs i d) d l)

pub at_contained : {X : Type 0} (xs : List X) (z d : X) → Contains xs z → (i : ℕ) × (i < length xs) × (slice_index_or xs i d ≡ z)
at_contained xs z d c = (c.0, c.1, get_or_default xs c.0 d z c.1 ∙ c.2)
