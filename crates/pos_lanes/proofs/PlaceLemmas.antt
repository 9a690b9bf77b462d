-- Lemmas on places of lists.
use Rattle.std.proofs.Common.{◌≡◌, ℕ, zero, suc, ◌<◌, List, [], ◌∷◌, Some, length, slice_get, slice_index_or, arith, refl}
use Rattle.std.specs.Simd.Lanes.{zip2}

-- the element at a place inside, read with any default
pub got : {A : Type 0} (xs : List A) (i : ℕ) (d : A) → i < length xs → slice_get xs i ≡ Some (slice_index_or xs i d)
got [] i d inside = absurd (omega arith)
got (x ∷ xs) zero d inside = refl
got (x ∷ xs) (suc i) d inside = got xs i d (omega arith)

-- two lists joined by a function, at a place of both
pub zip2-got : {A B C : Type 0} (f : A → B → C) (xs : List A) (ys : List B) (i : ℕ) (x : A) (y : B)
    → slice_get xs i ≡ Some x → slice_get ys i ≡ Some y → slice_get (zip2 f xs ys) i ≡ Some (f x y)
zip2-got f [] ys i x y at_x at_y = absurd (cc)
zip2-got f (a ∷ xs) [] i x y at_x at_y = absurd (cc)
zip2-got f (a ∷ xs) (b ∷ ys) zero x y at_x at_y = cc
zip2-got f (a ∷ xs) (b ∷ ys) (suc i) x y at_x at_y = zip2-got f xs ys i x y at_x at_y
