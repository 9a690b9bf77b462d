-- The order of tuples, and plot order. Source: chiapos, `CompareProofBits` and `GetQualityString`.
-- A tuple is a list of values, each below 2 ^ k.
use Rattle.std.specs.Prelude.{◌≡◌, ℕ, zero, suc, ◌^◌, ◌<◌, Bool, true, false, ◌||◌, ◌&&◌, ◌==◌, nat_lt, if◌then◌else◌, ◌⊎◌, List, [], ◌∷◌, ◌++◌, length, take, drop, slice_index}

-- at this place a has the lesser value, and behind it both are the same
pub record DiffersAt (a b : List ℕ) (i : ℕ) : Type 0 where
  pub inside : i < length a
  pub less : slice_index a i < slice_index b i
  pub same : (j : ℕ) → i < j → j < length a → slice_index a j ≡ slice_index b j

-- two lists of one length differ, and at the last place where they do a has the lesser value
pub record Below (a b : List ℕ) : Type 0 where
  pub one_length : length a ≡ length b
  pub last : (i : ℕ) × DiffersAt a b i

-- the same values in the same order
abbrev pub is_same : List ℕ → List ℕ → Bool
is_same [] [] = true
is_same [] (y ∷ ys) = false
is_same (x ∷ xs) [] = false
is_same (x ∷ xs) (y ∷ ys) = x == y && is_same xs ys

-- Below as a test that computes, for lists of one length: the rests decide, then the first values
unfoldable pub is_below : List ℕ → List ℕ → Bool
is_below [] ys = false
is_below (x ∷ xs) [] = false
is_below (x ∷ xs) (y ∷ ys) = is_below xs ys || (is_same xs ys && nat_lt x y)

-- two halves, the one that is below the other first; halves that are the same stay as they stand
unfoldable pub lesser_first : List ℕ → List ℕ → List ℕ
lesser_first a b = if is_below b a then b ++ a else a ++ b

-- the plot order of 2 ^ n values: both halves in plot order, the lesser half first
unfoldable pub plot_order : ℕ → List ℕ → List ℕ
plot_order zero xs = xs
plot_order (suc n) xs = lesser_first (plot_order n (take (2 ^ n) xs)) (plot_order n (drop (2 ^ n) xs))

-- zs is xs, 2 ^ n values, with halves exchanged at any places of any levels
unfoldable pub Turning : ℕ → List ℕ → List ℕ → Type 0
Turning zero zs xs = zs ≡ xs
Turning (suc n) zs xs =
    (Turning n (take (2 ^ n) zs) (take (2 ^ n) xs) × Turning n (drop (2 ^ n) zs) (drop (2 ^ n) xs))
    ⊎ (Turning n (take (2 ^ n) zs) (drop (2 ^ n) xs) × Turning n (drop (2 ^ n) zs) (take (2 ^ n) xs))
