-- Line points and the pairs in order are inverse to each other, and line points rise with the pairs.
use Rattle.std.proofs.Common.{◌≡◌, ℕ, zero, suc, ◌+◌, ◌-◌, ◌*◌, ◌/◌, ◌<◌, ◌≤◌, Bool, true, false, nat_lt, if◌then◌else◌, refl, ap, sym, ◌∙◌, add-one, ◌≢◌, max, min, arith}
use Rattle.std.proofs.Math.Nat.{mul-le-mul_left}
use Rattle.std.proofs.lemmas.Bool.{ltb-true, ltb-false}
use Rattle.std.proofs.lemmas.Bool.Decides.{nat_tests}
use Rattle.pos_points.specs.Points.{line_point, point_of}
use Rattle.pos_lists.specs.Pairs.{next_pair, pair_at, greater, lesser}

-- how many pairs there are of numbers below a
unfoldable pub pairs_below : ℕ → ℕ
pairs_below a = a * (a - 1) / 2

-- the same without the division
pub twice : (a : ℕ) → 2 * pairs_below a ≡ a * (a - 1)
unfolding pairs_below
twice zero = refl
twice (suc zero) = refl
twice (suc (suc b)) =
    let e : suc (suc b) - 1 ≡ suc b = omega arith in
    let f : suc b - 1 ≡ b = omega arith in
    let h : 2 * (suc b * b / 2) ≡ suc b * b = rw f at (twice (suc b)) in
    rw e (omega (arith, h))

-- one more number has as many more pairs
pub more : (a : ℕ) → pairs_below (suc a) ≡ pairs_below a + a
unfolding pairs_below
more zero = refl
more (suc b) =
    let e : suc (suc b) - 1 ≡ suc b = omega arith in
    let f : suc b - 1 ≡ b = omega arith in
    rw (e, f) (omega arith)

-- all pairs of a number come before those of a greater one
pub above : (d a c : ℕ) → c ≡ suc (a + d) → pairs_below a + a ≤ pairs_below c
above zero a c e = let e' : c ≡ suc a = omega arith in rw (e', more) (omega arith)
above (suc d) a c e =
    let e' : c ≡ suc (suc (a + d)) = omega arith in
    let h : pairs_below a + a ≤ pairs_below (suc (a + d)) = above d a (suc (a + d)) refl in
    rw (e', more) (omega (arith, h))

pub above_lt : (a c : ℕ) → a < c → pairs_below a + a ≤ pairs_below c
above_lt a c h = above (c - suc a) a c (omega arith)

-- a line point is that many pairs and the lesser number
pub line_point-is : (a b : ℕ) → line_point a b ≡ pairs_below a + b
unfolding line_point pairs_below
line_point-is a b = refl

-- a number of pairs and a place below the next one are found again
pub same_pair : (a b c d : ℕ) → b < a → d < c → pairs_below a + b ≡ pairs_below c + d → (a ≡ c) × (b ≡ d)
same_pair a b c d p q e =
    let same : a ≡ c = grind (arith, above_lt) in
    (same, omega (arith, ap pairs_below same))

-- a pair in order whose line point is the place
abbrev pub IsAt : ℕ × ℕ → ℕ → Type 0
IsAt p s = (p.1 < p.0) × (pairs_below p.0 + p.1 ≡ s)

-- the next pair is at the next place
next_pair-at : (a b s : ℕ) → IsAt (a, b) s → IsAt (next_pair (a, b)) (suc s)
unfolding next_pair
next_pair-at a b s (p, e) = cases (nat_lt (b + 1) a) refl
  where
    cases : (t : Bool) → nat_lt (b + 1) a ≡ t → IsAt (if t then (a, b + 1) else (a + 1, 0)) (suc s)
    cases true h = (ltb-true (b + 1) a h, omega arith)
    cases false h = (omega arith, rw (add-one, more) (omega (arith, ltb-false (b + 1) a h)))

-- the pair at a place has that place as its line point, and its numbers are in order
pub pair_at-is : (s : ℕ) → IsAt (pair_at s) s
unfolding pair_at pairs_below
pair_at-is zero = (omega arith, refl)
pair_at-is (suc s) = next_pair-at (pair_at s).0 (pair_at s).1 s (pair_at-is s)

-- the line point of the pair at a place is the place
pub line_point-pair_at : (s : ℕ) → line_point (greater s) (lesser s) ≡ s
line_point-pair_at s = rw line_point-is (pair_at-is s).1

-- the pair at the line point of two numbers in order is these numbers
pub pair_at-line_point : (a b : ℕ) → b < a → (greater (line_point a b) ≡ a) × (lesser (line_point a b) ≡ b)
pair_at-line_point a b p =
    let h = pair_at-is (line_point a b) in
    same_pair (greater (line_point a b)) (lesser (line_point a b)) a b h.0 p (h.1 ∙ line_point-is a b)

-- a line point rises with the greater number
pub line_point-rises : (a b c d : ℕ) → b < a → a < c → line_point a b < line_point c d
line_point-rises a b c d p q = rw (line_point-is a b, line_point-is c d) (omega (arith, above_lt a c q))

-- two different numbers have one line point in either order
pub point_of-symm : (x y : ℕ) → point_of x y ≡ point_of y x
unfolding point_of
point_of-symm x y = grind (arith, nat_tests)

-- where the order is known
pub point_of-is : (x y : ℕ) → y < x → point_of x y ≡ line_point x y
unfolding point_of
point_of-is x y p = grind (arith, nat_tests)

-- the pair in order at a place is the only one
pub IsAt-only : (a b s : ℕ) → IsAt (a, b) s → (greater s ≡ a) × (lesser s ≡ b) × (point_of a b ≡ s)
IsAt-only a b s h =
    let at = pair_at-is s in
    let same : (greater s ≡ a) × (lesser s ≡ b) = same_pair (greater s) (lesser s) a b at.0 h.0 (at.1 ∙ sym h.1) in
    (same.0, same.1, point_of-is a b h.0 ∙ line_point-is a b ∙ h.1)

twice_suc : (t : ℕ) → 2 * pairs_below (suc t) ≡ suc t * t
twice_suc t = let e : suc t - 1 ≡ t = omega arith in rw e at (twice (suc t))

-- the greater number of a pair is the root of twice the place and one, or one more
module _ (s root : ℕ) (low : root * root ≤ 2 * s + 1) (high : 2 * s + 1 < (root + 1) * (root + 1)) where
  pub found_above : pairs_below (root + 1) ≤ s → IsAt (root + 1, s - pairs_below (root + 1)) s
  found_above h =
      let e : pairs_below (root + 1) ≡ pairs_below (suc root) = ap pairs_below (add-one root) in
      (omega (arith, e, twice_suc root), omega arith)

  pub found_here : s < pairs_below (root + 1) → IsAt (root, s - pairs_below root) s
  found_here h =
      let e : pairs_below (root + 1) ≡ pairs_below root + root = ap pairs_below (add-one root) ∙ more root in
      let f : 2 * pairs_below (root + 1) ≡ (root + 1) * root = ap (λ t. 2 * pairs_below t) (add-one root) ∙ (twice_suc root ∙ ap (λ t. t * root) (sym (add-one root))) in
      (omega (arith, e, f), omega (arith, e, f))

-- the pair that the code takes, where it has the first point of each number that it tries
pub taken_above : (s root first g first' : ℕ) → root * root ≤ 2 * s + 1 → 2 * s + 1 < (root + 1) * (root + 1) → first ≡ pairs_below (root + 1) → first ≤ s → g ≡ root + 1 → first' ≡ pairs_below g → IsAt (g, s - first') s
taken_above s root first g first' low high e p f e' = rw (e', f) (found_above s root low high (rw e at p))

pub taken_here : (s root first g first' : ℕ) → root * root ≤ 2 * s + 1 → 2 * s + 1 < (root + 1) * (root + 1) → first ≡ pairs_below (root + 1) → s < first → g ≡ root → first' ≡ pairs_below g → IsAt (g, s - first') s
taken_here s root first g first' low high e p f e' = rw (e', f) (found_here s root low high (rw e at p))

-- a line point rises with the lesser number
pub line_point-lesser : (a b d : ℕ) → b < d → line_point a b < line_point a d
line_point-lesser a b d p = rw (line_point-is a b, line_point-is a d) (omega arith)

-- the points of numbers below n are below half of n squared
pub line_point-bound : (a b n : ℕ) → b < a → a < n → 2 * line_point a b < n * n
line_point-bound a b n p q =
    let h : pairs_below a + a ≤ pairs_below n = above_lt a n q in
    let g : n * (n - 1) ≤ n * n = mul-le-mul_left n (omega arith) in
    rw line_point-is (omega (arith, twice n, g))

-- the pair of the point of two different numbers
pub point_of-pair : (x y : ℕ) → x ≢ y → (greater (point_of x y) ≡ max x y) × (lesser (point_of x y) ≡ min x y)
unfolding point_of
point_of-pair x y p = cases (nat_lt x y) refl
  where
    cases : (t : Bool) → nat_lt x y ≡ t → (greater (if t then line_point y x else line_point x y) ≡ max x y) × (lesser (if t then line_point y x else line_point x y) ≡ min x y)
    cases true h =
        let lt : x < y = ltb-true x y h in
        let at = pair_at-line_point y x lt in
        (omega (arith, at.0), omega (arith, at.1))
    cases false h =
        let lt : y < x = omega (arith, ltb-false x y h) in
        let at = pair_at-line_point x y lt in
        (omega (arith, at.0), omega (arith, at.1))
