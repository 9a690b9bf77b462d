-- What trees need of line points, from the laws of line points.
use Rattle.std.proofs.Common.{◌≡◌, ◌≢◌, ℕ, ◌<◌, inl, inr, ⊎_elim, ap, ap₂, arith}
use Rattle.std.proofs.lemmas.Bool.{cases_order}
use Rattle.pos_points.specs.Points.{line_point, point_of}
use Rattle.pos_lists.specs.Pairs.{greater, lesser}
use Rattle.pos_points.proofs.PointLemmas.{pair_at-is, line_point-pair_at, line_point-rises, line_point-lesser, point_of-pair, point_of-symm}
use Rattle.pos_laws.specs.OrderLaws.{PointsRise}

pub point_of_a_pair : (s : ℕ) → (lesser s < greater s) × (line_point (greater s) (lesser s) ≡ s)
point_of_a_pair s = ((pair_at-is s).0, line_point-pair_at s)

-- the greater number of the greater place is not the lesser one, and where they are the same the lesser numbers decide
pub points_rise : PointsRise
points_rise s t h =
    let p = point_of_a_pair s in
    let q = point_of_a_pair t in
    ⊎_elim
    (λ (g : greater s ≡ greater t).
    inr (
      g,
      ⊎_elim
          (λ (e : lesser s ≡ lesser t). absurd (omega (arith, p.1, q.1, ap₂ line_point g e)))
          (⊎_elim
          (λ (e : lesser s < lesser t). e)
          (λ (e : lesser t < lesser s).
          absurd (omega (arith, p.1, q.1, line_point-lesser (greater t) (lesser t) (lesser s) e, ap (λ a. line_point a (lesser s)) g))))
          (cases_order (lesser s) (lesser t)),
    ))
    (⊎_elim inl
    (λ (g : greater t < greater s).
    absurd (omega (arith, p.1, q.1, line_point-rises (greater t) (lesser t) (greater s) (lesser s) q.0 g))))
    (cases_order (greater s) (greater t))

-- the two numbers of a point, the lesser one named first
pub point_has_its_pair : (x y : ℕ) → x < y → (lesser (point_of x y) ≡ x) × (greater (point_of x y) ≡ y) × (point_of y x ≡ point_of x y)
point_has_its_pair x y h =
    let differ : x ≢ y = λ e. omega arith in
    let p = point_of-pair x y differ in
    (omega (arith, p.1), omega (arith, p.0), point_of-symm y x)
