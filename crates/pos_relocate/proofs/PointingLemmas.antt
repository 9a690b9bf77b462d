-- Points of pairs of numbers below a limit.
use Rattle.std.proofs.Common.{◌≡◌, ◌≢◌, ℕ, suc, ◌+◌, ◌-◌, ◌*◌, ◌/◌, ◌^◌, ◌<◌, ◌≤◌, ◌⊎◌, Some, List, sym, ap, ◌∙◌, subst, inl, inr, arith}
use Rattle.std.specs.Prelude.{slice_get, slice_index}
use Rattle.std.proofs.Math.Nat.{mul-le-mul}
use Rattle.std.proofs.Math.Pow.{pow_mono}
use Rattle.std.proofs.lemmas.Nat.{pow-add}
use Rattle.std.proofs.lemmas.Option.{get_or_from_slice_get}
use Rattle.std.proofs.lemmas.Bool.{cases_lt}
use Rattle.pos_edge.specs.declared.scratch.ScratchDamage.{ScratchDamage}
use Rattle.pos_lists.specs.TableLists.{TableLists, pairs_of, left_of, right_of}
use Rattle.pos_laws.specs.Renumbering.{point_at}
use Rattle.pos_relocate.specs.Gathering.{IsOneNumber, IsOutsideBelow}
use Rattle.pos_points.specs.Points.{line_point, point_of}
use Rattle.pos_points.proofs.PointLemmas.{above_lt, line_point-bound, line_point-is, pairs_below, point_of-is, point_of-symm}

-- the line point of a greater number and a lesser one is below the count of pairs of numbers below a limit
line_small : (a b limit : ℕ) → b < a → a < limit → line_point a b < limit * (limit - 1) / 2
unfolding pairs_below
line_small a b limit less below =
    let is = line_point-is a b in
    let h = above_lt a limit below in
    omega arith

-- in either order
pub point_small : (x y limit : ℕ) → x ≢ y → x < limit → y < limit → (point_of x y < limit * (limit - 1) / 2) × (2 * point_of x y < limit * limit)
point_small x y limit differ p q = elim (cases_lt x y) [
  | inl less ↦
      let is : point_of x y ≡ line_point y x = point_of-symm x y ∙ point_of-is y x less in
      subst (λ (n : ℕ). (n < limit * (limit - 1) / 2) × (2 * n < limit * limit)) (sym is) (line_small y x limit less q, line_point-bound y x limit less q)
  | inr more ↦
      let less : y < x = omega arith in
      subst (λ (n : ℕ). (n < limit * (limit - 1) / 2) × (2 * n < limit * limit)) (sym (point_of-is x y less)) (line_small x y limit less p, line_point-bound x y limit less p)
]

-- a point of numbers below 2 ^ (k + 1) has 2k + 2 bits
pub point_fits : (k limit point : ℕ) → limit ≤ 2 ^ (k + 1) → 2 * point < limit * limit → point < 2 ^ (2 * k + 2)
point_fits k limit point few below =
    let square : limit * limit ≤ 2 ^ (k + 1) * 2 ^ (k + 1) = mul-le-mul few few in
    let e : k + 1 + (k + 1) ≡ 2 * k + 2 = omega arith in
    let power : 2 ^ (2 * k + 2) ≡ 2 ^ (k + 1) * 2 ^ (k + 1) = ap (λ n. 2 ^ n) (sym e) ∙ pow-add 2 (k + 1) (k + 1) in
    omega arith

-- such numbers have 63 bits
pub number_fits : (k limit x : ℕ) → k ≤ 50 → limit ≤ 2 ^ (k + 1) → x < limit → x < 2 ^ 63
number_fits k limit x size few below =
    let wide : k + 1 ≤ 63 = omega arith in
    let p : 2 ^ (k + 1) ≤ 2 ^ 63 = pow_mono wide in
    omega arith

-- the two places of a pair that was read
pub pair_places : (ts : TableLists) (t i left right : ℕ) → 2 ≤ t → slice_get (pairs_of ts (t - 1)) i ≡ Some (left, right) →
    (left_of ts (suc (t - 2)) i ≡ left) × (right_of ts (suc (t - 2)) i ≡ right)
pair_places ts t i left right first got =
    let e : suc (t - 2) ≡ t - 1 = omega arith in
    let at = get_or_from_slice_get (pairs_of ts (t - 1)) i (left, right) (0, 0) got in
    (ap (λ (n : ℕ). left_of ts n i) e ∙ ap (λ (p : ℕ × ℕ). p.0) at, ap (λ (n : ℕ). right_of ts n i) e ∙ ap (λ (p : ℕ × ℕ). p.1) at)

-- the point of a pair that was read
pub pair_point : (ts : TableLists) (t i left right point : ℕ) (below : List ℕ) → 2 ≤ t → slice_get (pairs_of ts (t - 1)) i ≡ Some (left, right) →
    point ≡ point_of (slice_index below left) (slice_index below right) → point ≡ point_at ts (t - 2) (slice_index below) i
pair_point ts t i left right point below first got is =
    let at = pair_places ts t i left right first got in
    is ∙ (ap (λ n. point_of (slice_index below n) (slice_index below right)) (sym at.0) ∙ ap (λ n. point_of (slice_index below (left_of ts (suc (t - 2)) i)) (slice_index below n)) (sym at.1))

-- a pair with one number twice
pub pair_twice : (ts : TableLists) (t i left right limit file number : ℕ) (below : List ℕ) (damage : ScratchDamage) → 2 ≤ t → slice_get (pairs_of ts (t - 1)) i ≡ Some (left, right) →
    slice_index below left ≡ slice_index below right → file ≡ number →
    damage ≡ record { file = file; at = right; found = slice_index below right; least = slice_index below right + 1; limit = limit } →
    IsOneNumber ts (t - 2) i limit number (slice_index below) damage
pair_twice ts t i left right limit file number below damage first got same is_file is =
    let at = pair_places ts t i left right first got in
    let place : damage.at ≡ right = ap (λ (d : ScratchDamage). d.at) is in
    let found : damage.found ≡ slice_index below right = ap (λ (d : ScratchDamage). d.found) is in
    record {
      file_is = ap (λ (d : ScratchDamage). d.file) is ∙ is_file;
      place = place ∙ sym at.1;
      found = found ∙ sym (ap (slice_index below) place);
      same = ap (slice_index below) at.0 ∙ same ∙ sym found;
      least = ap (λ (d : ScratchDamage). d.least) is ∙ ap (λ n. n + 1) (sym found);
      limit = ap (λ (d : ScratchDamage). d.limit) is;
    }

-- a pair with a place that is not below the count of the table below
pub pair_outside : (ts : TableLists) (t i left right place count file number : ℕ) (damage : ScratchDamage) → 2 ≤ t → slice_get (pairs_of ts (t - 1)) i ≡ Some (left, right) →
    (place ≡ left) ⊎ (place ≡ right) → count ≤ place → file ≡ number → damage ≡ record { file = file; at = i; found = place; least = 0; limit = count } →
    IsOutsideBelow ts (t - 2) i count number damage
pair_outside ts t i left right place count file number damage first got which above is_file is =
    let at = pair_places ts t i left right first got in
    let found : damage.found ≡ place = ap (λ (d : ScratchDamage). d.found) is in
    let limit : damage.limit ≡ count = ap (λ (d : ScratchDamage). d.limit) is in
    record {
      file_is = ap (λ (d : ScratchDamage). d.file) is ∙ is_file;
      place = ap (λ (d : ScratchDamage). d.at) is;
      found = elim which [
        | inl left ↦ inl (found ∙ (left ∙ sym at.0))
        | inr right ↦ inr (found ∙ (right ∙ sym at.1))
      ];
      least = ap (λ (d : ScratchDamage). d.least) is;
      limit = limit;
      above = omega arith;
    }

-- a point over the numbers that were read
pub same_point : (point x y first second : ℕ) → point ≡ point_of x y → x ≡ first → y ≡ second → point ≡ point_of first second
same_point point x y first second is a b = is ∙ (ap (λ n. point_of n y) a ∙ ap (point_of first) b)
