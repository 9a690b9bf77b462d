-- What is kept, by place in 64 values, by halving, and by the used places of the tables.
use Rattle.std.proofs.Common.{◌≡◌, ℕ, zero, suc, ◌+◌, ◌-◌, ◌*◌, ◌/◌, ◌%◌, ◌^◌, ◌<◌, inl, inr, ⊎_elim, List, take, drop, sym, refl, ap, ◌∙◌, subst, arith, take-take, drop-drop, take_all, add-mul, mul-add, one-mul, ◌≢◌}
use Rattle.std.proofs.lemmas.Bool.{cases_eq}
use Rattle.std.proofs.lemmas.List.{drop-take}
use Rattle.pos_laws.specs.Tables.{HasNode, Describes}
use Rattle.pos_lists.specs.TableLists.{TableLists, entries, left_of, right_of, tuple}
use Rattle.pos_laws.specs.Kept.{IsPart, IsHalved}
use Rattle.pos_lists.specs.Used.{IsReached}
use Rattle.pos_laws.specs.PruningLaws.{UsedIsKept}
use Rattle.pos_laws.specs.PlotLaws.{KeptIsHalved}
use Rattle.pos_order.proofs.PlotOrderLemmas.{double}
use Rattle.pos_order.proofs.NodeParts.{nodes_have_their_length}
use Rattle.pos_laws.proofs.Described.{first_half, second_half}
use Rattle.pos_lists.proofs.UsedLemmas.{inside_by_distance}

-- ---- a half of a part is a part

place_twice : (n a : ℕ) → a * 2 ^ suc n ≡ (a + a) * 2 ^ n
place_twice n a =
    let e : a * 2 ^ suc n ≡ a * (2 ^ n + 2 ^ n) = ap (λ q. a * q) (double n) in
    let f : a * (2 ^ n + 2 ^ n) ≡ a * 2 ^ n + a * 2 ^ n = mul-add a (2 ^ n) (2 ^ n) in
    let g : (a + a) * 2 ^ n ≡ a * 2 ^ n + a * 2 ^ n = add-mul a a (2 ^ n) in
    e ∙ f ∙ sym g

first_of_part : (n a : ℕ) (zs : List ℕ) →
    take (2 ^ n) (take (2 ^ suc n) (drop (a * 2 ^ suc n) zs)) ≡ take (2 ^ n) (drop ((a + a) * 2 ^ n) zs)
first_of_part n a zs =
    let d = double n in
    take-take (2 ^ n) (2 ^ suc n) _ (omega arith) ∙ ap (λ q. take (2 ^ n) (drop q zs)) (place_twice n a)

second_of_part : (n a : ℕ) (zs : List ℕ) →
    drop (2 ^ n) (take (2 ^ suc n) (drop (a * 2 ^ suc n) zs)) ≡ take (2 ^ n) (drop ((a + a + 1) * 2 ^ n) zs)
second_of_part n a zs =
    let e : a * 2 ^ suc n + 2 ^ n ≡ (a + a + 1) * 2 ^ n =
    ap (λ q. q + 2 ^ n) (place_twice n a) ∙ sym (add-mul (a + a) 1 (2 ^ n) ∙ ap (λ q. (a + a) * 2 ^ n + q) (one-mul (2 ^ n))) in
    ap (λ q. drop (2 ^ n) (take q (drop (a * 2 ^ suc n) zs))) (double n)
    ∙ drop-take (2 ^ n) (2 ^ n) (drop (a * 2 ^ suc n) zs)
    ∙ ap (take (2 ^ n)) (drop-drop (2 ^ n) (a * 2 ^ suc n) zs ∙ ap (λ q. drop q zs) e)

-- ---- by place and by halving, d levels below level 6

abbrev PartOfNode : List ℕ → ℕ → ℕ → ℕ → List ℕ → Type 0
PartOfNode id k d n xs = (zs : List ℕ) × (a : ℕ) × (a < 2 ^ d) × HasNode id k 6 zs × IsPart n a xs zs

whole_part : (id : List ℕ) (k : ℕ) (zs : List ℕ) → HasNode id k 6 zs → take (2 ^ 6) (drop (0 * 2 ^ 6) zs) ≡ zs
whole_part id k zs h = take_all 64 zs (omega (arith, nodes_have_their_length id k 6 zs h))

part_from_halved : (id : List ℕ) (k d n : ℕ) (xs : List ℕ) → n + d ≡ 6 → IsHalved id k d n xs → PartOfNode id k d n xs
unfolding IsHalved
part_from_halved id k zero n xs e h =
    let f : 6 ≡ n = omega arith in
    let g : HasNode id k 6 xs = subst (λ q. HasNode id k q xs) (sym f) h in
    (xs, 0, omega arith, g, subst (λ q. xs ≡ take (2 ^ q) (drop (0 * 2 ^ q) xs)) f (sym (whole_part id k xs g)))
part_from_halved id k (suc d) n xs e h =
    let p = part_from_halved id k d (suc n) h.0 (omega arith) h.1 in
    let w = double d in
    ⊎_elim
    (λ (f : xs ≡ take (2 ^ n) h.0). (p.0, p.1 + p.1, omega (arith, p.2), p.3, f ∙ ap (take (2 ^ n)) p.4 ∙ first_of_part n p.1 p.0))
    (λ (f : xs ≡ drop (2 ^ n) h.0). (p.0, p.1 + p.1 + 1, omega (arith, p.2), p.3, f ∙ ap (drop (2 ^ n)) p.4 ∙ second_of_part n p.1 p.0))
    h.2

halved_at : (id : List ℕ) (k d n : ℕ) (zs : List ℕ) (a : ℕ) → n + d ≡ 6 → a < 2 ^ d → HasNode id k 6 zs →
    IsHalved id k d n (take (2 ^ n) (drop (a * 2 ^ n) zs))
unfolding IsHalved
halved_at id k zero n zs a e l h =
    let f : 6 ≡ n = omega arith in
    let g : 0 ≡ a = omega arith in
    subst (λ q. HasNode id k q (take (2 ^ q) (drop (a * 2 ^ q) zs))) f
    (subst (λ b. HasNode id k 6 (take (2 ^ 6) (drop (b * 2 ^ 6) zs))) g
    (subst (HasNode id k 6) (sym (whole_part id k zs h)) h))
halved_at id k (suc d) n zs a e l h =
    let w = double d in
    let up = halved_at id k d (suc n) zs (a / 2) (omega arith) (omega arith) h in (
      take (2 ^ suc n) (drop (a / 2 * 2 ^ suc n) zs),
      up,
      ⊎_elim
          (λ (f : a % 2 ≡ 0).
          let g : a ≡ a / 2 + a / 2 = omega arith in
          inl (ap (λ b. take (2 ^ n) (drop (b * 2 ^ n) zs)) g ∙ sym (first_of_part n (a / 2) zs)))
          (λ (f : a % 2 ≢ 0).
          let g : a ≡ a / 2 + a / 2 + 1 = omega arith in
          inr (ap (λ b. take (2 ^ n) (drop (b * 2 ^ n) zs)) g ∙ sym (second_of_part n (a / 2) zs)))
          (cases_eq (a % 2) 0),
    )

pub kept_is_halved : KeptIsHalved
kept_is_halved id k n xs l = (
  λ h. subst (IsHalved id k (6 - n) n) (sym h.4) (halved_at id k (6 - n) n h.0 h.1 (omega arith) h.2 h.3),
  λ h. part_from_halved id k (6 - n) n xs (omega arith) h,
)

-- ---- by the used places

reached_from_halved : (ts : TableLists) (id : List ℕ) (k : ℕ) → Describes ts id k → (d n : ℕ) (xs : List ℕ) → n + d ≡ 6 →
    IsHalved id k d n xs → (i : ℕ) × IsReached ts d n i × (tuple ts n i ≡ xs)
unfolding IsHalved IsReached
reached_from_halved ts id k t zero n xs e h = t.all n xs (omega arith) h
reached_from_halved ts id k t (suc d) n xs e h =
    let j = reached_from_halved ts id k t d (suc n) h.0 (omega arith) h.1 in
    let l : j.0 < entries ts (suc n) = inside_by_distance ts t.inside d (suc n) j.0 (omega arith) j.1 in
    ⊎_elim
    (λ (f : xs ≡ take (2 ^ n) h.0). (
      left_of ts (suc n) j.0,
      (j.0, j.1, inl refl),
      sym (first_half ts id k n j.0 t (omega arith) l) ∙ ap (take (2 ^ n)) j.2 ∙ sym f,
    ))
    (λ (f : xs ≡ drop (2 ^ n) h.0). (
      right_of ts (suc n) j.0,
      (j.0, j.1, inr refl),
      sym (second_half ts id k n j.0 t (omega arith) l) ∙ ap (drop (2 ^ n)) j.2 ∙ sym f,
    ))
    h.2

halved_from_reached : (ts : TableLists) (id : List ℕ) (k : ℕ) → Describes ts id k → (d n i : ℕ) → n + d ≡ 6 →
    IsReached ts d n i → IsHalved id k d n (tuple ts n i)
unfolding IsHalved IsReached
halved_from_reached ts id k t zero n i e h = t.nodes n i (omega arith) h
halved_from_reached ts id k t (suc d) n i e h =
    let l : h.0 < entries ts (suc n) = inside_by_distance ts t.inside d (suc n) h.0 (omega arith) h.1 in (
      tuple ts (suc n) h.0,
      halved_from_reached ts id k t d (suc n) h.0 (omega arith) h.1,
      ⊎_elim
          (λ (f : i ≡ left_of ts (suc n) h.0). inl (ap (tuple ts n) f ∙ sym (first_half ts id k n h.0 t (omega arith) l)))
          (λ (f : i ≡ right_of ts (suc n) h.0). inr (ap (tuple ts n) f ∙ sym (second_half ts id k n h.0 t (omega arith) l)))
          h.2,
    )

pub used_is_kept : UsedIsKept
used_is_kept ts id k n xs l t = (
  λ h. reached_from_halved ts id k t (6 - n) n xs (omega arith) ((kept_is_halved id k n xs l).0 h),
  λ h.
      (kept_is_halved id k n xs l).1
      (subst (IsHalved id k (6 - n) n) h.2 (halved_from_reached ts id k t (6 - n) n h.0 (omega arith) h.1)),
)
