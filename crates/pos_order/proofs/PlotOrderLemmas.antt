-- Plot order: lengths, bounds of values, and that turnings have one plot order.
use Rattle.std.proofs.Common.{◌≡◌, ℕ, zero, suc, ◌+◌, ◌-◌, ◌*◌, ◌/◌, ◌^◌, inl, inr, ⊎_elim, List, length, take, drop, sym, refl, ap, ap₂, ◌∙◌, subst, arith, length-append, length-drop, length-take-le, take-append-drop}
use Rattle.std.proofs.Math.Nat.{pow-suc}
use Rattle.std.specs.Prelude.{All}
use Rattle.std.proofs.lemmas.List.Elements.{All-append, All-take, All-drop}
use Rattle.pos_order.specs.Order.{lesser_first, plot_order, Turning}
use Rattle.pos_order.proofs.OrderLemmas.{lesser_first_cases, length-lesser_first, lesser_first_comm}

-- twice as many values at the next level
pub double : (n : ℕ) → 2 ^ suc n ≡ 2 ^ n + 2 ^ n
double n = let e : 2 ^ suc n ≡ 2 ^ n * 2 = pow-suc 2 n in omega arith

-- ---- lengths

pub length_halves : (n : ℕ) (xs : List ℕ) → length (take n xs) + length (drop n xs) ≡ length xs
length_halves n xs = sym (length-append (take n xs) (drop n xs)) ∙ ap length (take-append-drop n xs)

pub length_first_half : (n : ℕ) (xs : List ℕ) → length xs ≡ 2 ^ suc n → length (take (2 ^ n) xs) ≡ 2 ^ n
length_first_half n xs e = let d = double n in length-take-le (2 ^ n) xs (omega arith)

pub length_second_half : (n : ℕ) (xs : List ℕ) → length xs ≡ 2 ^ suc n → length (drop (2 ^ n) xs) ≡ 2 ^ n
length_second_half n xs e = let d = double n in omega (arith, length-drop (2 ^ n) xs)

pub length-plot_order : (n : ℕ) (xs : List ℕ) → length (plot_order n xs) ≡ length xs
unfolding plot_order
length-plot_order zero xs = refl
length-plot_order (suc n) xs =
    length-lesser_first _ _
    ∙ ap₂ (λ a b. a + b) (length-plot_order n _) (length-plot_order n _)
    ∙ length_halves (2 ^ n) xs

pub turning_length : (n : ℕ) (zs xs : List ℕ) → Turning n zs xs → length zs ≡ length xs
unfolding Turning
turning_length zero zs xs e = ap length e
turning_length (suc n) zs xs (inl t) =
    sym (length_halves (2 ^ n) zs)
    ∙ ap₂ (λ a b. a + b) (turning_length n _ _ t.0) (turning_length n _ _ t.1)
    ∙ length_halves (2 ^ n) xs
turning_length (suc n) zs xs (inr t) =
    let a = turning_length n _ _ t.0 in
    let b = turning_length n _ _ t.1 in
    let c = length_halves (2 ^ n) zs in
    let d = length_halves (2 ^ n) xs in
    omega arith

-- ---- turnings

pub plot_order-turning : (n : ℕ) (zs xs : List ℕ) → length xs ≡ 2 ^ n → Turning n zs xs → plot_order n zs ≡ plot_order n xs
unfolding plot_order Turning
plot_order-turning zero zs xs e t = t
plot_order-turning (suc n) zs xs e (inl t) =
    ap₂ lesser_first
    (plot_order-turning n _ _ (length_first_half n xs e) t.0)
    (plot_order-turning n _ _ (length_second_half n xs e) t.1)
plot_order-turning (suc n) zs xs e (inr t) =
    let a = length_first_half n xs e in
    let b = length_second_half n xs e in
    ap₂ lesser_first
    (plot_order-turning n _ _ b t.0)
    (plot_order-turning n _ _ a t.1)
    ∙ lesser_first_comm _ _ (length-plot_order n _ ∙ b ∙ sym a ∙ sym (length-plot_order n _))

-- ---- one level from its halves

-- half of 2 ^ level values
pub half_count : (level n : ℕ) → (level ≡ 0 → ⊥) → n ≡ 2 ^ level → n / 2 ≡ 2 ^ (level - 1)
half_count zero n some e = absurd (some refl)
half_count (suc m) n some e =
    let d = double m in
    let back : suc m - 1 ≡ m = omega arith in rw back (omega arith)

-- and twice that half
pub half_twice : (level n : ℕ) → (level ≡ 0 → ⊥) → n ≡ 2 ^ level → n ≡ 2 ^ (level - 1) + 2 ^ (level - 1)
half_twice zero n some e = absurd (some refl)
half_twice (suc m) n some e =
    let d = double m in
    let back : suc m - 1 ≡ m = omega arith in rw back (omega arith)

-- a group is its ordered halves, the lesser first
pub plot_order-halves :
    (level : ℕ) (xs front back : List ℕ) → (level ≡ 0 → ⊥) → length xs ≡ 2 ^ level
    → front ≡ plot_order (level - 1) (take (length xs / 2) xs) → back ≡ plot_order (level - 1) (drop (length xs / 2) xs)
    → plot_order level xs ≡ lesser_first front back
unfolding plot_order
plot_order-halves zero xs front back some e f g = absurd (some refl)
plot_order-halves (suc m) xs front back some e f g =
    let down : suc m - 1 ≡ m = omega arith in
    let half : length xs / 2 ≡ 2 ^ m = subst (λ n. length xs / 2 ≡ 2 ^ n) down (half_count (suc m) (length xs) some e) in
    let front_is : front ≡ plot_order m (take (2 ^ m) xs) = rw (down, half) at f in
    let back_is : back ≡ plot_order m (drop (2 ^ m) xs) = rw (down, half) at g in
    rw (front_is, back_is) refl

-- ---- what holds of each value holds of each value in plot order

pub All-plot_order : (P : ℕ → Type 0) (n : ℕ) (xs : List ℕ) → All P xs → All P (plot_order n xs)
unfolding plot_order
All-plot_order P zero xs h = h
All-plot_order P (suc n) xs h =
    let front = All-plot_order P n _ (All-take P (2 ^ n) xs h) in
    let back = All-plot_order P n _ (All-drop P (2 ^ n) xs h) in
    ⊎_elim
    (λ e. subst (All P) (sym e) (All-append P _ _ front back))
    (λ e. subst (All P) (sym e) (All-append P _ _ back front))
    (lesser_first_cases (plot_order n (take (2 ^ n) xs)) (plot_order n (drop (2 ^ n) xs)))
