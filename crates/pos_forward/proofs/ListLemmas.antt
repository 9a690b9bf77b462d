-- Lists: equal maps, and different elements in another order.
use Rattle.std.proofs.Common.{◌≡◌, ◌≢◌, ℕ, ◌+◌, ◌<◌, ◌≤◌, Bool, ◌==◌, ◌&&◌, List, [], ◌∷◌, ◌++◌, length, map, get_or, arith, refl, sym, ap, ap₂, subst, ◌∙◌, length-append, ⊎_elim, ◌-◌}
use Rattle.std.specs.List.{All, AllPairs, Contains}
use Rattle.std.specs.List.Sorted.{IsPermutation, IsNonDecreasingBy}
use Rattle.std.proofs.lemmas.List.{length-map, get_or-map, get_or_append_left, get_or-append_right, get_or-append-add}
use Rattle.std.proofs.lemmas.List.Elements.{All-head, All-tail}
use Rattle.std.specs.Bool.{Decides}
use Rattle.std.proofs.lemmas.Bool.{cases_lt}
use Rattle.std.proofs.lemmas.Bool.Decides.{Decides-and, Decides-eqb, Decides-like, same_from_decides}
use Rattle.std.proofs.lemmas.Map.Keys.{IsDistinct-IsPermutation}
use Rattle.pos_tuple.specs.declared.entry.Entry.{Entry}
use Rattle.pos_laws.specs.Making.{NeverFalls}
use Rattle.std.proofs.lemmas.Map.Made.{AllPairs-from_IsDistinct, IsDistinct-from_AllPairs}

-- two functions that agree on a list's elements
pub map-same : {X Y : Type 0} (f g : X → Y) (xs : List X) → All (λ x. f x ≡ g x) xs → map f xs ≡ map g xs
map-same f g [] h = refl
map-same f g (x ∷ xs) h = ap₂ (λ a b. a ∷ b) (All-head (λ y. f y ≡ g y) x xs h) (map-same f g xs (All-tail (λ y. f y ≡ g y) x xs h))

-- different elements in another order
pub distinct-permutation :
    {X : Type 0} (eq : X → X → Bool) (same : (a b : X) → Decides (eq a b) (a ≡ b)) (xs ys : List X)
    → IsPermutation xs ys → AllPairs (λ a b. a ≢ b) xs → AllPairs (λ a b. a ≢ b) ys
distinct-permutation {X} eq same xs ys perm h =
    AllPairs-from_IsDistinct same ys
    (IsDistinct-IsPermutation eq
    (λ a b. same_from_decides (eq a b) (eq b a) (same a b) (Decides-like (eq b a) (λ (e : b ≡ a). sym e) (λ (e : a ≡ b). sym e) (same b a)))
    xs ys perm (IsDistinct-from_AllPairs same xs h))

pair_eq : ℕ × ℕ → ℕ × ℕ → Bool
pair_eq a b = a.0 == b.0 && a.1 == b.1

pub same-pair : (p q : ℕ × ℕ) → p.0 ≡ q.0 → p.1 ≡ q.1 → p ≡ q
same-pair p q e f = ap (λ (a : ℕ). (a, p.1)) e ∙ ap (λ (b : ℕ). (q.0, b)) f

pair_eq-same : (a b : ℕ × ℕ) → Decides (pair_eq a b) (a ≡ b)
unfolding pair_eq
pair_eq-same a b =
    Decides-like (a.0 == b.0 && a.1 == b.1) (λ (e : (a.0 ≡ b.0) × (a.1 ≡ b.1)). same-pair a b e.0 e.1)
    (λ (e : a ≡ b). (ap (λ (x : ℕ × ℕ). x.0) e, ap (λ (x : ℕ × ℕ). x.1) e))
    (Decides-and (a.0 == b.0) (a.1 == b.1) (Decides-eqb a.0 b.0) (Decides-eqb a.1 b.1))

pub pairs-permutation :
    (ps qs : List (ℕ × ℕ)) → IsPermutation ps qs → AllPairs (λ a b. a ≢ b) ps → AllPairs (λ a b. a ≢ b) qs
pairs-permutation ps qs perm h = distinct-permutation pair_eq pair_eq-same ps qs perm h

pub numbers-permutation :
    (xs ys : List ℕ) → IsPermutation xs ys → AllPairs (λ a b. a ≢ b) xs → AllPairs (λ a b. a ≢ b) ys
numbers-permutation xs ys perm h = distinct-permutation (λ a b. a == b) Decides-eqb xs ys perm h

-- a list in order by a number, as a map
pub order-map :
    {X : Type 0} (f : X → Entry) (key : X → ℕ) (d : X) (xs : List X) → ((x : X) → (f x).y ≡ key x) → IsNonDecreasingBy key xs
    → NeverFalls (map f xs)
order-map f key d xs same h i j e lt inside =
    let in_j : j < length xs = omega (arith, length-map xs f) in
    let in_i : i < length xs = omega arith in
    let at_i : get_or (map f xs) i e ≡ f (get_or xs i d) = get_or-map f xs i d e in_i in
    let at_j : get_or (map f xs) j e ≡ f (get_or xs j d) = get_or-map f xs j d e in_j in
    let le : key (get_or xs i d) ≤ key (get_or xs j d) = h i j d (omega arith) in_j in
    let y_i : (get_or (map f xs) i e).y ≡ key (get_or xs i d) = ap (λ x. x.y) at_i ∙ same (get_or xs i d) in
    let y_j : (get_or (map f xs) j e).y ≡ key (get_or xs j d) = ap (λ x. x.y) at_j ∙ same (get_or xs j d) in
    omega arith

-- pairs of two lists, one behind the other, that all differ
pub all_pairs-append :
    {X : Type 0} (R : X → X → Type 0) (xs ys : List X) → AllPairs R xs → AllPairs R ys
    → ((i j : ℕ) (d : X) → i < length xs → j < length ys → R (get_or xs i d) (get_or ys j d)) → AllPairs R (xs ++ ys)
all_pairs-append {X} R xs ys first second between i j d lt inside =
    let len : length (xs ++ ys) ≡ length xs + length ys = length-append xs ys in
    ⊎_elim
    (λ (j_left : j < length xs).
    let i_left : i < length xs = omega arith in
    subst (λ (a : X). R a (get_or (xs ++ ys) j d)) (sym (get_or_append_left xs ys d i i_left))
    (subst (λ (b : X). R (get_or xs i d) b) (sym (get_or_append_left xs ys d j j_left)) (first i j d lt j_left)))
    (λ (j_right : length xs ≤ j).
    let j_in : j - length xs < length ys = omega arith in
    subst (λ (b : X). R (get_or (xs ++ ys) i d) b) (sym (get_or-append_right xs ys (length xs) j d refl j_right))
    (⊎_elim
    (λ (i_left : i < length xs). subst (λ (a : X). R a (get_or ys (j - length xs) d)) (sym (get_or_append_left xs ys d i i_left)) (between i (j - length xs) d i_left j_in))
    (λ (i_right : length xs ≤ i).
    subst (λ (a : X). R a (get_or ys (j - length xs) d)) (sym (get_or-append_right xs ys (length xs) i d refl i_right))
    (second (i - length xs) (j - length xs) d (omega arith) j_in))
    (cases_lt i (length xs))))
    (cases_lt j (length xs))

pub all_pairs-map :
    {X Y : Type 0} (R : X → X → Type 0) (S : Y → Y → Type 0) (f : X → Y) (d : X) (xs : List X) → AllPairs R xs
    → ((a b : X) → R a b → S (f a) (f b)) → AllPairs S (map f xs)
all_pairs-map {X} {Y} R S f d xs h keeps i j e lt inside =
    let in_j : j < length xs = omega (arith, length-map xs f) in
    let in_i : i < length xs = omega arith in
    subst (λ (a : Y). S a (get_or (map f xs) j e)) (sym (get_or-map f xs i d e in_i))
    (subst (λ (b : Y). S (f (get_or xs i d)) b) (sym (get_or-map f xs j d e in_j)) (keeps (get_or xs i d) (get_or xs j d) (h i j d lt in_j)))

pub contains-map : {X Y : Type 0} (f : X → Y) (xs : List X) (x : X) → Contains xs x → Contains (map f xs) (f x)
contains-map f xs x h =
    let inside : h.0 < length (map f xs) = omega (arith, length-map xs f, h.1) in
    (h.0, inside, get_or-map f xs h.0 x (f x) h.1 ∙ ap f h.2)

-- what holds of two lists, one behind the other, holds of each
pub All-left : {X : Type 0} (P : X → Type 0) (xs ys : List X) → All P (xs ++ ys) → All P xs
All-left P xs ys h i d lt =
    let inside : i < length (xs ++ ys) = omega (arith, length-append xs ys) in
    subst P (get_or_append_left xs ys d i lt) (h i d inside)

pub All-right : {X : Type 0} (P : X → Type 0) (xs ys : List X) → All P (xs ++ ys) → All P ys
All-right P xs ys h i d lt =
    let inside : length xs + i < length (xs ++ ys) = omega (arith, length-append xs ys) in
    subst P (get_or-append-add xs ys i d) (h (length xs + i) d inside)
