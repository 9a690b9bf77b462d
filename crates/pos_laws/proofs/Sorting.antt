-- A list put in the order of a key: it has the same elements, each as often, and the key never falls.
use Rattle.std.proofs.Common.{◌≡◌, ◌≢◌, ℕ, suc, ◌<◌, ◌≤◌, ◌⊎◌, inl, inr, ⊎_elim, Bool, true, false, if◌then◌else◌, nat_le, List, [], ◌∷◌, length, map, filter, slice_index_or, AllPairs, Contains, sym, refl, ap, ◌∙◌, subst, arith, leb-true, leb-false, zero-add}
use Rattle.std.specs.List.{range_with_len}
use Rattle.std.proofs.lemmas.Bool.{cases_Bool}
use Rattle.std.proofs.lemmas.List.{get_or-map, length-map}
use Rattle.std.proofs.lemmas.List.Kept.{AllPairs-cons}
use Rattle.std.proofs.lemmas.List.FromFn.{length-map-range_with_len, get_or-map-range_with_len}
use Rattle.pos_laws.proofs.SameLists.{contains_cases, contains_first, contains_rest, contains_at, first_before, rest_rises}

-- ---- pairs of elements

-- an element that stands before all that a list contains
pub before_all : {X : Type 0} (R : X → X → Type 0) (x : X) (xs : List X) → ((z : X) → Contains xs z → R x z) → AllPairs R xs → AllPairs R (x ∷ xs)
before_all R x xs h rise = AllPairs-cons R x xs (λ i d l. h _ (contains_at xs i d l)) rise

-- what follows for any two elements of the list follows for all pairs
pub pairs_weaker : {X : Type 0} (R S : X → X → Type 0) (xs : List X) → ((x y : X) → Contains xs x → Contains xs y → R x y → S x y) →
    AllPairs R xs → AllPairs S xs
pairs_weaker R S xs f rise i j d l h = f _ _ (contains_at xs i d (omega arith)) (contains_at xs j d h) (rise i j d l h)

pub pairs_both : {X : Type 0} (R S T : X → X → Type 0) (xs : List X) →
    ((x y : X) → Contains xs x → Contains xs y → R x y → S x y → T x y) → AllPairs R xs → AllPairs S xs → AllPairs T xs
pairs_both R S T xs f rise other i j d l h =
    f _ _ (contains_at xs i d (omega arith)) (contains_at xs j d h) (rise i j d l h) (other i j d l h)

pub pairs_map : {X Y : Type 0} (f : X → Y) (R : Y → Y → Type 0) (xs : List X) → AllPairs (λ a b. R (f a) (f b)) xs → AllPairs R (map f xs)
pairs_map f R [] rise i j e l h = absurd (omega arith)
pairs_map f R (x ∷ xs) rise i j e l h =
    let g : j < length (x ∷ xs) = omega (arith, length-map (x ∷ xs) f) in
    subst (λ y. R y (slice_index_or (map f (x ∷ xs)) j e)) (sym (get_or-map f (x ∷ xs) i x e (omega arith)))
    (subst (R (f (slice_index_or (x ∷ xs) i x))) (sym (get_or-map f (x ∷ xs) j x e g)) (rise i j x l g))

-- an element of a mapped list, and one that a list has, mapped
pub map_has : {X Y : Type 0} (f : X → Y) (xs : List X) (x : X) → Contains xs x → Contains (map f xs) (f x)
map_has f xs x c =
    (c.0, omega (arith, c.1, length-map xs f), get_or-map f xs c.0 x (f x) c.1 ∙ ap f c.2)

pub map_from : {X Y : Type 0} (f : X → Y) (xs : List X) (y : Y) → Contains (map f xs) y → (x : X) × Contains xs x × (f x ≡ y)
map_from f [] y c = absurd (omega (arith, c.1))
map_from f (x ∷ xs) y c =
    let l : c.0 < length (x ∷ xs) = omega (arith, c.1, length-map (x ∷ xs) f) in
    (slice_index_or (x ∷ xs) c.0 x, contains_at (x ∷ xs) c.0 x l, sym (get_or-map f (x ∷ xs) c.0 x y l) ∙ c.2)

-- ---- a list of what a function gives at the numbers below n

abbrev pub listed_by : {X : Type 0} → (ℕ → X) → ℕ → List X
listed_by f n = map f (range_with_len 0 n)

pub length-listed_by : {X : Type 0} (f : ℕ → X) (n : ℕ) → length (listed_by f n) ≡ n
length-listed_by f n = length-map-range_with_len f 0 n

pub at-listed_by : {X : Type 0} (f : ℕ → X) (n i : ℕ) (d : X) → i < n → slice_index_or (listed_by f n) i d ≡ f i
at-listed_by f n i d l = get_or-map-range_with_len f 0 n i i d l (zero-add i)

pub listed_has : {X : Type 0} (f : ℕ → X) (n i : ℕ) → i < n → Contains (listed_by f n) (f i)
listed_has f n i l = (i, omega (arith, length-listed_by f n), at-listed_by f n i (f i) l)

pub listed_from : {X : Type 0} (f : ℕ → X) (n : ℕ) (x : X) → Contains (listed_by f n) x → (i : ℕ) × (i < n) × (f i ≡ x)
listed_from f n x c =
    let l : c.0 < n = omega (arith, c.1, length-listed_by f n) in
    (c.0, l, sym (at-listed_by f n c.0 x l) ∙ c.2)

pub listed_pairs : {X : Type 0} (R : X → X → Type 0) (f : ℕ → X) (n : ℕ) → ((i j : ℕ) → i < j → j < n → R (f i) (f j)) → AllPairs R (listed_by f n)
listed_pairs R f n h i j d l g =
    let o : j < n = omega (arith, length-listed_by f n) in
    subst (λ x. R x (slice_index_or (listed_by f n) j d)) (sym (at-listed_by f n i d (omega arith)))
    (subst (R (f i)) (sym (at-listed_by f n j d o)) (h i j l o))

-- ---- a filter

pub filter_keeps : {X : Type 0} (t : X → Bool) (xs : List X) (s : X) → t s ≡ true → Contains xs s → Contains (filter t xs) s
filter_keeps t [] s e c = absurd (omega (arith, c.1))
filter_keeps t (x ∷ xs) s e c =
    ⊎_elim
    (λ (f : s ≡ x).
    let g : t x ≡ true = ap t (sym f) ∙ e in
    rw g (subst (Contains (x ∷ filter t xs)) (sym f) (contains_first x (filter t xs))))
    (λ (g : Contains xs s).
    let rest = filter_keeps t xs s e g in
    ⊎_elim
    (λ (h : t x ≡ true). rw h (contains_rest x s (filter t xs) rest))
    (λ (h : t x ≡ false). rw h rest)
    (cases_Bool (t x)))
    (contains_cases x s xs c)

pub filter_from : {X : Type 0} (t : X → Bool) (xs : List X) (s : X) → Contains (filter t xs) s → Contains xs s × (t s ≡ true)
filter_from t [] s c = absurd (omega (arith, c.1))
filter_from t (x ∷ xs) s c =
    ⊎_elim
    (λ (h : t x ≡ true).
    let d : Contains (x ∷ filter t xs) s = rw h at c in
    ⊎_elim
    (λ (e : s ≡ x). (subst (Contains (x ∷ xs)) (sym e) (contains_first x xs), ap t e ∙ h))
    (λ (g : Contains (filter t xs) s). let r = filter_from t xs s g in (contains_rest x s xs r.0, r.1))
    (contains_cases x s (filter t xs) d))
    (λ (h : t x ≡ false).
    let d : Contains (filter t xs) s = rw h at c in
    let r = filter_from t xs s d in
    (contains_rest x s xs r.0, r.1))
    (cases_Bool (t x))

pub length_filter : {X : Type 0} (t : X → Bool) (xs : List X) → length (filter t xs) ≤ length xs
length_filter t [] = omega arith
length_filter t (x ∷ xs) =
    let ih = length_filter t xs in
    ⊎_elim (λ (h : t x ≡ true). rw h (omega arith)) (λ (h : t x ≡ false). rw h (omega arith)) (cases_Bool (t x))

-- ---- sorting

-- an element put into a sorted list, before the first whose key is not below its own
insert_by : {X : Type 0} → (X → ℕ) → X → List X → List X
insert_by key x [] = x ∷ []
insert_by key x (y ∷ ys) = if nat_le (key x) (key y) then x ∷ (y ∷ ys) else y ∷ insert_by key x ys

pub sort_by : {X : Type 0} → (X → ℕ) → List X → List X
sort_by key [] = []
sort_by key (x ∷ xs) = insert_by key x (sort_by key xs)

insert_has_it : {X : Type 0} (key : X → ℕ) (x : X) (ys : List X) → Contains (insert_by key x ys) x
unfolding insert_by
insert_has_it key x [] = contains_first x []
insert_has_it key x (y ∷ ys) =
    ⊎_elim
    (λ (h : nat_le (key x) (key y) ≡ true). rw h (contains_first x (y ∷ ys)))
    (λ (h : nat_le (key x) (key y) ≡ false). rw h (contains_rest y x (insert_by key x ys) (insert_has_it key x ys)))
    (cases_Bool (nat_le (key x) (key y)))

insert_keeps : {X : Type 0} (key : X → ℕ) (x z : X) (ys : List X) → Contains ys z → Contains (insert_by key x ys) z
unfolding insert_by
insert_keeps key x z [] c = absurd (omega (arith, c.1))
insert_keeps key x z (y ∷ ys) c =
    ⊎_elim
    (λ (h : nat_le (key x) (key y) ≡ true). rw h (contains_rest x z (y ∷ ys) c))
    (λ (h : nat_le (key x) (key y) ≡ false).
    rw h
    (⊎_elim
    (λ (e : z ≡ y). subst (Contains (y ∷ insert_by key x ys)) (sym e) (contains_first y (insert_by key x ys)))
    (λ (d : Contains ys z). contains_rest y z (insert_by key x ys) (insert_keeps key x z ys d))
    (contains_cases y z ys c)))
    (cases_Bool (nat_le (key x) (key y)))

insert_from : {X : Type 0} (key : X → ℕ) (x z : X) (ys : List X) → Contains (insert_by key x ys) z → (z ≡ x) ⊎ Contains ys z
unfolding insert_by
insert_from key x z [] c = contains_cases x z [] c
insert_from key x z (y ∷ ys) c =
    ⊎_elim
    (λ (h : nat_le (key x) (key y) ≡ true).
    let d : Contains (x ∷ (y ∷ ys)) z = rw h at c in contains_cases x z (y ∷ ys) d)
    (λ (h : nat_le (key x) (key y) ≡ false).
    let d : Contains (y ∷ insert_by key x ys) z = rw h at c in
    ⊎_elim
    (λ (e : z ≡ y). inr (subst (Contains (y ∷ ys)) (sym e) (contains_first y ys)))
    (λ (g : Contains (insert_by key x ys) z).
    ⊎_elim inl (λ (o : Contains ys z). inr (contains_rest y z ys o)) (insert_from key x z ys g))
    (contains_cases y z (insert_by key x ys) d))
    (cases_Bool (nat_le (key x) (key y)))

insert_rises : {X : Type 0} (key : X → ℕ) (x : X) (ys : List X) → AllPairs (λ a b. key a ≤ key b) ys →
    AllPairs (λ a b. key a ≤ key b) (insert_by key x ys)
unfolding insert_by
insert_rises key x [] rise = before_all (λ a b. key a ≤ key b) x [] (λ z c. absurd (omega (arith, c.1))) rise
insert_rises key x (y ∷ ys) rise =
    ⊎_elim
    (λ (h : nat_le (key x) (key y) ≡ true).
    let o = leb-true _ _ h in
    rw h (before_all (λ a b. key a ≤ key b) x (y ∷ ys)
    (λ z c. ⊎_elim
    (λ (e : z ≡ y). subst (λ v. key x ≤ key v) (sym e) o)
    (λ (d : Contains ys z). let q = first_before (λ a b. key a ≤ key b) y z ys rise d in omega arith)
    (contains_cases y z ys c))
    rise))
    (λ (h : nat_le (key x) (key y) ≡ false).
    let o = leb-false _ _ h in
    rw h (before_all (λ a b. key a ≤ key b) y (insert_by key x ys)
    (λ z c. ⊎_elim
    (λ (e : z ≡ x). subst (λ v. key y ≤ key v) (sym e) (omega arith))
    (λ (d : Contains ys z). first_before (λ a b. key a ≤ key b) y z ys rise d)
    (insert_from key x z ys c))
    (insert_rises key x ys (rest_rises (λ a b. key a ≤ key b) y ys rise))))
    (cases_Bool (nat_le (key x) (key y)))

insert_differs : {X : Type 0} (key : X → ℕ) (x : X) (ys : List X) → ((z : X) → Contains ys z → x ≢ z) → AllPairs ◌≢◌ ys →
    AllPairs ◌≢◌ (insert_by key x ys)
unfolding insert_by
insert_differs key x [] new once = before_all ◌≢◌ x [] (λ z c. absurd (omega (arith, c.1))) once
insert_differs key x (y ∷ ys) new once =
    ⊎_elim
    (λ (h : nat_le (key x) (key y) ≡ true). rw h (before_all ◌≢◌ x (y ∷ ys) new once))
    (λ (h : nat_le (key x) (key y) ≡ false).
    rw h (before_all ◌≢◌ y (insert_by key x ys)
    (λ z c. ⊎_elim
    (λ (e : z ≡ x). λ (f : y ≡ z). new y (contains_first y ys) (sym (f ∙ e)))
    (λ (d : Contains ys z). first_before ◌≢◌ y z ys once d)
    (insert_from key x z ys c))
    (insert_differs key x ys (λ z c. new z (contains_rest y z ys c)) (rest_rises ◌≢◌ y ys once))))
    (cases_Bool (nat_le (key x) (key y)))

length-insert_by : {X : Type 0} (key : X → ℕ) (x : X) (ys : List X) → length (insert_by key x ys) ≡ suc (length ys)
unfolding insert_by
length-insert_by key x [] = refl
length-insert_by key x (y ∷ ys) =
    ⊎_elim
    (λ (h : nat_le (key x) (key y) ≡ true). rw h)
    (λ (h : nat_le (key x) (key y) ≡ false). rw h (ap suc (length-insert_by key x ys)))
    (cases_Bool (nat_le (key x) (key y)))

pub sort_keeps : {X : Type 0} (key : X → ℕ) (xs : List X) (z : X) → Contains xs z → Contains (sort_by key xs) z
unfolding sort_by
sort_keeps key [] z c = c
sort_keeps key (x ∷ xs) z c =
    ⊎_elim
    (λ (e : z ≡ x). subst (Contains (insert_by key x (sort_by key xs))) (sym e) (insert_has_it key x (sort_by key xs)))
    (λ (d : Contains xs z). insert_keeps key x z (sort_by key xs) (sort_keeps key xs z d))
    (contains_cases x z xs c)

pub sort_from : {X : Type 0} (key : X → ℕ) (xs : List X) (z : X) → Contains (sort_by key xs) z → Contains xs z
unfolding sort_by
sort_from key [] z c = c
sort_from key (x ∷ xs) z c =
    ⊎_elim
    (λ (e : z ≡ x). subst (Contains (x ∷ xs)) (sym e) (contains_first x xs))
    (λ (d : Contains (sort_by key xs) z). contains_rest x z xs (sort_from key xs z d))
    (insert_from key x z (sort_by key xs) c)

pub sort_rises : {X : Type 0} (key : X → ℕ) (xs : List X) → AllPairs (λ a b. key a ≤ key b) (sort_by key xs)
unfolding sort_by
sort_rises key [] = λ i j d l h. absurd (omega arith)
sort_rises key (x ∷ xs) = insert_rises key x (sort_by key xs) (sort_rises key xs)

pub sort_differs : {X : Type 0} (key : X → ℕ) (xs : List X) → AllPairs ◌≢◌ xs → AllPairs ◌≢◌ (sort_by key xs)
unfolding sort_by
sort_differs key [] once = once
sort_differs key (x ∷ xs) once =
    insert_differs key x (sort_by key xs)
    (λ z c. first_before ◌≢◌ x z xs once (sort_from key xs z c))
    (sort_differs key xs (rest_rises ◌≢◌ x xs once))

pub length-sort_by : {X : Type 0} (key : X → ℕ) (xs : List X) → length (sort_by key xs) ≡ length xs
unfolding sort_by
length-sort_by key [] = refl
length-sort_by key (x ∷ xs) = length-insert_by key x (sort_by key xs) ∙ ap suc (length-sort_by key xs)
