-- Turnings: at most one of a tuple has a node, since no pair matches both ways, and how it is found from the halves.
use Rattle.std.proofs.Common.{◌≡◌, ℕ, zero, suc, ◌+◌, ◌-◌, ◌/◌, ◌^◌, ◌<◌, ◌⊎◌, inl, inr, ⊎_elim, true, false, List, [], ◌∷◌, ◌++◌, length, take, drop, slice_index, Option, Some, None, sym, refl, ap, ap₂, ◌∙◌, subst, take-append-drop, take_at, drop_at, arith}
use Rattle.std.specs.Prelude.{All}
use Rattle.std.proofs.lemmas.List.Elements.{All-append, All-take, All-drop}
use Rattle.pos_tuple.specs.declared.entry.Entry.{Entry}
use Rattle.pos_tuple.specs.Match.{Match, is_match}
use Rattle.pos_tuple.specs.Node.{first_entry, next_entry, node}
use Rattle.pos_order.specs.Order.{lesser_first, plot_order, Turning}
use Rattle.pos_order.specs.OrderLaws.{PlotOrderIsExact, OneTurning}
use Rattle.pos_order.specs.Turned.{IsTurnedTo, HasNoTurning}
use Rattle.pos_order.proofs.PlotOrderLemmas.{double, length-plot_order, turning_length, plot_order-turning}
use Rattle.pos_order.proofs.NodeParts.{match_goes_one_way, test_from_match, take-half, drop-half, IsJoined, node_parts, node_of_joined, node_of_value, some_entry, some_is, nodes_have_their_length}
use Rattle.pos_order.proofs.OrderLemmas.{lesser_first_cases}

-- ---- two joined lists that are the same have the same parts

pub same_parts : (a b c d : List ℕ) → length a ≡ length c → a ++ b ≡ c ++ d → (a ≡ c) × (b ≡ d)
same_parts a b c d e f = (
  sym (take_at a b (length c) e) ∙ ap (take (length c)) f ∙ take_at c d (length c) refl,
  sym (drop_at a b (length c) e) ∙ ap (drop (length c)) f ∙ drop_at c d (length c) refl,
)

-- the same two lists, or these two exchanged
same_two : (a b c d : List ℕ) (m : ℕ) → length a ≡ m → length b ≡ m → length c ≡ m → length d ≡ m →
    lesser_first a b ≡ lesser_first c d → ((a ≡ c) × (b ≡ d)) ⊎ ((a ≡ d) × (b ≡ c))
same_two a b c d m la lb lc ld e =
    ⊎_elim
    (λ (f : lesser_first a b ≡ a ++ b).
    ⊎_elim
    (λ (g : lesser_first c d ≡ c ++ d). inl (same_parts a b c d (la ∙ sym lc) (sym f ∙ e ∙ g)))
    (λ (g : lesser_first c d ≡ d ++ c). inr (same_parts a b d c (la ∙ sym ld) (sym f ∙ e ∙ g)))
    (lesser_first_cases c d))
    (λ (f : lesser_first a b ≡ b ++ a).
    ⊎_elim
    (λ (g : lesser_first c d ≡ c ++ d).
    let p = same_parts b a c d (lb ∙ sym lc) (sym f ∙ e ∙ g) in inr (p.1, p.0))
    (λ (g : lesser_first c d ≡ d ++ c).
    let p = same_parts b a d c (lb ∙ sym ld) (sym f ∙ e ∙ g) in inl (p.1, p.0))
    (lesser_first_cases c d))
    (lesser_first_cases a b)

-- ---- two nodes whose halves are each other's, exchanged, are none

pub not_exchanged : (id : List ℕ) (k n : ℕ) (a b c d : List ℕ) (e f : Entry) →
    IsJoined id k n a b e → IsJoined id k n c d f → a ≡ d → b ≡ c → ⊥
not_exchanged id k n a b c d e f p q g h =
    let i : p.left ≡ q.right = let j : Some p.left ≡ Some q.right = sym p.left_node ∙ ap (node id k n) g ∙ q.right_node in cc in
    let l : p.right ≡ q.left = let j : Some p.right ≡ Some q.left = sym p.right_node ∙ ap (node id k n) h ∙ q.left_node in cc in
    let back : Match p.right.y p.left.y = subst (λ y. Match y p.left.y) (ap (λ t. t.y) (sym l)) (subst (λ y. Match q.left.y y) (ap (λ t. t.y) (sym i)) q.matching) in
    match_goes_one_way _ _ p.matching back

pub plot_order_is_exact : PlotOrderIsExact
unfolding plot_order
plot_order_is_exact id k zero xs ys h g e = e
plot_order_is_exact id k (suc n) xs ys h g e =
    let a = some_entry _ h in
    let b = some_entry _ g in
    let p = node_parts id k n xs a.0 a.1 in
    let q = node_parts id k n ys b.0 b.1 in
    let xl = some_is _ _ p.left_node in
    let xr = some_is _ _ p.right_node in
    let yl = some_is _ _ q.left_node in
    let yr = some_is _ _ q.right_node in
    ⊎_elim
    (λ t.
    let l = plot_order_is_exact id k n _ _ xl yl t.0 in
    let r = plot_order_is_exact id k n _ _ xr yr t.1 in
    sym (take-append-drop (2 ^ n) xs) ∙ ap₂ (λ s u. s ++ u) l r ∙ take-append-drop (2 ^ n) ys)
    (λ t.
    let l = plot_order_is_exact id k n _ _ xl yr t.0 in
    let r = plot_order_is_exact id k n _ _ xr yl t.1 in
    absurd (not_exchanged id k n _ _ _ _ _ _ p q l r))
    (same_two _ _ _ _ (2 ^ n)
    (length-plot_order n _ ∙ nodes_have_their_length id k n _ xl)
    (length-plot_order n _ ∙ nodes_have_their_length id k n _ xr)
    (length-plot_order n _ ∙ nodes_have_their_length id k n _ yl)
    (length-plot_order n _ ∙ nodes_have_their_length id k n _ yr)
    e)

pub one_turning : OneTurning
one_turning id k n zs ws xs t u h g =
    let e : length xs ≡ 2 ^ n = sym (turning_length n zs xs t) ∙ nodes_have_their_length id k n zs h in
    plot_order_is_exact id k n zs ws h g
    (plot_order-turning n zs xs e t ∙ sym (plot_order-turning n ws xs e u))

-- ---- what holds of each value holds of each value of a turning

pub All-turning : (P : ℕ → Type 0) (n : ℕ) (zs xs : List ℕ) → Turning n zs xs → All P xs → All P zs
unfolding Turning
All-turning P zero zs xs t h = subst (All P) (sym t) h
All-turning P (suc n) zs xs (inl t) h =
    let a = All-turning P n _ _ t.0 (All-take P (2 ^ n) xs h) in
    let b = All-turning P n _ _ t.1 (All-drop P (2 ^ n) xs h) in
    subst (All P) (take-append-drop (2 ^ n) zs) (All-append P _ _ a b)
All-turning P (suc n) zs xs (inr t) h =
    let a = All-turning P n _ _ t.0 (All-drop P (2 ^ n) xs h) in
    let b = All-turning P n _ _ t.1 (All-take P (2 ^ n) xs h) in
    subst (All P) (take-append-drop (2 ^ n) zs) (All-append P _ _ a b)

-- ---- the entry of a turning that has one is the one that was found

pub same_entry : (id : List ℕ) (k n : ℕ) (xs zs ws : List ℕ) (e f : Entry) → IsTurnedTo id k n xs zs e → IsTurnedTo id k n xs ws f → e ≡ f
same_entry id k n xs zs ws e f t u =
    let same : zs ≡ ws = one_turning id k n zs ws xs t.turned u.turned (some_is _ _ t.found) (some_is _ _ u.found) in
    let j : Some e ≡ Some f = sym t.found ∙ ap (node id k n) same ∙ u.found in
    cc

-- ---- one value

turned_value : (id : List ℕ) (k x : ℕ) (xs : List ℕ) → xs ≡ x ∷ [] → x < 2 ^ k → IsTurnedTo id k 0 xs xs (first_entry id k x)
unfolding Turning
turned_value id k x xs one small = record {
  turned = refl;
  found = ap (node id k 0) one ∙ node_of_value id k x small;
}

turned_only : (id : List ℕ) (k : ℕ) (xs : List ℕ) → length xs ≡ 1 → All (λ x. x < 2 ^ k) xs
    → IsTurnedTo id k 0 xs xs (first_entry id k (slice_index xs 0))
turned_only id k [] len small = absurd (omega arith)
turned_only id k (x ∷ []) len small = turned_value id k x (x ∷ []) refl (small 0 0 (omega arith))
turned_only id k (x ∷ y ∷ xs) len small = absurd (omega arith)

pub turned_one : (id : List ℕ) (k level : ℕ) (xs : List ℕ) (e : Entry) → level ≡ 0 → length xs ≡ 2 ^ level
    → All (λ x. x < 2 ^ k) xs → e ≡ first_entry id k (slice_index xs 0) → IsTurnedTo id k level xs xs e
turned_one id k zero xs e none len small made =
    subst (λ v. IsTurnedTo id k 0 xs xs v) (sym made) (turned_only id k xs len small)
turned_one id k (suc n) xs e none len small made = absurd (omega arith)

-- ---- two halves: what a turning of xs is made of

-- the halves of a turning that has an entry: each is a turning, with an entry, of one of the halves of xs
pub data IsMade (id : List ℕ) (k n : ℕ) (xs zs : List ℕ) (e : Entry) : Type 0 where
  straight : (l r : Entry) → IsTurnedTo id k n (take (2 ^ n) xs) (take (2 ^ n) zs) l → IsTurnedTo id k n (drop (2 ^ n) xs) (drop (2 ^ n) zs) r
      → Match l.y r.y → IsMade id k n xs zs e
  crossed : (l r : Entry) → IsTurnedTo id k n (drop (2 ^ n) xs) (take (2 ^ n) zs) l → IsTurnedTo id k n (take (2 ^ n) xs) (drop (2 ^ n) zs) r
      → Match l.y r.y → IsMade id k n xs zs e

pub turned_parts : (id : List ℕ) (k n : ℕ) (xs zs : List ℕ) (e : Entry) → IsTurnedTo id k (suc n) xs zs e → IsMade id k n xs zs e
unfolding Turning
turned_parts id k n xs zs e t =
    let p = node_parts id k n zs e t.found in
    ⊎_elim
    (λ turned. straight p.left p.right
    (record { turned = turned.0; found = p.left_node })
    (record { turned = turned.1; found = p.right_node })
    p.matching)
    (λ turned. crossed p.left p.right
    (record { turned = turned.0; found = p.left_node })
    (record { turned = turned.1; found = p.right_node })
    p.matching)
    t.turned

-- a turning without an entry, from one whose entry leads to nothing
pub none_from : (id : List ℕ) (k n : ℕ) (xs : List ℕ) → ((zs : List ℕ) (e : Entry) → IsTurnedTo id k n xs zs e → ⊥) → HasNoTurning id k n xs
none_from id k n xs never zs t = by (node id k n zs) refl
  where
    by : (o : Option Entry) → node id k n zs ≡ o → node id k n zs ≡ None
    by None e = e
    by (Some f) e = absurd (never zs f (record { turned = t; found = e }))

none_found : (id : List ℕ) (k n : ℕ) (xs zs : List ℕ) (e : Entry) → HasNoTurning id k n xs → IsTurnedTo id k n xs zs e → ⊥
none_found id k n xs zs e never t = let j : ◌≡◌ {A = Option Entry} None (Some e) = sym (never zs t.turned) ∙ t.found in cc

-- where a half has no turning with an entry, neither has the whole
pub no_left : (id : List ℕ) (k n : ℕ) (xs : List ℕ) → HasNoTurning id k n (take (2 ^ n) xs) → HasNoTurning id k (suc n) xs
no_left id k n xs never = none_from id k (suc n) xs (λ zs e t. by zs e (turned_parts id k n xs zs e t))
  where
    by : (zs : List ℕ) (e : Entry) → IsMade id k n xs zs e → ⊥
    by zs e (straight l r p q m) = none_found id k n (take (2 ^ n) xs) _ l never p
    by zs e (crossed l r p q m) = none_found id k n (take (2 ^ n) xs) _ r never q

pub no_right : (id : List ℕ) (k n : ℕ) (xs : List ℕ) → HasNoTurning id k n (drop (2 ^ n) xs) → HasNoTurning id k (suc n) xs
no_right id k n xs never = none_from id k (suc n) xs (λ zs e t. by zs e (turned_parts id k n xs zs e t))
  where
    by : (zs : List ℕ) (e : Entry) → IsMade id k n xs zs e → ⊥
    by zs e (straight l r p q m) = none_found id k n (drop (2 ^ n) xs) _ r never q
    by zs e (crossed l r p q m) = none_found id k n (drop (2 ^ n) xs) _ l never p

-- where both have one and these match in neither order, the whole has none
pub no_match : (id : List ℕ) (k n : ℕ) (xs a b : List ℕ) (l r : Entry) → IsTurnedTo id k n (take (2 ^ n) xs) a l
    → IsTurnedTo id k n (drop (2 ^ n) xs) b r → is_match l.y r.y ≡ false → is_match r.y l.y ≡ false → HasNoTurning id k (suc n) xs
no_match id k n xs a b l r t u f g = none_from id k (suc n) xs (λ zs e t. by zs e (turned_parts id k n xs zs e t))
  where
    unlike : (y z : ℕ) → Match y z → is_match y z ≡ false → ⊥
    unlike y z m e = let j : true ≡ false = sym (test_from_match y z m) ∙ e in cc

    by : (zs : List ℕ) (e : Entry) → IsMade id k n xs zs e → ⊥
    by zs e (straight v w p q m) =
        let i : v ≡ l = same_entry id k n _ _ _ _ _ p t in
        let j : w ≡ r = same_entry id k n _ _ _ _ _ q u in
        unlike l.y r.y (subst (λ y. Match l.y y) (ap (λ s. s.y) j) (subst (λ y. Match y w.y) (ap (λ s. s.y) i) m)) f
    by zs e (crossed v w p q m) =
        let i : v ≡ r = same_entry id k n _ _ _ _ _ p u in
        let j : w ≡ l = same_entry id k n _ _ _ _ _ q t in
        unlike r.y l.y (subst (λ y. Match r.y y) (ap (λ s. s.y) j) (subst (λ y. Match y w.y) (ap (λ s. s.y) i) m)) g

-- both halves, joined in the order in which they match
pub turned_straight : (id : List ℕ) (k n : ℕ) (xs a b : List ℕ) (l r : Entry) → IsTurnedTo id k n (take (2 ^ n) xs) a l
    → IsTurnedTo id k n (drop (2 ^ n) xs) b r → Match l.y r.y → IsTurnedTo id k (suc n) xs (a ++ b) (next_entry k (n + 2) l r)
unfolding Turning
turned_straight id k n xs a b l r t u m =
    let len : length a ≡ 2 ^ n = nodes_have_their_length id k n a (some_is _ _ t.found) in
    record {
      turned = inl (
        subst (λ s. Turning n s (take (2 ^ n) xs)) (sym (take-half n a b len)) t.turned,
        subst (λ s. Turning n s (drop (2 ^ n) xs)) (sym (drop-half n a b len)) u.turned,
      );
      found = node_of_joined id k n a b l r len t.found u.found m;
    }

pub turned_crossed : (id : List ℕ) (k n : ℕ) (xs a b : List ℕ) (l r : Entry) → IsTurnedTo id k n (take (2 ^ n) xs) a l
    → IsTurnedTo id k n (drop (2 ^ n) xs) b r → Match r.y l.y → IsTurnedTo id k (suc n) xs (b ++ a) (next_entry k (n + 2) r l)
unfolding Turning
turned_crossed id k n xs a b l r t u m =
    let len : length b ≡ 2 ^ n = nodes_have_their_length id k n b (some_is _ _ u.found) in
    record {
      turned = inr (
        subst (λ s. Turning n s (drop (2 ^ n) xs)) (sym (take-half n b a len)) u.turned,
        subst (λ s. Turning n s (take (2 ^ n) xs)) (sym (drop-half n b a len)) t.turned,
      );
      found = node_of_joined id k n b a r l len u.found t.found m;
    }

-- ---- the same by a level above 0, for halves that were cut in the middle

-- the level below, and the halves
half_of : (m : ℕ) (xs a : List ℕ) → length xs ≡ 2 ^ suc m → a ≡ take (length xs / 2) xs → a ≡ take (2 ^ m) xs
half_of m xs a len e = let d = double m in let half : length xs / 2 ≡ 2 ^ m = omega arith in rw half at e

rest_of : (m : ℕ) (xs b : List ℕ) → length xs ≡ 2 ^ suc m → b ≡ drop (length xs / 2) xs → b ≡ drop (2 ^ m) xs
rest_of m xs b len e = let d = double m in let half : length xs / 2 ≡ 2 ^ m = omega arith in rw half at e

pub left_has_none : (id : List ℕ) (k level : ℕ) (xs a : List ℕ) → (level ≡ 0 → ⊥) → length xs ≡ 2 ^ level
    → a ≡ take (length xs / 2) xs → HasNoTurning id k (level - 1) a → HasNoTurning id k level xs
left_has_none id k zero xs a some len e never = absurd (some refl)
left_has_none id k (suc m) xs a some len e never =
    let down : suc m - 1 ≡ m = omega arith in
    no_left id k m xs (subst (HasNoTurning id k m) (half_of m xs a len e) (subst (λ n. HasNoTurning id k n a) down never))

pub right_has_none : (id : List ℕ) (k level : ℕ) (xs b : List ℕ) → (level ≡ 0 → ⊥) → length xs ≡ 2 ^ level
    → b ≡ drop (length xs / 2) xs → HasNoTurning id k (level - 1) b → HasNoTurning id k level xs
right_has_none id k zero xs b some len e never = absurd (some refl)
right_has_none id k (suc m) xs b some len e never =
    let down : suc m - 1 ≡ m = omega arith in
    no_right id k m xs (subst (HasNoTurning id k m) (rest_of m xs b len e) (subst (λ n. HasNoTurning id k n b) down never))

-- both halves, turned, with their entries
pub record AreTurnedHalves (id : List ℕ) (k level : ℕ) (xs a b : List ℕ) (l r : Entry) : Type 0 where
  pub some : level ≡ 0 → ⊥
  pub len : length xs ≡ 2 ^ level
  pub before : IsTurnedTo id k (level - 1) (take (length xs / 2) xs) a l
  pub after : IsTurnedTo id k (level - 1) (drop (length xs / 2) xs) b r

front_turned : (id : List ℕ) (k m : ℕ) (xs a : List ℕ) (l : Entry) → length xs ≡ 2 ^ suc m
    → IsTurnedTo id k (suc m - 1) (take (length xs / 2) xs) a l → IsTurnedTo id k m (take (2 ^ m) xs) a l
front_turned id k m xs a l len t =
    let down : suc m - 1 ≡ m = omega arith in
    subst (λ ys. IsTurnedTo id k m ys a l) (half_of m xs _ len refl) (subst (λ n. IsTurnedTo id k n (take (length xs / 2) xs) a l) down t)

back_turned : (id : List ℕ) (k m : ℕ) (xs b : List ℕ) (r : Entry) → length xs ≡ 2 ^ suc m
    → IsTurnedTo id k (suc m - 1) (drop (length xs / 2) xs) b r → IsTurnedTo id k m (drop (2 ^ m) xs) b r
back_turned id k m xs b r len t =
    let down : suc m - 1 ≡ m = omega arith in
    subst (λ ys. IsTurnedTo id k m ys b r) (rest_of m xs _ len refl) (subst (λ n. IsTurnedTo id k n (drop (length xs / 2) xs) b r) down t)

pub joined_straight : (id : List ℕ) (k level : ℕ) (xs a b : List ℕ) (l r e : Entry) → AreTurnedHalves id k level xs a b l r
    → Match l.y r.y → e ≡ next_entry k (level + 1) l r → IsTurnedTo id k level xs (a ++ b) e
joined_straight id k zero xs a b l r e h m made = absurd (h.some refl)
joined_straight id k (suc n) xs a b l r e h m made =
    let t = turned_straight id k n xs a b l r (front_turned id k n xs a l h.len h.before) (back_turned id k n xs b r h.len h.after) m in
    let up : n + 2 ≡ suc n + 1 = omega arith in
    subst (λ v. IsTurnedTo id k (suc n) xs (a ++ b) v) (ap (λ j. next_entry k j l r) up ∙ sym made) t

pub joined_crossed : (id : List ℕ) (k level : ℕ) (xs a b : List ℕ) (l r e : Entry) → AreTurnedHalves id k level xs a b l r
    → Match r.y l.y → e ≡ next_entry k (level + 1) r l → IsTurnedTo id k level xs (b ++ a) e
joined_crossed id k zero xs a b l r e h m made = absurd (h.some refl)
joined_crossed id k (suc n) xs a b l r e h m made =
    let t = turned_crossed id k n xs a b l r (front_turned id k n xs a l h.len h.before) (back_turned id k n xs b r h.len h.after) m in
    let up : n + 2 ≡ suc n + 1 = omega arith in
    subst (λ v. IsTurnedTo id k (suc n) xs (b ++ a) v) (ap (λ j. next_entry k j r l) up ∙ sym made) t

pub neither_matches : (id : List ℕ) (k level : ℕ) (xs a b : List ℕ) (l r : Entry) → AreTurnedHalves id k level xs a b l r
    → is_match l.y r.y ≡ false → is_match r.y l.y ≡ false → HasNoTurning id k level xs
neither_matches id k zero xs a b l r h f g = absurd (h.some refl)
neither_matches id k (suc n) xs a b l r h f g =
    no_match id k n xs a b l r (front_turned id k n xs a l h.len h.before) (back_turned id k n xs b r h.len h.after) f g
