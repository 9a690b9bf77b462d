-- The order of tuples as a recursion: the rests decide, and where they are the same the first values.
-- Every fact on the order is an induction over it.
use Rattle.std.proofs.Common.{◌≡◌, ◌≢◌, ℕ, zero, suc, ◌+◌, ◌<◌, ◌⊎◌, ◌↔◌, inl, inr, ⊎_elim, true, false, nat_lt, IsTrue, List, [], ◌∷◌, ◌++◌, length, slice_index, sym, refl, ap, ap₂, ◌∙◌, subst, arith, lt-ltb, ltb-true, eqb-true, eq-eqb, length-append, lt_trans, ext_get_or, true≢false}
use Rattle.std.proofs.lemmas.Bool.{cases_order, cases_Bool, or_cases, and_parts, or_left, or_right, and_from, false_from_ne_true}
use Rattle.pos_order.specs.Order.{DiffersAt, Below, is_same, is_below, lesser_first}

-- the rest is below the rest, or they are the same and the first value is less
unfoldable pub Under : List ℕ → List ℕ → Type 0
Under [] ys = ⊥
Under (x ∷ xs) [] = ⊥
Under (x ∷ xs) (y ∷ ys) = Under xs ys ⊎ ((xs ≡ ys) × (x < y))

pub under-length : (a b : List ℕ) → Under a b → length a ≡ length b
unfolding Under
under-length [] b h = absurd h
under-length (x ∷ a) [] h = absurd h
under-length (x ∷ a) (y ∷ b) h = ap suc (⊎_elim (under-length a b) (λ e. ap length e.0) h)

-- ---- an order: total, and one way

pub under_self : (a : List ℕ) → Under a a → ⊥
unfolding Under
under_self [] h = h
under_self (x ∷ a) h = ⊎_elim (under_self a) (λ e. absurd (omega (arith, e.1))) h

pub under_trans : (a b c : List ℕ) → Under a b → Under b c → Under a c
unfolding Under
under_trans [] b c h g = absurd h
under_trans (x ∷ a) [] c h g = absurd h
under_trans (x ∷ a) (y ∷ b) [] h g = absurd g
under_trans (x ∷ a) (y ∷ b) (z ∷ c) (inl h) (inl g) = inl (under_trans a b c h g)
under_trans (x ∷ a) (y ∷ b) (z ∷ c) (inl h) (inr g) = inl (subst (λ l. Under a l) g.0 h)
under_trans (x ∷ a) (y ∷ b) (z ∷ c) (inr h) (inl g) = inl (subst (λ l. Under l c) (sym h.0) g)
under_trans (x ∷ a) (y ∷ b) (z ∷ c) (inr h) (inr g) = inr (h.0 ∙ g.0, lt_trans h.1 g.1)

pub under_one_way : (a b : List ℕ) → Under a b → Under b a → ⊥
under_one_way a b h g = under_self a (under_trans a b a h g)

pub under_total : (a b : List ℕ) → length a ≡ length b → (a ≡ b) ⊎ (Under a b ⊎ Under b a)
unfolding Under
under_total [] [] e = inl refl
under_total [] (y ∷ b) e = absurd (omega (arith, e))
under_total (x ∷ a) [] e = absurd (omega (arith, e))
under_total (x ∷ a) (y ∷ b) e =
    ⊎_elim
    (λ (same : a ≡ b).
    ⊎_elim
    (λ (f : x ≡ y). inl (ap₂ (λ n l. n ∷ l) f same))
    (⊎_elim
    (λ (f : x < y). inr (inl (inr (same, f))))
    (λ (f : y < x). inr (inr (inr (sym same, f)))))
    (cases_order x y))
    (⊎_elim (λ h. inr (inl (inl h))) (λ h. inr (inr (inl h))))
    (under_total a b (omega (arith, e)))

-- ---- joined lists: the backs decide, and where they are the same the fronts

pub under_back : (a c b d : List ℕ) → length a ≡ length c → Under b d → Under (a ++ b) (c ++ d)
unfolding Under
under_back [] [] b d e h = h
under_back [] (z ∷ c) b d e h = absurd (omega (arith, e))
under_back (x ∷ a) [] b d e h = absurd (omega (arith, e))
under_back (x ∷ a) (z ∷ c) b d e h = inl (under_back a c b d (omega (arith, e)) h)

pub under_front : (a c b : List ℕ) → Under a c → Under (a ++ b) (c ++ b)
unfolding Under
under_front [] c b h = absurd h
under_front (x ∷ a) [] b h = absurd h
under_front (x ∷ a) (z ∷ c) b (inl h) = inl (under_front a c b h)
under_front (x ∷ a) (z ∷ c) b (inr h) = inr (ap (λ l. l ++ b) h.0, h.1)

-- ---- the test that computes

same_tested : (a b : List ℕ) → is_same a b ≡ true → a ≡ b
same_tested [] [] e = refl
same_tested [] (y ∷ b) e = cc
same_tested (x ∷ a) [] e = cc
same_tested (x ∷ a) (y ∷ b) e =
    let p = and_parts _ _ e in
    ap₂ (λ n l. n ∷ l) (eqb-true x y p.0) (same_tested a b p.1)

same_itself : (a : List ℕ) → is_same a a ≡ true
same_itself [] = refl
same_itself (x ∷ a) = and_from _ _ (eq-eqb x x refl) (same_itself a)

pub under_from_test : (a b : List ℕ) → is_below a b ≡ true → Under a b
unfolding Under is_below
under_from_test [] b e = cc
under_from_test (x ∷ a) [] e = cc
under_from_test (x ∷ a) (y ∷ b) e =
    ⊎_elim
    (λ h. inl (under_from_test a b h))
    (λ h. let p = and_parts _ _ h in inr (same_tested a b p.0, ltb-true x y p.1))
    (or_cases _ _ e)

pub test_from_under : (a b : List ℕ) → Under a b → is_below a b ≡ true
unfolding Under is_below
test_from_under [] b h = absurd h
test_from_under (x ∷ a) [] h = absurd h
test_from_under (x ∷ a) (y ∷ b) (inl h) = or_left _ _ (test_from_under a b h)
test_from_under (x ∷ a) (y ∷ b) (inr h) =
    let e : is_same a b ≡ true = subst (λ l. is_same a l ≡ true) h.0 (same_itself a) in
    or_right _ _ (and_from _ _ e (lt-ltb x y h.1))

-- ---- the last place where two lists differ

shifted_same : (x y : ℕ) (a b : List ℕ) (i : ℕ) →
    ((j : ℕ) → i < j → j < length a → slice_index a j ≡ slice_index b j) →
    (j : ℕ) → suc i < j → j < suc (length a) → slice_index (x ∷ a) j ≡ slice_index (y ∷ b) j
shifted_same x y a b i h zero l m = absurd (omega arith)
shifted_same x y a b i h (suc j) l m = h j (omega arith) (omega arith)

same_behind : (x y : ℕ) (a b : List ℕ) → a ≡ b →
    (j : ℕ) → 0 < j → j < suc (length a) → slice_index (x ∷ a) j ≡ slice_index (y ∷ b) j
same_behind x y a b e zero l m = absurd (omega arith)
same_behind x y a b e (suc j) l m = ap (λ s. slice_index s j) e

pub below_from_under : (a b : List ℕ) → Under a b → Below a b
unfolding Under
below_from_under [] b h = absurd h
below_from_under (x ∷ a) [] h = absurd h
below_from_under (x ∷ a) (y ∷ b) (inl h) =
    let p = below_from_under a b h in
    record {
      one_length = ap suc p.one_length;
      last = (
        suc p.last.0,
        record {
          inside = omega (arith, p.last.1.inside);
          less = p.last.1.less;
          same = shifted_same x y a b p.last.0 p.last.1.same;
        },
      );
    }
below_from_under (x ∷ a) (y ∷ b) (inr h) =
    record {
      one_length = ap suc (ap length h.0);
      last = (0, record { inside = omega arith; less = h.1; same = same_behind x y a b h.0 });
    }

under_at : (a b : List ℕ) → length a ≡ length b → (i : ℕ) → DiffersAt a b i → Under a b
unfolding Under
under_at [] b e i d = absurd (omega (arith, d.inside))
under_at (x ∷ a) [] e i d = absurd (omega (arith, e))
under_at (x ∷ a) (y ∷ b) e zero d =
    let f : length a ≡ length b = omega (arith, e) in
    inr (ext_get_or 0 a b f (λ j l. d.same (suc j) (omega arith) (omega arith)), d.less)
under_at (x ∷ a) (y ∷ b) e (suc i) d =
    inl (under_at a b (omega (arith, e)) i (record {
      inside = omega (arith, d.inside);
      less = d.less;
      same = λ j l m. d.same (suc j) (omega arith) (omega arith);
    }))

pub under_from_below : (a b : List ℕ) → Below a b → Under a b
under_from_below a b h = under_at a b h.one_length h.last.0 h.last.1

-- the test that computes says what the fact says
pub is_below-decides : (a b : List ℕ) → IsTrue (is_below a b) ↔ Below a b
is_below-decides a b =
    (λ e. below_from_under a b (under_from_test a b e), λ h. test_from_under a b (under_from_below a b h))

-- ---- the lesser half first

pub lesser_first-exchanged : (a b : List ℕ) → Under b a → lesser_first a b ≡ b ++ a
unfolding lesser_first
lesser_first-exchanged a b h = let e = test_from_under b a h in rw e

pub lesser_first-kept : (a b : List ℕ) → (Under b a → ⊥) → lesser_first a b ≡ a ++ b
unfolding lesser_first
lesser_first-kept a b n =
    let e : is_below b a ≡ false = false_from_ne_true _ (λ t. n (under_from_test b a t)) in rw e

-- one of the two ways
pub lesser_first_cases : (a b : List ℕ) → (lesser_first a b ≡ a ++ b) ⊎ (lesser_first a b ≡ b ++ a)
lesser_first_cases a b =
    ⊎_elim
    (λ t. inr (lesser_first-exchanged a b (under_from_test b a t)))
    (λ f. inl (lesser_first-kept a b (λ h. true≢false (sym (test_from_under b a h) ∙ f))))
    (cases_Bool (is_below b a))

pub length-lesser_first : (a b : List ℕ) → length (lesser_first a b) ≡ length a + length b
length-lesser_first a b =
    ⊎_elim
    (λ e. ap length e ∙ length-append a b)
    (λ e. let f = ap length e in let g = length-append b a in omega arith)
    (lesser_first_cases a b)

pub lesser_first_comm : (a b : List ℕ) → length a ≡ length b → lesser_first a b ≡ lesser_first b a
lesser_first_comm a b e =
    ⊎_elim
    (λ (f : a ≡ b). ap₂ lesser_first f (sym f))
    (⊎_elim
    (λ h. lesser_first-kept a b (under_one_way a b h) ∙ sym (lesser_first-exchanged b a h))
    (λ h. lesser_first-exchanged a b h ∙ sym (lesser_first-kept b a (under_one_way b a h))))
    (under_total a b e)

-- ---- from the last place on

-- two lists that are the same from place i + 1 on are decided by place i, if they differ there
pub decided_at : (a b : List ℕ) (i : ℕ) → length a ≡ length b → i < length a
    → ((j : ℕ) → i < j → j < length a → slice_index a j ≡ slice_index b j) → slice_index a i ≢ slice_index b i
    → IsTrue (nat_lt (slice_index a i) (slice_index b i)) ↔ Below a b
decided_at a b i e inside same differs = (
  λ t. record { one_length = e; last = (i, record { inside = inside; less = ltb-true _ _ t; same = same }) },
  λ h. lt-ltb _ _ (
      ⊎_elim
      (λ (f : slice_index a i ≡ slice_index b i). absurd (differs f))
      (⊎_elim
      (λ (f : slice_index a i < slice_index b i). f)
      (λ (f : slice_index b i < slice_index a i).
      absurd (under_one_way a b (under_from_below a b h)
      (under_at b a (sym e) i (record { inside = omega arith; less = f; same = λ j l m. sym (same j l (omega arith)) })))))
      (cases_order (slice_index a i) (slice_index b i))),
)

-- two lists that are the same everywhere
pub decided_nowhere : (a b : List ℕ) → length a ≡ length b
    → ((j : ℕ) → j < length a → slice_index a j ≡ slice_index b j) → Below a b → ⊥
decided_nowhere a b e same h =
    let d = h.last.1 in
    omega (arith, d.less, same h.last.0 d.inside)
