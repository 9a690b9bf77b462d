-- How many tuples have a node: no more than there are places, and no fewer than there are matching pairs.
use Rattle.std.proofs.Common.{◌≡◌, ◌≢◌, ℕ, zero, suc, ◌+◌, ◌-◌, ◌<◌, ◌≤◌, ◌⊎◌, inl, inr, ⊎_elim, if◌then◌else◌, nat_lt, List, [], ◌∷◌, ◌++◌, length, slice_index, slice_index_or, All, sym, refl, ap, ◌∙◌, subst, arith, lt-ltb, le-ltb}
use Rattle.std.proofs.lemmas.Bool.{cases_order, cases_lt, cases_eq}
use Rattle.std.proofs.lemmas.List.{length_push, get_or_append_left, get_or_push}
use Rattle.pos_tuple.specs.declared.entry.Entry.{Entry}
use Rattle.pos_laws.specs.Tables.{HasNode}
use Rattle.pos_lists.specs.TableLists.{TableLists, entries, tuple, left_in, right_in}
use Rattle.pos_laws.specs.Making.{AreNodes, IsAbove}
use Rattle.pos_laws.specs.TableLaws.{NoneIsAbove, EntriesAreAbove, PairsAreAbove}
use Rattle.pos_order.proofs.NodeParts.{some_is, node_of_joined, nodes_have_their_length}
use Rattle.pos_laws.proofs.Made.{no_entry, tuple_has_node, pairs_once}

-- ---- so many different numbers below m are at most m

-- the places, with place a left out
skip : ℕ → ℕ → ℕ
skip a i = if nat_lt i a then i else suc i

skip-low : (a i : ℕ) → i < a → skip a i ≡ i
unfolding skip
skip-low a i l = let e = lt-ltb i a l in rw e

skip-high : (a i : ℕ) → a ≤ i → skip a i ≡ suc i
unfolding skip
skip-high a i l = let e = le-ltb i a l in rw e

skip_other : (a i : ℕ) → skip a i ≢ a
skip_other a i e =
    ⊎_elim (λ (l : i < a). omega (arith, skip-low a i l)) (λ (l : a ≤ i). omega (arith, skip-high a i l)) (cases_lt i a)

skip_bound : (a i : ℕ) → skip a i ≤ suc i
skip_bound a i =
    ⊎_elim (λ (l : i < a). omega (arith, skip-low a i l)) (λ (l : a ≤ i). omega (arith, skip-high a i l)) (cases_lt i a)

skip_rises : (a i j : ℕ) → i < j → skip a i < skip a j
skip_rises a i j h =
    ⊎_elim
    (λ (l : j < a). omega (arith, skip-low a i (omega arith), skip-low a j l))
    (λ (l : a ≤ j). omega (arith, skip_bound a i, skip-high a j l))
    (cases_lt j a)

-- a number is given at a place below n, or at none
found : (g : ℕ → ℕ) (m n : ℕ) → ((a : ℕ) × (a < n) × (g a ≡ m)) ⊎ ((i : ℕ) → i < n → g i ≢ m)
found g m zero = inr (λ i l. absurd (omega arith))
found g m (suc n) =
    ⊎_elim
    (λ p. inl (p.0, omega (arith, p.1), p.2))
    (λ none.
    ⊎_elim
    (λ (e : g n ≡ m). inl (n, omega arith, e))
    (λ (e : g n ≢ m). inr (λ i l. ⊎_elim (λ (h : i < n). none i h) (λ (h : n ≤ i). let f : n ≡ i = omega arith in subst (λ q. g q ≢ m) f e) (cases_lt i n)))
    (cases_eq (g n) m))
    (found g m n)

differ : (g : ℕ → ℕ) (n : ℕ) → ((i j : ℕ) → i < j → j < n → g i ≢ g j) → (i j : ℕ) → i < n → j < n → i ≢ j → g i ≢ g j
differ g n h i j l m o e =
    ⊎_elim
    (λ (q : i ≡ j). o q)
    (⊎_elim (λ (q : i < j). h i j q m e) (λ (q : j < i). h j i q l (sym e)))
    (cases_order i j)

pub pigeonhole : (m n : ℕ) (g : ℕ → ℕ) → ((i : ℕ) → i < n → g i < m) → ((i j : ℕ) → i < j → j < n → g i ≢ g j) → n ≤ m
pigeonhole zero n g below once =
    ⊎_elim (λ (l : 0 < n). absurd (omega (arith, below 0 l))) (λ (l : n ≤ 0). l) (cases_lt 0 n)
pigeonhole (suc m) n g below once =
    ⊎_elim
    (λ p.
    let a = p.0 in
    let rest = pigeonhole m (n - 1) (λ i. g (skip a i))
    (λ i l.
    let s : skip a i < n = omega (arith, skip_bound a i) in
    let o : g (skip a i) ≢ g a = differ g n once (skip a i) a s p.1 (skip_other a i) in
    let b = below (skip a i) s in
    ⊎_elim (λ (e : g (skip a i) ≡ m). absurd (o (e ∙ sym p.2))) (λ (e : g (skip a i) ≢ m). omega arith) (cases_eq (g (skip a i)) m))
    (λ i j h l. once (skip a i) (skip a j) (skip_rises a i j h) (omega (arith, skip_bound a j))) in
    omega arith)
    (λ none.
    let rest = pigeonhole m n g (λ i l. let b = below i l in let o = none i l in omega arith) once in
    omega arith)
    (found g m n)

-- ---- the places of tuples that have a node

places_of : (ts : TableLists) (id : List ℕ) (k n : ℕ) (es : List Entry) → AreNodes ts id k n es →
    (xs : List (List ℕ)) → All (HasNode id k n) xs →
    (ps : List ℕ) × ((i : ℕ) → i < length xs → (slice_index ps i < entries ts n) × (tuple ts n (slice_index ps i) ≡ slice_index_or xs i []))
places_of ts id k n es b [] h = ([], λ i l. absurd (omega arith))
places_of ts id k n es b (x ∷ xs) h =
    let p = b.all x (h 0 [] (omega arith)) in
    let rest = places_of ts id k n es b xs (λ i d l. h (suc i) d (omega arith)) in
    (p.0 ∷ rest.0, at p.0 rest.0 (p.1, p.2) rest.1)
  where
    at : (q : ℕ) (ps : List ℕ) → (q < entries ts n) × (tuple ts n q ≡ x) →
        ((i : ℕ) → i < length xs → (slice_index ps i < entries ts n) × (tuple ts n (slice_index ps i) ≡ slice_index_or xs i [])) →
        (i : ℕ) → i < suc (length xs) → (slice_index (q ∷ ps) i < entries ts n) × (tuple ts n (slice_index (q ∷ ps) i) ≡ slice_index_or (x ∷ xs) i [])
    at q ps first rest zero l = first
    at q ps first rest (suc i) l = rest i (omega arith)

pub none_is_above : NoneIsAbove
none_is_above ts id k n c es b l above =
    let xs = above.0 in
    let p = places_of ts id k n es b xs above.3 in
    let bound : length xs ≤ entries ts n =
    pigeonhole (entries ts n) (length xs) (slice_index p.0)
    (λ i g. (p.1 i g).0)
    (λ i j h g e. above.2 i j [] h g (sym (p.1 i (omega arith)).1 ∙ ap (tuple ts n) e ∙ (p.1 j g).1)) in
    omega (arith, above.1, b.one_each)

-- ---- the tuples of the places of a level

-- the tuples of the first m places
tuples_to : TableLists → ℕ → ℕ → List (List ℕ)
tuples_to ts n zero = []
tuples_to ts n (suc m) = tuples_to ts n m ++ tuple ts n m ∷ []

length-tuples_to : (ts : TableLists) (n m : ℕ) → length (tuples_to ts n m) ≡ m
unfolding tuples_to
length-tuples_to ts n zero = refl
length-tuples_to ts n (suc m) = length_push (tuples_to ts n m) (tuple ts n m) ∙ ap (λ q. q + 1) (length-tuples_to ts n m) ∙ omega arith

at-tuples_to : (ts : TableLists) (n m i : ℕ) (d : List ℕ) → i < m → slice_index_or (tuples_to ts n m) i d ≡ tuple ts n i
unfolding tuples_to
at-tuples_to ts n zero i d l = absurd (omega arith)
at-tuples_to ts n (suc m) i d l =
    ⊎_elim
    (λ (h : i < m).
    get_or_append_left (tuples_to ts n m) (tuple ts n m ∷ []) d i (omega (arith, length-tuples_to ts n m))
    ∙ at-tuples_to ts n m i d h)
    (λ (h : m ≤ i).
    let e : m ≡ i = omega arith in
    get_or_push (tuples_to ts n m) (tuple ts n m) d i (length-tuples_to ts n m ∙ e) ∙ ap (tuple ts n) e)
    (cases_lt i m)

pub tuples_are_above : (ts : TableLists) (id : List ℕ) (k n c : ℕ) →
    ((i : ℕ) → i < entries ts n → HasNode id k n (tuple ts n i)) →
    ((i j : ℕ) → i < entries ts n → j < entries ts n → tuple ts n i ≡ tuple ts n j → i ≡ j) →
    c < entries ts n → IsAbove id k n c
tuples_are_above ts id k n c nodes once l =
    let m = entries ts n in
    let size = length-tuples_to ts n m in (
      tuples_to ts n m,
      omega arith,
      (λ i j d g h e.
          let o = once i j (omega arith) (omega arith)
          (sym (at-tuples_to ts n m i d (omega arith)) ∙ e ∙ at-tuples_to ts n m j d (omega arith)) in
          absurd (omega arith)),
      (λ i d g. subst (HasNode id k n) (sym (at-tuples_to ts n m i d (omega arith))) (nodes i (omega arith))),
    )

pub entries_are_above : EntriesAreAbove
entries_are_above ts id k n c es b l =
    tuples_are_above ts id k n c
    (λ i g. tuple_has_node ts id k n es b i (omega (arith, b.one_each))) b.once (omega (arith, b.one_each))

-- ---- the tuples of matching pairs

tuples_of : TableLists → ℕ → List (ℕ × ℕ) → List (List ℕ)
tuples_of ts n [] = []
tuples_of ts n (a ∷ ps) = (tuple ts n a.0 ++ tuple ts n a.1) ∷ tuples_of ts n ps

length-tuples_of : (ts : TableLists) (n : ℕ) (ps : List (ℕ × ℕ)) → length (tuples_of ts n ps) ≡ length ps
unfolding tuples_of
length-tuples_of ts n [] = refl
length-tuples_of ts n (a ∷ ps) = ap suc (length-tuples_of ts n ps)

at-tuples_of : (ts : TableLists) (n : ℕ) (ps : List (ℕ × ℕ)) (i : ℕ) (d : List ℕ) → i < length ps →
    slice_index_or (tuples_of ts n ps) i d ≡ tuple ts n (left_in ps i) ++ tuple ts n (right_in ps i)
unfolding tuples_of
at-tuples_of ts n [] i d l = absurd (omega arith)
at-tuples_of ts n (a ∷ ps) zero d l = refl
at-tuples_of ts n (a ∷ ps) (suc i) d l = at-tuples_of ts n ps i d (omega arith)

pub pairs_are_above : PairsAreAbove
pairs_are_above ts id k n c below ps b h l =
    let inside : (i : ℕ) → i < length (tuples_of ts n ps) → i < length ps = λ i g. omega (arith, length-tuples_of ts n ps) in (
      tuples_of ts n ps,
      omega (arith, length-tuples_of ts n ps),
      (λ i j d g m e.
          let o = pairs_once ts id k n below ps b h i j (inside i (omega arith)) (inside j m)
          (sym (at-tuples_of ts n ps i d (inside i (omega arith))) ∙ e ∙ at-tuples_of ts n ps j d (inside j m)) in
          absurd (omega arith)),
      (λ i d g.
          let m = inside i g in
          let p = h.inside i m in
          let nl = b.nodes (left_in ps i) no_entry p.0 in
          let nr = b.nodes (right_in ps i) no_entry p.1 in
          let node = node_of_joined id k n _ _ _ _ (nodes_have_their_length id k n _ (some_is _ _ nl)) nl nr (h.matching i no_entry m) in
          subst (HasNode id k (suc n)) (sym (at-tuples_of ts n ps i d m)) (some_is _ _ node)),
    )
