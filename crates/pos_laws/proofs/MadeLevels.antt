-- One more level leaves the levels below as they are; so the tables of a run describe the id when all are made.
use Rattle.std.proofs.Common.{◌≡◌, ℕ, zero, suc, ◌<◌, ◌≤◌, ⊎_elim, List, [], ◌∷◌, ◌++◌, length, slice_index, slice_index_or, sym, refl, ap, ap₂, ◌∙◌, subst, arith}
use Rattle.std.proofs.lemmas.Bool.{cases_lt}
use Rattle.std.proofs.lemmas.List.{length-map, get_or-map, get_or_append_left, get_or_push}
use Rattle.pos_tuple.specs.declared.entry.Entry.{Entry}
use Rattle.pos_tuple.specs.Node.{node}
use Rattle.pos_lists.specs.TableLists.{TableLists, pairs_of, entries, left_of, right_of, tuple, PairsInside, left_in, right_in, with_level}
use Rattle.pos_laws.specs.Making.{AreNodes, NeverFalls, IsNextTable}
use Rattle.pos_laws.specs.TableLaws.{FirstTableIsMade, NextTableIsMade, MadeTablesDescribe}
use Rattle.pos_order.proofs.NodeParts.{some_is}
use Rattle.pos_laws.proofs.NodeParts.{y_of-node}
use Rattle.pos_laws.proofs.Made.{no_entry, first_table_is_right, next_table_is_right}

-- the two tables are the same at the levels 0 to n
pub record SameUpTo (ts us : TableLists) (n : ℕ) : Type 0 where
  pub values : us.values ≡ ts.values
  pub pairs : (m : ℕ) → m < n → pairs_of us (suc m) ≡ pairs_of ts (suc m)

pub entries_same : (ts us : TableLists) (n m : ℕ) → SameUpTo ts us n → m ≤ n → entries us m ≡ entries ts m
unfolding entries
entries_same ts us n zero s l = ap length s.values
entries_same ts us n (suc m) s l = ap length (s.pairs m l)

pub tuple_same : (ts us : TableLists) (n m : ℕ) → SameUpTo ts us n → m ≤ n → (i : ℕ) → tuple us m i ≡ tuple ts m i
unfolding tuple
tuple_same ts us n zero s l i = ap (λ v. slice_index v i ∷ []) s.values
tuple_same ts us n (suc m) s l i =
    let e = s.pairs m l in
    let below = tuple_same ts us n m s (omega arith) in
    ap₂ (λ a b. a ++ b) (below _) (below _)
    ∙ ap (λ (q : List (ℕ × ℕ)). tuple ts m (slice_index_or q i (0, 0)).0 ++ tuple ts m (slice_index_or q i (0, 0)).1) e

pub nodes_same : (ts us : TableLists) (n m : ℕ) (id : List ℕ) (k : ℕ) (es : List Entry) → SameUpTo ts us n → m ≤ n →
    AreNodes ts id k m es → AreNodes us id k m es
nodes_same ts us n m id k es s l h =
    let e = entries_same ts us n m s l in
    let t = tuple_same ts us n m s l in
    record {
      one_each = h.one_each ∙ sym e;
      nodes = λ i d g. ap (node id k m) (t i) ∙ h.nodes i d g;
      all = λ xs g. let p = h.all xs g in (p.0, subst (λ c. p.0 < c) (sym e) p.1, t p.0 ∙ p.2);
      once = λ i j g o f. h.once i j (subst (λ c. i < c) e g) (subst (λ c. j < c) e o) (sym (t i) ∙ f ∙ t j);
    }

pub with_level_same : (ts : TableLists) (n : ℕ) (ps : List (ℕ × ℕ)) → length ts.pairs ≡ n → SameUpTo ts (with_level ts ps) n
unfolding pairs_of
with_level_same ts n ps e = record {
  values = refl;
  pairs = λ m l. get_or_append_left ts.pairs (ps ∷ []) [] m (omega arith);
}

pub pairs_of-with_level : (ts : TableLists) (n : ℕ) (ps : List (ℕ × ℕ)) → length ts.pairs ≡ n → pairs_of (with_level ts ps) (suc n) ≡ ps
unfolding pairs_of
pairs_of-with_level ts n ps e = get_or_push ts.pairs ps [] n e

pub first_table_is_made : FirstTableIsMade
first_table_is_made ts id k es h r = record {
  inside = λ m i l g. absurd (omega arith);
  made = λ m l.
      let e : 0 ≡ m = omega arith in
      (es, subst (λ q. AreNodes ts id k q es) e (first_table_is_right ts id k es h), r);
}

-- at each level up to n + 1 the property holds, if it does up to n and at n + 1
up_to_next : (P : ℕ → Type 0) (n : ℕ) → ((m : ℕ) → m ≤ n → P m) → P (suc n) → (m : ℕ) → m ≤ suc n → P m
up_to_next P n below here m l =
    ⊎_elim
    (λ (h : m < suc n). below m (omega arith))
    (λ (h : suc n ≤ m). let e : suc n ≡ m = omega arith in subst P e here)
    (cases_lt m (suc n))

next_inside : (ts us : TableLists) (n : ℕ) (below : List Entry) (ps : List (ℕ × ℕ)) → SameUpTo ts us n → length below ≡ entries ts n →
    PairsInside ts n → pairs_of us (suc n) ≡ ps →
    ((i : ℕ) → i < length ps → (left_in ps i < length below) × (right_in ps i < length below)) →
    (m i : ℕ) → m ≤ n → i < entries us (suc m) → (left_of us (suc m) i < entries us m) × (right_of us (suc m) i < entries us m)
unfolding entries
next_inside ts us n below ps s e h at new m i l g =
    ⊎_elim
    (λ (o : m < n).
    let q = s.pairs m o in
    let c = entries_same ts us n m s (omega arith) in
    let old = h m i o (subst (λ v. i < length v) q g) in (
      subst (λ (v : List (ℕ × ℕ)). (slice_index_or v i (0, 0)).0 < entries us m) (sym q) (subst (λ v. left_of ts (suc m) i < v) (sym c) old.0),
      subst (λ (v : List (ℕ × ℕ)). (slice_index_or v i (0, 0)).1 < entries us m) (sym q) (subst (λ v. right_of ts (suc m) i < v) (sym c) old.1),
    ))
    (λ (o : n ≤ m).
    let f : n ≡ m = omega arith in
    let c : length below ≡ entries us m = e ∙ sym (entries_same ts us n n s (omega arith)) ∙ ap (entries us) f in
    let q : pairs_of us (suc m) ≡ ps = ap (λ v. pairs_of us (suc v)) (sym f) ∙ at in
    let old = new i (subst (λ v. i < length v) q g) in (
      subst (λ (v : List (ℕ × ℕ)). (slice_index_or v i (0, 0)).0 < entries us m) (sym q) (subst (λ v. left_in ps i < v) c old.0),
      subst (λ (v : List (ℕ × ℕ)). (slice_index_or v i (0, 0)).1 < entries us m) (sym q) (subst (λ v. right_in ps i < v) c old.1),
    ))
    (cases_lt m n)

pub next_table_is_made : NextTableIsMade
next_table_is_made ts id k n below ps es e made b h r =
    let us = with_level ts ps in
    let s = with_level_same ts n ps e in
    let at = pairs_of-with_level ts n ps e in
    let nodes : AreNodes us id k (suc n) es =
    next_table_is_right us id k n below es (nodes_same ts us n n id k below s (omega arith) b)
    (subst (λ v. IsNextTable k n below v es) (sym at) h) in (
      record {
        inside = λ m i l. next_inside ts us n below ps s b.one_each made.inside at h.are_matching.inside m i (omega arith);
        made = up_to_next (λ m. (fs : List Entry) × AreNodes us id k m fs × NeverFalls fs) n
            (λ m l. let q = made.made m l in (q.0, nodes_same ts us n m id k q.0 s l q.1, q.2))
            (es, nodes, r);
      },
      nodes,
    )

-- the last list is no part of the levels
last_same : (ts : TableLists) (last : List ℕ) → SameUpTo ts (record ts { last = last }) 6
unfolding pairs_of
last_same ts last = record { values = refl; pairs = λ m l. refl }

last_inside : (ts : TableLists) (last : List ℕ) → PairsInside ts 6 → PairsInside (record ts { last = last }) 6
unfolding pairs_of entries
last_inside ts last h zero i l g = h zero i l g
last_inside ts last h (suc m) i l g = h (suc m) i l g

pub made_tables_describe : MadeTablesDescribe
made_tables_describe ts id k es last six made nodes is =
    let us = record ts { last = last } in
    let same = last_same ts last in
    let level : (n : ℕ) → n ≤ 6 → (fs : List Entry) × AreNodes us id k n fs × NeverFalls fs =
    λ n l. let q = made.made n l in (q.0, nodes_same ts us 6 n id k q.0 same l q.1, q.2) in
    let top = nodes_same ts us 6 6 id k es same (omega arith) nodes in
    record {
      six = six;
      inside = last_inside ts last made.inside;
      nodes = λ n i l g. let q = level n l in some_is _ _ (q.1.nodes i no_entry (omega (arith, q.1.one_each)));
      all = λ n xs l g. (level n l).1.all xs g;
      once = λ n i j l g m e. (level n l).1.once i j g m e;
      rises = λ n i j l g m.
          let q = level n l in
          let a : j < length q.0 = omega (arith, q.1.one_each) in
          let ei = y_of-node id k n _ _ (q.1.nodes i no_entry (omega arith)) in
          let ej = y_of-node id k n _ _ (q.1.nodes j no_entry a) in
          let o = q.2 i j no_entry g a in
          omega arith;
      as_long = ap length is ∙ length-map _ _ ∙ top.one_each;
      last_y = λ i l.
          let a : i < length es = omega (arith, top.one_each) in
          ap (λ v. slice_index v i) is ∙ get_or-map (λ e. e.y) es i no_entry 0 a
          ∙ sym (y_of-node id k 6 _ _ (top.nodes i no_entry a));
    }
