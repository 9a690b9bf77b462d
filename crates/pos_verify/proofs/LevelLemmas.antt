-- Groups of values, and the step from the entries of one level to those of the next.
use Rattle.std.proofs.Common.{◌≡◌, ◌≢◌, ℕ, zero, suc, ◌+◌, ◌-◌, ◌*◌, ◌^◌, ◌<◌, ◌≤◌, true, if◌then◌else◌, List, [], ◌∷◌, length, take, drop, refl, sym, ap, ap₂, ◌∙◌, subst, arith, drop-cons, lt-ltb, ◌⊎◌, inl, inr, ⊎_elim}
use Rattle.std.specs.Prelude.{Option, Some, None, IsSome, slice_set, slice_index, nat_lt}
use Rattle.std.specs.List.{slice_get}
use Rattle.std.proofs.lemmas.List.{drop-take, take-take, drop-drop, length-set, take_all}
use Rattle.std.proofs.Math.Nat.{mul-one}
use Rattle.std.proofs.lemmas.Bool.{cases_order}
use Rattle.pos_order.proofs.PlotOrderLemmas.{double}
use Rattle.pos_tuple.specs.declared.entry.Entry.{Entry}
use Rattle.pos_tuple.specs.Match.{is_match}
use Rattle.pos_tuple.specs.Node.{first_entry, first_node, next_entry, joined, node}
use Rattle.pos_tuple.proofs.StreamLemmas.{pow_mono}
use Rattle.pos_verify.specs.Verdict.{group, FailsFirst}
use Rattle.pos_verify.specs.Levels.{FitsTable, AllFit, joined_at, AreGroupNodes, AreJoined, StopsAt}

-- ---- reads

pub slice_get-set_same : {X : Type 0} (xs : List X) (i : ℕ) (v : X) → i < length xs → slice_get (slice_set xs i v) i ≡ Some v
slice_get-set_same [] i v h = absurd (omega (arith, h))
slice_get-set_same (x ∷ xs) zero v h = refl
slice_get-set_same (x ∷ xs) (suc i) v h = slice_get-set_same xs i v (omega arith)

pub slice_get-set_other : {X : Type 0} (xs : List X) (i j : ℕ) (v : X) → i ≢ j → slice_get (slice_set xs i v) j ≡ slice_get xs j
slice_get-set_other [] i j v h = refl
slice_get-set_other (x ∷ xs) zero zero v h = absurd (h refl)
slice_get-set_other (x ∷ xs) zero (suc j) v h = refl
slice_get-set_other (x ∷ xs) (suc i) zero v h = refl
slice_get-set_other (x ∷ xs) (suc i) (suc j) v h = slice_get-set_other xs i j v (λ e. h (ap suc e))

-- ---- two entries

pub joined_at-read :
    (k t : ℕ) (entries : List Entry) (q : ℕ) (l r : Entry)
    → slice_get entries (2 * q) ≡ Some l → slice_get entries (2 * q + 1) ≡ Some r
    → joined_at k t entries q ≡ (if is_match l.y r.y then Some (next_entry k t l r) else None)
unfolding joined
joined_at-read k t entries q l r left right = rw (left, right) refl

-- ---- groups

pub group-left : (n q : ℕ) (xs : List ℕ) → take (2 ^ n) (group (suc n) q xs) ≡ group n (2 * q) xs
group-left n q xs =
    let d = double n in
    let at : q * 2 ^ suc n ≡ 2 * q * 2 ^ n = ap (λ w. q * w) d ∙ omega arith in
    take-take (2 ^ n) (2 ^ suc n) (drop (q * 2 ^ suc n) xs) (omega arith) ∙ ap (λ a. take (2 ^ n) (drop a xs)) at

pub group-right : (n q : ℕ) (xs : List ℕ) → drop (2 ^ n) (group (suc n) q xs) ≡ group n (2 * q + 1) xs
group-right n q xs =
    let d = double n in
    let rows : q * 2 ^ suc n ≡ q * (2 ^ n + 2 ^ n) = ap (λ w. q * w) d in
    let at : q * 2 ^ suc n + 2 ^ n ≡ (2 * q + 1) * 2 ^ n = omega (arith, rows) in
    ap (λ m. drop (2 ^ n) (take m (drop (q * 2 ^ suc n) xs))) d
    ∙ drop-take (2 ^ n) (2 ^ n) (drop (q * 2 ^ suc n) xs)
    ∙ ap (take (2 ^ n)) (drop-drop (2 ^ n) (q * 2 ^ suc n) xs)
    ∙ ap (λ a. take (2 ^ n) (drop a xs)) at

-- the node of a group is what those of its halves join to
pub node-group :
    (id : List ℕ) (k n q : ℕ) (xs : List ℕ)
    → node id k (suc n) (group (suc n) q xs)
    ≡ joined k (n + 2) (node id k n (group n (2 * q) xs)) (node id k n (group n (2 * q + 1) xs))
unfolding node
node-group id k n q xs =
    ap₂ (λ l r. joined k (n + 2) (node id k n l) (node id k n r)) (group-left n q xs) (group-right n q xs)

-- from a level's nodes to the next
pub are_nodes-next :
    (id : List ℕ) (k n m : ℕ) (xs : List ℕ) (old new : List Entry)
    → AreGroupNodes id k n xs (2 * m) old → AreJoined k (n + 2) m old new → AreGroupNodes id k (suc n) xs m new
are_nodes-next id k n m xs old new nodes join q h =
    join.joins q h
    ∙ ap₂ (joined k (n + 2)) (nodes (2 * q) (omega arith)) (nodes (2 * q + 1) (omega arith))
    ∙ sym (node-group id k n q xs)

-- ---- single values

group_of_one : (q : ℕ) (xs : List ℕ) → q < length xs → group 0 q xs ≡ slice_index xs q ∷ []
group_of_one q xs h =
    ap (λ a. take 1 (drop a xs)) (mul-one q) ∙ ap (take 1) (drop-cons xs q 0 h)

pub node-one :
    (id : List ℕ) (k q : ℕ) (xs : List ℕ) → q < length xs → slice_index xs q < 2 ^ k
    → node id k 0 (group 0 q xs) ≡ Some (first_entry id k (slice_index xs q))
unfolding node first_node
node-one id k q xs inside below =
    let small : nat_lt (slice_index xs q) (2 ^ k) ≡ true = lt-ltb _ _ below in
    ap (first_node id k) (group_of_one q xs inside) ∙ rw small refl

-- ---- one more entry

last_or_less : (q i : ℕ) → q < i + 1 → (q ≡ i) ⊎ (q < i)
last_or_less q i h =
    ⊎_elim (λ (e : q ≡ i). inl e) (⊎_elim (λ (e : q < i). inr e) (λ (e : i < q). absurd (omega arith))) (cases_order q i)

some_is_some : {X : Type 0} (x : X) → IsSome (Some x)
some_is_some x = refl

pub are_nodes-push :
    (id : List ℕ) (k n i : ℕ) (xs : List ℕ) (entries : List Entry) (v : Entry) → i < length entries
    → Some v ≡ node id k n (group n i xs) → AreGroupNodes id k n xs i entries → AreGroupNodes id k n xs (i + 1) (slice_set entries i v)
are_nodes-push id k n i xs entries v inside e h q below =
    ⊎_elim
    (λ (same : q ≡ i). rw same (slice_get-set_same entries i v inside ∙ e))
    (λ (less : q < i). slice_get-set_other entries i q v (λ (f : i ≡ q). absurd (omega arith)) ∙ h q less)
    (last_or_less q i below)

pub all_fit-push :
    (k t i : ℕ) (entries : List Entry) (v : Entry) → i < length entries → FitsTable k t v
    → AllFit k t i entries → AllFit k t (i + 1) (slice_set entries i v)
all_fit-push k t i entries v inside fits h q e below is =
    ⊎_elim
    (λ (same : q ≡ i).
    let there : Some v ≡ Some e =
    sym (slice_get-set_same entries i v inside) ∙ ap (slice_get (slice_set entries i v)) (sym same) ∙ is
    in
    let one : v ≡ e = cc in subst (FitsTable k t) one fits)
    (λ (less : q < i). h q e less (sym (slice_get-set_other entries i q v (λ (f : i ≡ q). absurd (omega arith))) ∙ is))
    (last_or_less q i below)

-- ---- the pairs of a level

-- the first p groups are joined, and the entries from 2 * p on are as they were
pub record JoinedSoFar (k t p : ℕ) (old new : List Entry) : Type 0 where
  pub joins : (q : ℕ) → q < p → slice_get new q ≡ joined_at k t old q
  pub fit : AllFit k t p new
  pub rest : (q : ℕ) → 2 * p ≤ q → slice_get new q ≡ slice_get old q
  pub count : length new ≡ 64

-- the entries of the next group are those of the old list
pub joined-reads : (k t p : ℕ) (old new : List Entry) → JoinedSoFar k t p old new → joined_at k t new p ≡ joined_at k t old p
joined-reads k t p old new h = ap₂ (joined k t) (h.rest (2 * p) (omega arith)) (h.rest (2 * p + 1) (omega arith))

pub joined-next :
    (k t p : ℕ) (old new : List Entry) (v : Entry) → p < 64 → Some v ≡ joined_at k t new p → FitsTable k t v
    → JoinedSoFar k t p old new → JoinedSoFar k t (p + 1) old (slice_set new p v)
joined-next k t p old new v inside e fits h = record {
  joins = λ q below.
      ⊎_elim
      (λ (same : q ≡ p). rw same (slice_get-set_same new p v (omega (arith, h.count)) ∙ e ∙ joined-reads k t p old new h))
      (λ (less : q < p). slice_get-set_other new p q v (λ (f : p ≡ q). absurd (omega arith)) ∙ h.joins q less)
      (last_or_less q p below);
  fit = all_fit-push k t p new v (omega (arith, h.count)) fits h.fit;
  rest = λ q below. slice_get-set_other new p q v (λ (f : p ≡ q). absurd (omega arith)) ∙ h.rest q (omega arith);
  count = length-set new p v ∙ h.count;
}

is_some-read : {X : Type 0} (xs : List X) (q : ℕ) (o : Option X) → q < length xs → slice_get xs q ≡ o → IsSome o
is_some-read [] q o h e = absurd (omega (arith, h))
is_some-read (x ∷ xs) zero o h e = subst IsSome e (some_is_some x)
is_some-read (x ∷ xs) (suc q) o h e = is_some-read xs q o (omega arith) e

-- ---- the levels

-- the levels below this one are joined: their groups have nodes, and the entries in front are those of the last of them
pub record LevelsSoFar (id : List ℕ) (k : ℕ) (xs : List ℕ) (level : ℕ) (entries : List Entry) : Type 0 where
  pub nodes : AreGroupNodes id k (level - 1) xs (2 ^ (7 - level)) entries
  pub fit : AllFit k level (2 ^ (7 - level)) entries
  pub below : (n q : ℕ) → n < level → q < 2 ^ (6 - n) → IsSome (node id k n (group n q xs))
  pub count : length entries ≡ 64

nodes_are_some :
    (id : List ℕ) (k n m : ℕ) (xs : List ℕ) (entries : List Entry) → m ≤ length entries → AreGroupNodes id k n xs m entries
    → (q : ℕ) → q < m → IsSome (node id k n (group n q xs))
nodes_are_some id k n m xs entries most nodes q h = is_some-read entries q _ (omega arith) (nodes q h)

-- twice the groups of a level is the groups of the one below
pub twice_groups : (level : ℕ) → level ≤ 6 → 2 * 2 ^ (6 - level) ≡ 2 ^ (7 - level)
twice_groups level most =
    let d = double (6 - level) in
    let up : 7 - level ≡ suc (6 - level) = omega arith in rw up (omega arith)

pub levels-next :
    (id : List ℕ) (k : ℕ) (xs : List ℕ) (level : ℕ) (old new : List Entry) → 1 ≤ level → level ≤ 6 → length new ≡ 64
    → AreJoined k (level + 1) (2 ^ (6 - level)) old new → LevelsSoFar id k xs level old → LevelsSoFar id k xs (level + 1) new
levels-next id k xs zero old new least most count join h = absurd (omega arith)
levels-next id k xs (suc n) old new least most count join h =
    let down : suc n - 1 ≡ n = omega arith in
    let up : suc n + 1 ≡ n + 2 = omega arith in
    let back : suc n + 1 - 1 ≡ suc n = omega arith in
    let less : 7 - (suc n + 1) ≡ 6 - suc n = omega arith in
    let twice = twice_groups (suc n) most in
    let before : AreGroupNodes id k n xs (2 * 2 ^ (6 - suc n)) old =
    λ q b. subst (λ m. slice_get old q ≡ node id k m (group m q xs)) down (h.nodes q (omega (arith, twice)))
    in
    let joins : AreJoined k (n + 2) (2 ^ (6 - suc n)) old new = subst (λ t. AreJoined k t (2 ^ (6 - suc n)) old new) up join in
    let nodes : AreGroupNodes id k (suc n) xs (2 ^ (6 - suc n)) new = are_nodes-next id k n (2 ^ (6 - suc n)) xs old new before joins in
    let small : 2 ^ (6 - suc n) ≤ 2 ^ 6 = pow_mono (6 - suc n) 6 (omega arith) in
    record {
      nodes = rw (back, less) nodes;
      fit = rw less join.fit;
      below = λ m q low b.
          ⊎_elim
          (λ (same : m ≡ suc n).
          subst (λ i. IsSome (node id k i (group i q xs))) (sym same)
          (nodes_are_some id k (suc n) (2 ^ (6 - suc n)) xs new (omega arith) nodes q (subst (λ i. q < 2 ^ (6 - i)) same b)))
          (λ (under : m < suc n). h.below m q under b)
          (last_or_less m (suc n) low);
      count = count;
    }

pub levels-stop :
    (id : List ℕ) (k : ℕ) (xs : List ℕ) (level pair : ℕ) (old : List Entry) → 1 ≤ level → level ≤ 6
    → StopsAt k (level + 1) old (2 ^ (6 - level)) pair → LevelsSoFar id k xs level old → FailsFirst id k xs level pair
levels-stop id k xs zero pair old least most stop h = absurd (omega arith)
levels-stop id k xs (suc n) pair old least most stop h =
    let down : suc n - 1 ≡ n = omega arith in
    let up : suc n + 1 ≡ n + 2 = omega arith in
    let twice = twice_groups (suc n) most in
    let before : (q : ℕ) → q < 2 * 2 ^ (6 - suc n) → slice_get old q ≡ node id k n (group n q xs) =
    λ q b. subst (λ m. slice_get old q ≡ node id k m (group m q xs)) down (h.nodes q (omega (arith, twice)))
    in
    let reads : (q : ℕ) → q < 2 ^ (6 - suc n) → joined_at k (suc n + 1) old q ≡ node id k (suc n) (group (suc n) q xs) =
    λ q b.
    ap (λ t. joined_at k t old q) up
    ∙ ap₂ (joined k (n + 2)) (before (2 * q) (omega arith)) (before (2 * q + 1) (omega arith))
    ∙ sym (node-group id k n q xs)
    in
    record {
      from_level = least;
      to_level = most;
      inside = stop.inside;
      below = h.below;
      left = λ q less. subst IsSome (reads q (omega (arith, stop.inside))) (stop.left q less);
      here = sym (reads pair stop.inside) ∙ stop.here;
    }

-- the whole tuple is the one group of level 6
pub group-whole : (xs : List ℕ) → length xs ≡ 64 → group 6 0 xs ≡ xs
group-whole xs e = take_all 64 xs (omega arith)

pub levels-all :
    (id : List ℕ) (k : ℕ) (xs : List ℕ) (level : ℕ) (entries : List Entry) → level ≡ 7 → length xs ≡ 64
    → LevelsSoFar id k xs level entries → slice_get entries 0 ≡ node id k 6 xs
levels-all id k xs level entries done len h =
    let last : LevelsSoFar id k xs 7 entries = subst (λ l. LevelsSoFar id k xs l entries) done h in
    last.nodes 0 (omega arith) ∙ ap (node id k 6) (group-whole xs len)
