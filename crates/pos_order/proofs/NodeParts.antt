-- What a node of a tuple says of its halves, and how a node is made of two.
use Rattle.std.proofs.Common.{◌≡◌, ℕ, zero, suc, ◌+◌, ◌^◌, ◌<◌, true, false, nat_lt, IsSome, List, [], ◌∷◌, ◌++◌, length, take, drop, Option, Some, None, refl, ap, subst, sym, arith, length-append, take-append-drop, take_at, drop_at, ltb-true, lt-ltb, ⊎_elim}
use Rattle.std.specs.Prelude.{All}
use Rattle.std.proofs.lemmas.Bool.{cases_Bool}
use Rattle.std.proofs.lemmas.List.Elements.{All-append, All-nil, All-push}
use Rattle.pos_tuple.specs.declared.entry.Entry.{Entry}
use Rattle.pos_tuple.specs.Match.{Match, is_match}
use Rattle.pos_tuple.specs.Node.{first_entry, next_entry, first_node, joined, node}
use Rattle.pos_tuple.proofs.MatchLemmas.{is_match-decides}
use Rattle.pos_order.proofs.PlotOrderLemmas.{double}

-- ---- the matching test says what `Match` says, and no right value matches back

pub match_from_test : (yl yr : ℕ) → is_match yl yr ≡ true → Match yl yr
match_from_test yl yr = (is_match-decides yl yr).0

pub test_from_match : (yl yr : ℕ) → Match yl yr → is_match yl yr ≡ true
test_from_match yl yr = (is_match-decides yl yr).1

pub match_goes_one_way : (y z : ℕ) → Match y z → Match z y → ⊥
match_goes_one_way y z h g = let a = h.next_bucket in let b = g.next_bucket in absurd (omega arith)

-- ---- halves of joined lists

pub take-half : (n : ℕ) (a b : List ℕ) → length a ≡ 2 ^ n → take (2 ^ n) (a ++ b) ≡ a
take-half n a b e = take_at a b (2 ^ n) e

pub drop-half : (n : ℕ) (a b : List ℕ) → length a ≡ 2 ^ n → drop (2 ^ n) (a ++ b) ≡ b
drop-half n a b e = drop_at a b (2 ^ n) e

-- ---- from a node to its halves

-- the two entries that a node of table n + 2 is made of
pub record IsJoined (id : List ℕ) (k n : ℕ) (a b : List ℕ) (e : Entry) : Type 0 where
  pub left : Entry
  pub right : Entry
  pub left_node : node id k n a ≡ Some left
  pub right_node : node id k n b ≡ Some right
  pub matching : Match left.y right.y
  pub made : e ≡ next_entry k (n + 2) left right

joined_parts : (id : List ℕ) (k n : ℕ) (a b : List ℕ) (o p : Option Entry) (e : Entry) →
    node id k n a ≡ o → node id k n b ≡ p → joined k (n + 2) o p ≡ Some e → IsJoined id k n a b e
unfolding joined
joined_parts id k n a b None p e f g h = cc
joined_parts id k n a b (Some l) None e f g h = cc
joined_parts id k n a b (Some l) (Some r) e f g h =
    ⊎_elim
    (λ (t : is_match l.y r.y ≡ true).
    let i : Some (next_entry k (n + 2) l r) ≡ Some e = rw t at h in
    record { left = l; right = r; left_node = f; right_node = g; matching = match_from_test _ _ t; made = (cc) })
    (λ (t : is_match l.y r.y ≡ false).
    let i : ◌≡◌ {A = Option Entry} None (Some e) = rw t at h in absurd (cc))
    (cases_Bool (is_match l.y r.y))

pub node_parts : (id : List ℕ) (k n : ℕ) (xs : List ℕ) (e : Entry) → node id k (suc n) xs ≡ Some e →
    IsJoined id k n (take (2 ^ n) xs) (drop (2 ^ n) xs) e
unfolding node
node_parts id k n xs e h = joined_parts id k n _ _ _ _ e refl refl h

-- the entry of a tuple that has one
pub some_entry : (o : Option Entry) → IsSome o → (e : Entry) × (o ≡ Some e)
some_entry None h = cc
some_entry (Some e) h = (e, refl)

pub some_is : (o : Option Entry) (e : Entry) → o ≡ Some e → IsSome o
some_is o e h = rw h

-- ---- from two nodes to their joined one

pub node_of_joined : (id : List ℕ) (k n : ℕ) (a b : List ℕ) (l r : Entry) → length a ≡ 2 ^ n →
    node id k n a ≡ Some l → node id k n b ≡ Some r → Match l.y r.y →
    node id k (suc n) (a ++ b) ≡ Some (next_entry k (n + 2) l r)
unfolding node joined
node_of_joined id k n a b l r e f g h =
    let t = test_from_match _ _ h in
    rw (take-half n a b e, drop-half n a b e, f, g, t)

-- ---- the least level

first_parts : (id : List ℕ) (k : ℕ) (xs : List ℕ) → IsSome (first_node id k xs) →
    (x : ℕ) × (xs ≡ x ∷ []) × (x < 2 ^ k)
unfolding first_node
first_parts id k [] h = cc
first_parts id k (x ∷ []) h = (
  x,
  refl,
  ⊎_elim
      (λ t. ltb-true _ _ t)
      (λ (t : nat_lt x (2 ^ k) ≡ false). let i : false ≡ true = rw t at h in absurd (cc))
      (cases_Bool (nat_lt x (2 ^ k))),
)
first_parts id k (x ∷ y ∷ xs) h = cc

pub value_of_node : (id : List ℕ) (k : ℕ) (xs : List ℕ) → IsSome (node id k 0 xs) → (x : ℕ) × (xs ≡ x ∷ []) × (x < 2 ^ k)
unfolding node
value_of_node id k xs h = first_parts id k xs h

pub node_of_value : (id : List ℕ) (k x : ℕ) → x < 2 ^ k → node id k 0 (x ∷ []) ≡ Some (first_entry id k x)
unfolding node first_node
node_of_value id k x h = let t = lt-ltb _ _ h in rw t

-- ---- lengths and values

pub nodes_have_their_length : (id : List ℕ) (k n : ℕ) (xs : List ℕ) → IsSome (node id k n xs) → length xs ≡ 2 ^ n
nodes_have_their_length id k zero xs h = let v = value_of_node id k xs h in ap length v.1
nodes_have_their_length id k (suc n) xs h =
    let e = some_entry _ h in
    let p = node_parts id k n xs e.0 e.1 in
    let a = nodes_have_their_length id k n _ (some_is _ _ p.left_node) in
    let b = nodes_have_their_length id k n _ (some_is _ _ p.right_node) in
    let c = length-append (take (2 ^ n) xs) (drop (2 ^ n) xs) in
    let d : length (take (2 ^ n) xs ++ drop (2 ^ n) xs) ≡ length xs = ap length (take-append-drop (2 ^ n) xs) in
    let f = double n in
    omega arith

-- the values of a tuple with a node are below 2 ^ k
pub nodes_have_values : (id : List ℕ) (k n : ℕ) (xs : List ℕ) → IsSome (node id k n xs) → All (λ x. x < 2 ^ k) xs
nodes_have_values id k zero xs h =
    let v = value_of_node id k xs h in
    let one : All (λ x. x < 2 ^ k) (v.0 ∷ []) = All-push (λ x. x < 2 ^ k) [] v.0 (All-nil (λ x. x < 2 ^ k)) v.2 in
    subst (All (λ x. x < 2 ^ k)) (sym v.1) one
nodes_have_values id k (suc n) xs h =
    let e = some_entry _ h in
    let p = node_parts id k n xs e.0 e.1 in
    let a = nodes_have_values id k n _ (some_is _ _ p.left_node) in
    let b = nodes_have_values id k n _ (some_is _ _ p.right_node) in
    subst (All (λ x. x < 2 ^ k)) (take-append-drop (2 ^ n) xs) (All-append (λ x. x < 2 ^ k) _ _ a b)
