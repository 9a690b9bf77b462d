-- The values of a proof, read one after another from its bits.
use Rattle.std.proofs.Common.{◌≡◌, ℕ, suc, ◌+◌, ◌-◌, ◌*◌, ◌^◌, ◌<◌, ◌≤◌, Bool, false, List, [], ◌∷◌, ◌++◌, length, take, drop, replicate, slice_index, take_at, drop_at, ap₂, refl, sym, ap, ◌∙◌, subst, arith, append_assoc, length-append, add-one, add_comm}
use Rattle.std.proofs.Math.Nat.{mul-suc, mul-le-mul_left}
use Rattle.std.specs.Prelude.{All, slice_set}
use Rattle.std.proofs.lemmas.List.Elements.{All-push}
use Rattle.std.proofs.lemmas.List.{take_all, take_more, length-take-le, drop-drop, nil_from_length, append-nil, length-set}
use Rattle.std.proofs.Math.Seq.{take-add, take-suc-set}
use Rattle.pos_bits.specs.Bits.{bits, bits_of, bytes, byte_count, number, AreBytes}
use Rattle.pos_bits.specs.Blocks.{length-bits}
use Rattle.pos_bits.proofs.BytesLemmas.{bits_of-bytes, bytes-append, bytes-are_bytes, bytes-bits_of, bytes-injective, length-bytes}
use Rattle.pos_bits.proofs.BitsLemmas.{number-bits}
use Rattle.pos_order.specs.Values.{value_bits, value_bytes, WritesValues}

pub value_bits-append : (k : ℕ) (xs ys : List ℕ) → value_bits k (xs ++ ys) ≡ value_bits k xs ++ value_bits k ys
unfolding value_bits
value_bits-append k [] ys = refl
value_bits-append k (x ∷ xs) ys =
    ap (λ s. bits x k ++ s) (value_bits-append k xs ys) ∙ sym (append_assoc (bits x k) (value_bits k xs) (value_bits k ys))

pub length-value_bits : (k : ℕ) (xs : List ℕ) → length (value_bits k xs) ≡ k * length xs
unfolding value_bits
length-value_bits k [] = omega arith
length-value_bits k (x ∷ xs) =
    length-append (bits x k) (value_bits k xs)
    ∙ rw (length-bits x k, length-value_bits k xs) (sym (mul-suc k (length xs) ∙ add_comm (k * length xs) k))

-- the first i values stand for what was read, and these bits are left
pub record ReadSoFar (k : ℕ) (proof values : List ℕ) (i : ℕ) (left : List Bool) : Type 0 where
  pub read : bits_of proof ≡ value_bits k (take i values) ++ left
  pub small : All (λ x. x < 2 ^ k) (take i values)
  pub rest : length left + k * i ≡ k * 64
  pub count : length values ≡ 64

pub read-none : (k : ℕ) (proof values : List ℕ) (left : List Bool) → length values ≡ 64 → left ≡ bits_of proof
    → length left ≡ 8 * length proof → length proof ≡ 8 * k → ReadSoFar k proof values 0 left
unfolding value_bits
read-none k proof values left count all len bytes = record {
  read = sym all;
  small = λ n d h. absurd (omega (arith, h));
  rest = omega arith;
  count = count;
}

-- one more value
pub read-next :
    (k : ℕ) (proof values : List ℕ) (i v : ℕ) (left next : List Bool) → i < 64 → v < 2 ^ k → left ≡ bits v k ++ next
    → ReadSoFar k proof values i left → ReadSoFar k proof (slice_set values i v) (i + 1) next
unfolding value_bits
read-next k proof values i v left next inside below e h =
    let front : take (i + 1) (slice_set values i v) ≡ take i values ++ v ∷ [] =
    rw add-one (take-suc-set values i v (omega (arith, h.count)))
    in
    let one : value_bits k (v ∷ []) ≡ bits v k = append-nil (bits v k) in
    let part : value_bits k (take i values ++ v ∷ []) ≡ value_bits k (take i values) ++ bits v k =
    value_bits-append k (take i values) (v ∷ []) ∙ ap (λ s. value_bits k (take i values) ++ s) one
    in
    let len : length left ≡ k + length next = ap length e ∙ length-append (bits v k) next ∙ ap (λ n. n + length next) (length-bits v k) in
    let more : k * (i + 1) ≡ k * i + k = rw add-one (mul-suc k i) in
    record {
      read = (
          h.read ∙ ap (λ s. value_bits k (take i values) ++ s) e ∙ sym (append_assoc (value_bits k (take i values)) (bits v k) next)
          ∙ ap (λ s. s ++ next) (sym part) ∙ ap (λ xs. value_bits k xs ++ next) (sym front)
          );
      small = subst (All (λ x. x < 2 ^ k)) (sym front) (All-push (λ x. x < 2 ^ k) (take i values) v h.small below);
      rest = omega (arith, h.rest);
      count = length-set values i v ∙ h.count;
    }

-- all values
pub read-all :
    (k : ℕ) (proof values : List ℕ) (i : ℕ) (left : List Bool) → i ≡ 64 → AreBytes proof
    → ReadSoFar k proof values i left → WritesValues k values proof
unfolding value_bytes
read-all k proof values i left done are h =
    let all : take i values ≡ values = take_all i values (omega (arith, h.count)) in
    let none : left ≡ [] = nil_from_length left (omega (arith, h.rest, ap (λ n. k * n) done)) in
    let read : bits_of proof ≡ value_bits k values =
    h.read ∙ rw (all, none) (append-nil (value_bits k values))
    in
    record {
      count = h.count;
      small = subst (All (λ x. x < 2 ^ k)) all h.small;
      written = sym (bytes-bits_of proof are) ∙ ap bytes read;
    }

-- a value is left to read
pub read-some : (k : ℕ) (proof values : List ℕ) (i : ℕ) (left : List Bool) → i < 64 → ReadSoFar k proof values i left → k ≤ length left
read-some k proof values i left inside h =
    let rows : k * (i + 1) ≤ k * 64 = mul-le-mul_left k (omega arith) in
    let more : k * (i + 1) ≡ k * i + k = rw add-one (mul-suc k i) in
    omega (arith, h.rest)

-- ---- bytes write the values of one list at most

same_front : (s t a b : List Bool) → length s ≡ length t → s ++ a ≡ t ++ b → (s ≡ t) × (a ≡ b)
same_front s t a b e f = (
  sym (take_at s a (length s) refl) ∙ ap (take (length s)) f ∙ take_at t b (length s) (sym e),
  sym (drop_at s a (length s) refl) ∙ ap (drop (length s)) f ∙ drop_at t b (length s) (sym e),
)

value_bits-injective :
    (k : ℕ) (xs ys : List ℕ) → length xs ≡ length ys → All (λ x. x < 2 ^ k) xs → All (λ x. x < 2 ^ k) ys
    → value_bits k xs ≡ value_bits k ys → xs ≡ ys
unfolding value_bits
value_bits-injective k [] [] l a b e = refl
value_bits-injective k [] (y ∷ ys) l a b e = absurd (omega arith)
value_bits-injective k (x ∷ xs) [] l a b e = absurd (omega arith)
value_bits-injective k (x ∷ xs) (y ∷ ys) l a b e =
    let parts = same_front (bits x k) (bits y k) (value_bits k xs) (value_bits k ys) (length-bits x k ∙ sym (length-bits y k)) e in
    let first : x ≡ y =
    sym (number-bits x k (a 0 0 (omega arith))) ∙ ap number parts.0 ∙ number-bits y k (b 0 0 (omega arith))
    in
    ap₂ (λ v vs. v ∷ vs) first
    (value_bits-injective k xs ys (omega arith) (λ i d h. a (suc i) d (omega arith)) (λ i d h. b (suc i) d (omega arith)) parts.1)

pub writes_values-one : (k : ℕ) (xs ys proof : List ℕ) → WritesValues k xs proof → WritesValues k ys proof → xs ≡ ys
unfolding value_bytes
writes_values-one k xs ys proof h g =
    let lens : length xs ≡ length ys = h.count ∙ sym g.count in
    let bits_len : length (value_bits k xs) ≡ length (value_bits k ys) =
    length-value_bits k xs ∙ ap (λ n. k * n) lens ∙ sym (length-value_bits k ys)
    in
    value_bits-injective k xs ys lens h.small g.small
    (bytes-injective (value_bits k xs) (value_bits k ys) bits_len (sym h.written ∙ g.written))

-- 64 values of k bits are 8 * k bytes
pub length-written : (k : ℕ) (xs proof : List ℕ) → WritesValues k xs proof → length proof ≡ 8 * k
unfolding value_bytes
length-written k xs proof h =
    ap length h.written ∙ length-bytes (value_bits k xs)
    ∙ ap byte_count (length-value_bits k xs ∙ ap (λ n. k * n) h.count) ∙ omega arith

-- ---- the bytes of values, eight at a time

-- a whole number of bytes, and what follows it
bytes-joined : (m : ℕ) (s t : List Bool) → length s ≡ 8 * m → bytes (s ++ t) ≡ bytes s ++ bytes t
bytes-joined m s t len =
    let none : 8 * byte_count (length s) - length s ≡ 0 = rw len (omega arith) in
    let whole : bits_of (bytes s) ≡ s =
    bits_of-bytes s ∙ ap (λ n. s ++ replicate n false) none ∙ append-nil s
    in
    ap (λ u. bytes (u ++ t)) (sym whole) ∙ bytes-append (bytes s) t (bytes-are_bytes s)

pub value_bytes-append : (k m : ℕ) (xs ys : List ℕ) → length xs ≡ 8 * m → value_bytes k (xs ++ ys) ≡ value_bytes k xs ++ value_bytes k ys
unfolding value_bytes
value_bytes-append k m xs ys len =
    let bits_len : length (value_bits k xs) ≡ 8 * (k * m) = length-value_bits k xs ∙ ap (λ n. k * n) len ∙ omega arith in
    ap bytes (value_bits-append k xs ys) ∙ bytes-joined (k * m) (value_bits k xs) (value_bits k ys) bits_len

-- the first values of a group, as bits
pub record JoinedSoFar (k : ℕ) (group : List ℕ) (i : ℕ) (joined : List Bool) : Type 0 where
  pub bits : joined ≡ value_bits k (take i group)
  pub len : length joined ≡ k * i

pub joined-none : (k : ℕ) (group : List ℕ) → JoinedSoFar k group 0 []
unfolding value_bits
joined-none k group = record { bits = refl; len = omega arith }

pub joined-next : (k : ℕ) (group : List ℕ) (i : ℕ) (joined : List Bool) → i < length group → JoinedSoFar k group i joined
    → JoinedSoFar k group (i + 1) (joined ++ bits (slice_index group i) k)
unfolding value_bits
joined-next k group i joined inside h =
    let v = slice_index group i in
    let more : take (i + 1) group ≡ take i group ++ v ∷ [] = take_more group i 0 inside in
    let one : value_bits k (v ∷ []) ≡ bits v k = append-nil (bits v k) in
    record {
      bits = (
          ap (λ s. s ++ bits v k) h.bits ∙ ap (λ s. value_bits k (take i group) ++ s) (sym one)
          ∙ sym (value_bits-append k (take i group) (v ∷ [])) ∙ ap (value_bits k) (sym more)
          );
      len = length-append joined (bits v k) ∙ rw (h.len, length-bits v k) (omega arith);
    }

-- a block begins with the bytes of the eight values that were joined
pub joined-all : (k : ℕ) (group : List ℕ) (i : ℕ) (joined : List Bool) (block : List ℕ) → i ≡ length group → length group ≡ 8
    → JoinedSoFar k group i joined → block ≡ bytes joined ++ replicate (64 - byte_count (length joined)) 0 → take k block ≡ value_bytes k group
unfolding value_bytes
joined-all k group i joined block done eight h is =
    let all : take i group ≡ group = take_all i group (omega arith) in
    let len : length (bytes joined) ≡ k = length-bytes joined ∙ ap byte_count (h.len ∙ ap (λ n. k * n) (done ∙ eight)) ∙ omega arith in
    ap (take k) is ∙ take_at (bytes joined) _ k len ∙ ap bytes (h.bits ∙ ap (value_bits k) all)

-- the first groups stand in front, and what lies behind all of them is as it was
pub record WrittenSoFar (k : ℕ) (values old new : List ℕ) (group : ℕ) : Type 0 where
  pub front : take (k * group) new ≡ value_bytes k (take (8 * group) values)
  pub rest : drop (8 * k) new ≡ drop (8 * k) old

pub written-none : (k : ℕ) (values old : List ℕ) → WrittenSoFar k values old old 0
unfolding value_bytes value_bits
written-none k values old = record {
  front = let none : k * 0 ≡ 0 = omega arith in rw none (sym (nil_from_length (bytes []) (length-bytes [])));
  rest = refl;
}

pub written-next : (k : ℕ) (values old was new piece : List ℕ) (group : ℕ) → group < 8 → length values ≡ 64 → length piece ≡ k
    → piece ≡ value_bytes k (take 8 (drop (8 * group) values))
    → take (k * group + length piece) new ≡ take (k * group) was ++ piece → drop (k * group + length piece) new ≡ drop (k * group + length piece) was
    → WrittenSoFar k values old was group → WrittenSoFar k values old new (group + 1)
written-next k values old was new piece group inside count len is front rest h =
    let at : k * (group + 1) ≡ k * group + length piece = omega arith in
    let below : group + 1 ≤ 8 = omega arith in
    let more : take (8 * (group + 1)) values ≡ take (8 * group) values ++ take 8 (drop (8 * group) values) =
    let up : 8 * (group + 1) ≡ 8 * group + 8 = omega arith in
    ap (λ n. take n values) up ∙ take-add (8 * group) 8 values in
    record {
      front = (
          ap (λ n. take n new) at ∙ front ∙ ap₂ (λ a b. a ++ b) h.front is
          ∙ sym (value_bytes-append k group (take (8 * group) values) (take 8 (drop (8 * group) values)) (length-take-le (8 * group) values (omega arith)))
          ∙ ap (value_bytes k) (sym more)
          );
      rest = (
          let left : (k * group + length piece) + (8 * k - (k * group + length piece)) ≡ 8 * k = let few = mul-le-mul_left k below in omega arith in
          let cut : (ys : List ℕ) → drop (8 * k) ys ≡ drop (8 * k - (k * group + length piece)) (drop (k * group + length piece) ys) =
          λ ys. ap (λ n. drop n ys) (sym left) ∙ sym (drop-drop (8 * k - (k * group + length piece)) (k * group + length piece) ys) in
          cut new ∙ ap (drop (8 * k - (k * group + length piece))) rest ∙ sym (cut was) ∙ h.rest
          );
    }

pub written-all : (k : ℕ) (values old new : List ℕ) (group : ℕ) → group ≡ 8 → length values ≡ 64 → WrittenSoFar k values old new group
    → take (8 * k) new ≡ value_bytes k values
written-all k values old new group done count h =
    let at : k * group ≡ 8 * k = rw done (omega arith) in
    ap (λ n. take n new) (sym at) ∙ h.front ∙ ap (value_bytes k) (take_all (8 * group) values (omega arith))
