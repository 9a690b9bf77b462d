-- The y of a node, in the laws' words and its size. What a node is made of stands beside plot order.
use Rattle.std.proofs.Common.{◌≡◌, ℕ, ◌+◌, ◌^◌, ◌<◌, ◌≤◌, List, length, take, Some, arith, length-take, pow_mono}
use Rattle.pos_bits.proofs.BitsLemmas.{number-lt}
use Rattle.pos_tuple.specs.declared.entry.Entry.{Entry}
use Rattle.pos_tuple.specs.Node.{next_entry, node, hash_bits}
use Rattle.pos_laws.specs.Tables.{y_of}

pub y_of-node : (id : List ℕ) (k n : ℕ) (xs : List ℕ) (e : Entry) → node id k n xs ≡ Some e → y_of id k n xs ≡ e.y
y_of-node id k n xs e h = rw h

-- ---- a y of table 2 or above has k + 6 bits

pub next_y_below : (k t : ℕ) (l r : Entry) → (next_entry k t l r).y < 2 ^ (k + 6)
unfolding next_entry
next_y_below k t l r =
    let s = take (k + 6) (hash_bits k l r) in
    let h = number-lt s in
    let e : length s ≤ k + 6 = omega (arith, length-take (k + 6) (hash_bits k l r)) in
    let f : 2 ^ length s ≤ 2 ^ (k + 6) = pow_mono e in
    omega arith
