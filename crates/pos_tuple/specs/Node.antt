-- What a tuple of values stands for in the tables: its y and its metadata, where its pairs match.
-- Source: the Construction document, "f2 to f7", "collation"; chiapos, `FxCalculator`.
-- Tables count from 1 to 7; an entry of table t stands for 2 ^ (t - 1) values.
use Rattle.std.specs.Prelude.{◌≡◌, ◌<◌, ℕ, zero, suc, ◌+◌, ◌*◌, ◌^◌, Bool, if◌then◌else◌, nat_lt, List, [], ◌∷◌, ◌++◌, length, take, drop, slice_index, Option, Some, None}
use Rattle.pos_bits.specs.Bits.{bits, number, bytes, bits_of}
use Rattle.pos_blake3.specs.Blake3.{blake3_block}
use Rattle.pos_tuple.specs.declared.entry.Entry.{Entry}
use Rattle.pos_tuple.specs.Stream.{f1_of}
use Rattle.pos_tuple.specs.Match.{is_match}

-- how many bits of metadata an entry of table t has, in units of k
abbrev pub metadata_units : ℕ → ℕ
metadata_units t = slice_index (0 ∷ 1 ∷ 2 ∷ 4 ∷ 4 ∷ 3 ∷ 2 ∷ 0 ∷ []) t

-- the entry of table 1 for the value x
unfoldable pub first_entry : List ℕ → ℕ → ℕ → Entry
first_entry id k x = record { y = f1_of id k x; meta = bits x k }

-- what an entry of table t is made of: k + 6 bits of y, and the table's metadata
pub record IsEntry (k t : ℕ) (e : Entry) : Type 0 where
  pub y : e.y < 2 ^ (k + 6)
  pub meta : length e.meta ≡ k * metadata_units t

-- what is hashed of a left and a right entry: the left y, then the left and the right metadata
abbrev pub message : ℕ → Entry → Entry → List Bool
message k l r = bits l.y (k + 6) ++ l.meta ++ r.meta

-- the hash of a left and a right entry, as bits
unfoldable pub hash_bits : ℕ → Entry → Entry → List Bool
hash_bits k l r = bits_of (blake3_block (bytes (message k l r)))

-- the metadata of an entry of table t, from 2 to 7: both metadata joined in tables 2 and 3, and in
-- tables 4 to 7 the bits of the hash behind the new y
unfoldable pub collated : ℕ → ℕ → Entry → Entry → List Bool
collated k t l r =
    if nat_lt t 4
    then l.meta ++ r.meta
    else take (k * metadata_units t) (drop (k + 6) (hash_bits k l r))

-- the entry of table t, from 2 to 7, for a left and a right entry of the table before; y is the
-- first k + 6 bits of the hash
unfoldable pub next_entry : ℕ → ℕ → Entry → Entry → Entry
next_entry k t l r = record {
  y = number (take (k + 6) (hash_bits k l r));
  meta = collated k t l r;
}

-- the one value of a list, if it is below 2 ^ k
unfoldable pub first_node : List ℕ → ℕ → List ℕ → Option Entry
first_node id k [] = None
first_node id k (x ∷ []) = if nat_lt x (2 ^ k) then Some (first_entry id k x) else None
first_node id k (x ∷ y ∷ xs) = None

-- the entry of table t for two entries of the table before, if there are both and they match
unfoldable pub joined : ℕ → ℕ → Option Entry → Option Entry → Option Entry
joined k t None r = None
joined k t (Some l) None = None
joined k t (Some l) (Some r) = if is_match l.y r.y then Some (next_entry k t l r) else None

-- the entry of table n + 1 for a list of 2 ^ n values: none where a value is not below 2 ^ k, or
-- where the halves of an aligned group of values do not match
unfoldable pub node : List ℕ → ℕ → ℕ → List ℕ → Option Entry
node id k zero xs = first_node id k xs
node id k (suc n) xs = joined k (n + 2) (node id k n (take (2 ^ n) xs)) (node id k n (drop (2 ^ n) xs))
