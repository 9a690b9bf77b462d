-- What is hashed at a place of two lists of entries, and its hash. Lengths are in bytes.
use Rattle.std.specs.Prelude.{◌≡◌, ℕ, Bool, ◌+◌, ◌-◌, ◌*◌, List, Some, drop, length, replicate, slice_get, take}
use Rattle.pos_bits.specs.Bits.{byte_count, bytes}
use Rattle.pos_blake3.specs.Blake3.{blake3_block}
use Rattle.pos_tuple.specs.declared.entry.Entry.{Entry}
use Rattle.pos_tuple.specs.Node.{message, metadata_units}

-- how many bits are hashed of two entries of the table before table t
abbrev pub message_bits : ℕ → ℕ → ℕ
message_bits k t = k + 6 + 2 * (k * metadata_units (t - 1))

-- how many bytes are hashed of two entries of the table before table t
abbrev pub message_bytes : ℕ → ℕ → ℕ
message_bytes k t = byte_count (message_bits k t)

-- a string is what is hashed of the left and the right entry at a place
pub record IsMessageAt (k t : ℕ) (left right : List Entry) (i : ℕ) (string : List Bool) : Type 0 where
  pub bits : (l r : Entry) → slice_get left i ≡ Some l → slice_get right i ≡ Some r → string ≡ message k l r
  pub count : length string ≡ message_bits k t

-- a block has what is hashed of the left and the right entry at a place, and zeros behind it
pub record IsBlockAt (k t : ℕ) (left right : List Entry) (i : ℕ) (block : List ℕ) : Type 0 where
  pub bytes : (l r : Entry) → slice_get left i ≡ Some l → slice_get right i ≡ Some r → take (message_bytes k t) block ≡ bytes (message k l r)
  pub zeros : drop (message_bytes k t) block ≡ replicate (64 - message_bytes k t) 0

-- the hash of the left and the right entry at a place
abbrev pub IsHashAt : ℕ → List Entry → List Entry → ℕ → List ℕ → Type 0
IsHashAt k left right i hash =
    (l r : Entry) → slice_get left i ≡ Some l → slice_get right i ≡ Some r → hash ≡ blake3_block (bytes (message k l r))
