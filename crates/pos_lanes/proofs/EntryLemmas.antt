-- What an entry is made of, by the hash of two entries.
use Rattle.std.proofs.Common.{◌≡◌, ℕ, zero, suc, ◌+◌, ◌*◌, ◌<◌, ◌≤◌, Bool, List, ◌++◌, take, drop, arith, refl}
use Rattle.pos_bits.specs.Bits.{bits_of, bytes, number}
use Rattle.pos_blake3.specs.Blake3.{blake3_block}
use Rattle.pos_tuple.specs.declared.entry.Entry.{Entry}
use Rattle.pos_tuple.specs.Node.{collated, hash_bits, message, metadata_units, next_entry}

-- tables 2 and 3 have the metadata of both entries
pub joined_metadata : (k t : ℕ) (l r : Entry) → t < 4 → l.meta ++ r.meta ≡ collated k t l r
unfolding collated
joined_metadata k zero l r low = refl
joined_metadata k (suc zero) l r low = refl
joined_metadata k (suc (suc zero)) l r low = refl
joined_metadata k (suc (suc (suc zero))) l r low = refl
joined_metadata k (suc (suc (suc (suc t)))) l r low = absurd (omega arith)

-- tables 4 to 7 have the bits of the hash behind y
pub read_metadata : (k t : ℕ) (l r : Entry) (hash : List ℕ) → 4 ≤ t → t ≤ 7 → hash ≡ blake3_block (bytes (message k l r))
    → take (k * metadata_units t) (drop (k + 6) (bits_of hash)) ≡ collated k t l r
unfolding collated hash_bits
read_metadata k zero l r hash first last is = absurd (omega arith)
read_metadata k (suc zero) l r hash first last is = absurd (omega arith)
read_metadata k (suc (suc zero)) l r hash first last is = absurd (omega arith)
read_metadata k (suc (suc (suc zero))) l r hash first last is = absurd (omega arith)
read_metadata k (suc (suc (suc (suc zero)))) l r hash first last is = rw is refl
read_metadata k (suc (suc (suc (suc (suc zero))))) l r hash first last is = rw is refl
read_metadata k (suc (suc (suc (suc (suc (suc zero)))))) l r hash first last is = rw is refl
read_metadata k (suc (suc (suc (suc (suc (suc (suc zero))))))) l r hash first last is = rw is refl
read_metadata k (suc (suc (suc (suc (suc (suc (suc (suc t)))))))) l r hash first last is = absurd (omega arith)

-- an entry of the hash's first bits and its metadata is the next one
pub made_entry : (k t : ℕ) (l r : Entry) (hash : List ℕ) (y : ℕ) (meta : List Bool) → hash ≡ blake3_block (bytes (message k l r))
    → y ≡ number (take (k + 6) (bits_of hash)) → meta ≡ collated k t l r
    → ◌≡◌ {A = Entry} record { y = y; meta = meta } (next_entry k t l r)
unfolding next_entry hash_bits
made_entry k t l r hash y meta is y_is meta_is = rw (y_is, meta_is, is) refl
