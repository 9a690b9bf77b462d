-- The quality of a proof. Source: the Construction document, "quality string"; chiapos, `GetQualityString`.
-- A challenge c is a list of 32 bytes.
use Rattle.std.specs.Prelude.{ℕ, ◌+◌, ◌*◌, ◌%◌, List, ◌++◌, slice_index}
use Rattle.sha2.specs.Sha256.{sha256}
use Rattle.pos_bits.specs.Bits.{bits, bytes}
use Rattle.pos_order.specs.Order.{plot_order}

-- which pair of values the quality takes: the low 5 bits of the challenge's last byte
abbrev pub quality_index : List ℕ → ℕ
quality_index c = slice_index c 31 % 32

-- SHA-256 of the challenge and of two values, as a bit string of 2 * k bits
unfoldable pub pair_quality : ℕ → List ℕ → ℕ → ℕ → List ℕ
pair_quality k c lesser greater = sha256 (c ++ bytes (bits lesser k ++ bits greater k))

-- the quality of 64 values: that of the chosen pair of the tuple in plot order
unfoldable pub quality_of : ℕ → List ℕ → List ℕ → List ℕ
quality_of k c xs =
    let ys = plot_order 6 xs in
    let i = 2 * quality_index c in
    pair_quality k c (slice_index ys i) (slice_index ys (i + 1))
