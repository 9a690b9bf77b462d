-- The bytes of a bit string are the one spelling of its bits.
use Rattle.std.proofs.Common.{◌≡◌, ◌+◌, ◌-◌, ◌*◌, false, ◌++◌, length, replicate, sym, ap, ◌∙◌, arith, length-append}
use Rattle.std.proofs.lemmas.List.{length-replicate}
use Rattle.pos_bits.specs.Bits.{byte_count, bytes}
use Rattle.pos_bits.specs.BytesLaws.{FewerThanEightZeroBits, OneSpelling}
use Rattle.pos_bits.proofs.BytesLemmas.{length-bits_of, bytes-are_bytes, bits_of-bytes, bits_of-injective, fill-lt}

pub fewer_than_eight : FewerThanEightZeroBits
fewer_than_eight s = (8 * byte_count (length s) - length s, fill-lt (length s), bits_of-bytes s)

pub one_spelling : OneSpelling
one_spelling s bs z are_bytes few same =
    let long : 8 * length bs ≡ length s + z =
    sym (length-bits_of bs) ∙ ap length same ∙ length-append s (replicate z false) ∙ ap (λ n. length s + n) (length-replicate z false) in
    let fill : z ≡ 8 * byte_count (length s) - length s = omega (arith, long, few) in
    bits_of-injective bs (bytes s) are_bytes (bytes-are_bytes s)
    (same ∙ ap (λ n. s ++ replicate n false) fill ∙ sym (bits_of-bytes s))
