use Rattle.std.proofs.Common.{◌≡◌, take, take_at, ◌++◌, ◌∙◌, ap, sym, refl}
use Rattle.sha2.specs.Sha256.{sha256}
use Rattle.pos_bits.specs.Bits.{bits, bytes}
use Rattle.pos_bits.proofs.BytesLemmas.{length-bytes}
use Rattle.pos_order.specs.Quality.{pair_quality}
use Rattle.pos_order.proofs.quality_string.pair_quality.Goals as goal

pub returns-clause-value : goal.returns-clause-value
unfolding pair_quality
returns-clause-value c =
    let pair = bits c.args.lesser c.args.size ++ bits c.args.greater c.args.size in
    let written : c.push-2.new.self ≡ pair =
    c.push-2.ensures.bits ∙ rw (c.push.ensures.bits, c.empty-pair.ensures, c.k.ensures.value, c.k-2.ensures.value) refl
    in
    let block : take c.to_block-count.result c.to_block-count.new.out ≡ bytes pair =
    ap (take c.to_block-count.result) c.to_block-count.ensures.bytes
    ∙ take_at _ _ c.to_block-count.result (length-bytes c.push-2.new.self ∙ sym c.to_block-count.ensures.count)
    ∙ ap bytes written
    in
    c.finalize.ensures _ (c.update-2.ensures _ (c.update.ensures _ c.new-hasher.ensures))
    ∙ ap (λ b. sha256 (c.args.challenge.now.0 ++ b)) block
