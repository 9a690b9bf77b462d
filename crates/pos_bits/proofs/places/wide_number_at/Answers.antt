use Rattle.std.proofs.Common.{◌+◌, arith, rules, refl, pow_pos}
use Rattle.pos_bits.specs.Bits.{bits_of, number}
use Rattle.pos_bits.proofs.BytesLemmas.{length-bits_of}
use Rattle.pos_bits.proofs.PiecesLemmas.{joined-fits, number-more, number-more_lt}
use Rattle.pos_bits.proofs.places.wide_number_at.Goals as goal

pub loop-done-init : goal.loop-done-init
unfolding number
loop-done-init c = record { at_most = omega arith; below = pow_pos 0; read = refl }

pub overflow_add-value : goal.overflow_add-value
overflow_add-value c =
    let f = joined-fits 128 c.loop-done.value c.loop-done.done c.min-count.result c.number_at.result c.loop-done.invariant.below c.number_at.ensures.below (omega arith) in
    search rules

pub loop-done-preserved : goal.loop-done-preserved
loop-done-preserved c = record {
  at_most = omega arith;
  below =
      number-more_lt 128 c.loop-done.value c.loop-done.done c.min-count.result c.number_at.result (c.loop-done.done + c.min-count.result) refl (omega arith)
      c.loop-done.invariant.below c.number_at.ensures.below;
  read =
      number-more 128 (bits_of c.args.bytes.now) c.args.at c.loop-done.done c.min-count.result c.loop-done.value c.number_at.result (c.loop-done.done + c.min-count.result) refl
      (omega (arith, length-bits_of c.args.bytes.now)) (omega arith) c.loop-done.invariant.below c.loop-done.invariant.read c.number_at.ensures.value;
}
