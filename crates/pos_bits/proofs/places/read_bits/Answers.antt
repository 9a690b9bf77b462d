use Rattle.std.proofs.Common.{◌+◌, arith, refl, []}
use Rattle.pos_bits.specs.Bits.{bits_of}
use Rattle.pos_bits.proofs.BytesLemmas.{length-bits_of}
use Rattle.pos_bits.proofs.PiecesLemmas.{piece-more}
use Rattle.pos_bits.proofs.places.read_bits.Goals as goal

pub loop-done-preserved : goal.loop-done-preserved
loop-done-preserved c = record {
  at_most = omega arith;
  len = omega arith;
  read =
      piece-more (bits_of c.args.bytes.now) [] c.loop-done.string c.push.new.self c.args.at c.loop-done.done c.min-count.result (c.args.at + c.loop-done.done) c.number_at.result refl
      (omega (arith, length-bits_of c.args.bytes.now)) c.loop-done.invariant.read c.number_at.ensures.value c.push.ensures.bits;
}
