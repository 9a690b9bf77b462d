use Rattle.std.proofs.Common.{arith}
use Rattle.pos_bits.specs.Bits.{bits_of}
use Rattle.pos_bits.proofs.ReaderLemmas.{ones-more}
use Rattle.pos_bits.proofs.reader.ones_from.Goals as goal

pub returns-then-count-lt-WINDOW_BITS-clause-ones : goal.returns-then-count-lt-WINDOW_BITS-clause-ones
returns-then-count-lt-WINDOW_BITS-clause-ones c =
    ones-more (bits_of c.args.bytes.now) c.args.at c.loop-ones.ones c.ones_at-count.result c.loop-ones.invariant.found c.ones_at-count.ensures.ones

pub loop-ones-preserved : goal.loop-ones-preserved
loop-ones-preserved c = record {
  within = omega arith;
  found =
      ones-more (bits_of c.args.bytes.now) c.args.at c.loop-ones.ones c.ones_at-count.result c.loop-ones.invariant.found c.ones_at-count.ensures.ones;
}
