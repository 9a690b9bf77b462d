use Rattle.std.proofs.Common.{◌-◌, length, ap, arith, rules, pow_pos, length-append}
use Rattle.pos_bits.specs.Bits.{bits}
use Rattle.pos_bits.specs.Blocks.{length-bits}
use Rattle.pos_bits.proofs.PiecesLemmas.{joined-fits, take-more, take-more_lt, take-none}
use Rattle.pos_bits.proofs.reader.BitReader.take.Goals as goal

pub loop-left-init : goal.loop-left-init
loop-left-init c = record {
  at_most = omega arith;
  there = omega arith;
  below = pow_pos (c.args.width - c.args.width);
  taken = take-none c.args.self.now c.args.width;
}

pub overflow_add-value : goal.overflow_add-value
overflow_add-value c =
    let f = joined-fits 128 c.loop-left.value (c.args.width - c.loop-left.left) c.min-count.result c.next.result c.loop-left.invariant.below c.next.ensures.below (omega arith) in
    search rules

pub loop-left-preserved : goal.loop-left-preserved
loop-left-preserved c = record {
  at_most = omega arith;
  there =
      omega (arith, ap length c.next.ensures.value, length-append (bits c.next.result c.min-count.result) c.next.new.self, length-bits c.next.result c.min-count.result);
  below =
      take-more_lt c.loop-left.value c.next.result c.args.width c.loop-left.left c.min-count.result (omega arith) (omega arith) c.requires
      c.loop-left.invariant.below c.next.ensures.below;
  taken =
      take-more c.args.self.now c.loop-left.self c.next.new.self c.loop-left.value c.next.result c.args.width c.loop-left.left c.min-count.result (omega arith) (omega arith) c.requires
      c.loop-left.invariant.below c.next.ensures.below c.loop-left.invariant.taken c.next.ensures.value;
}
