use Rattle.std.proofs.Common.{◌≡◌, ◌-◌, ◌++◌, arith, sym, append-nil}
use Rattle.pos_bits.specs.Bits.{bits, bits_of}
use Rattle.pos_bits.proofs.AppendLemmas.{ones-appended, run-appended, run-fits}
use Rattle.pos_bits.proofs.writer.append_run.Goals as goal

pub loop-left-init : goal.loop-left-init
loop-left-init c =
    let none : c.args.ones - c.args.ones ≡ 0 = omega arith in
    record {
      at_most = omega arith;
      held_below = c.requires.fill_fits;
      now_below = c.requires.rest_fits;
      len = omega arith;
      capacity = omega arith;
      written = rw none (sym (append-nil (bits_of c.args.bytes.now.items ++ bits c.args.rest c.args.fill)));
    }

pub loop-left-preserved : goal.loop-left-preserved
loop-left-preserved c = record {
  at_most = omega arith;
  held_below = c.append.ensures.fill;
  now_below = c.append.ensures.rest;
  len = omega (arith, c.append.ensures.len, c.loop-left.invariant.len, c.loop-left-test.true);
  capacity = omega (arith, c.append.ensures.capacity, c.loop-left.invariant.capacity);
  written =
      ones-appended (bits_of c.args.bytes.now.items ++ bits c.args.rest c.args.fill) (bits_of c.loop-left.bytes.items ++ bits c.loop-left.now c.loop-left.held)
      (bits_of c.append.new.bytes.items ++ bits c.append.result.0 c.append.result.1) c.args.ones c.loop-left.left 32 c.loop-left.invariant.at_most c.loop-left-test.true
      c.loop-left.invariant.written c.append.ensures.bits;
}

pub append-requires-2-clause-value_fits : goal.append-requires-2-clause-value_fits
append-requires-2-clause-value_fits c = run-fits c.loop-left.left (omega (arith, c.loop-left-test.false))

pub returns-clause-bits : goal.returns-clause-bits
returns-clause-bits c =
    run-appended (bits_of c.args.bytes.now.items ++ bits c.args.rest c.args.fill) (bits_of c.loop-left.bytes.items ++ bits c.loop-left.now c.loop-left.held)
    (bits_of c.append-2.new.bytes.items ++ bits c.append-2.result.0 c.append-2.result.1) c.args.ones c.loop-left.left c.loop-left.invariant.at_most
    (omega (arith, c.loop-left-test.false)) c.loop-left.invariant.written c.append-2.ensures.bits
