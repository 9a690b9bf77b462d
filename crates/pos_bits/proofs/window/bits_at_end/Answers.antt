use Rattle.std.proofs.Common.{◌+◌, ◌<◌, arith, rules}
use Rattle.pos_bits.proofs.WindowLemmas.{ReadBytes-all, ReadBytes-fits, ReadBytes-inside, ReadBytes-none, ReadBytes-past}
use Rattle.pos_bits.proofs.window.bits_at_end.Goals as goal
use Rattle.pos_bits.proofs.window.bits_at_end.Goals.{else-i-bytes, then-i-bytes}

pub loop-i-init : goal.loop-i-init
loop-i-init c = ReadBytes-none c.args.bytes.now c.args.at

pub overflow_mul-window : goal.overflow_mul-window
overflow_mul-window c =
    let f = ReadBytes-fits c.args.bytes.now c.args.at c.loop-i.i c.loop-i.window c.loop-i.invariant c.loop-i-test.true in
    search rules

pub overflow_add-window : goal.overflow_add-window
overflow_add-window c =
    let f = ReadBytes-fits c.args.bytes.now c.args.at c.loop-i.i c.loop-i.window c.loop-i.invariant c.loop-i-test.true in
    elim c.if-i-bytes.branch [
      | then-i-bytes w ↦ let b : c.if-i-bytes.byte < 256 = omega (arith, w.byte-is, c.type_inv.bytes (c.args.at + c.loop-i.i)) in search rules
      | else-i-bytes w ↦ search rules
    ]

pub loop-i-preserved : goal.loop-i-preserved
loop-i-preserved c =
    elim c.if-i-bytes.branch [
      | then-i-bytes w ↦
          ReadBytes-inside c.args.bytes.now c.args.at c.loop-i.i c.loop-i.window c.if-i-bytes.byte c.loop-i.invariant c.loop-i-test.true
          (omega (arith, w.byte-is, c.type_inv.bytes (c.args.at + c.loop-i.i))) (omega arith) w.byte-is
      | else-i-bytes w ↦
          ReadBytes-past c.args.bytes.now c.args.at c.loop-i.i c.loop-i.window c.if-i-bytes.byte c.loop-i.invariant c.loop-i-test.true (omega arith) w.byte-is
    ]

pub returns : goal.returns
returns c = ReadBytes-all c.args.bytes.now c.args.at c.loop-i.i c.loop-i.window c.loop-i.invariant c.loop-i-test.false c.loop-i.auto.i-end
