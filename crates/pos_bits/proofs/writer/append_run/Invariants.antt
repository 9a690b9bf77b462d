use Rattle.std.proofs.Common.{◌≡◌, ◌+◌, ◌-◌, ◌*◌, ◌^◌, ◌<◌, ◌≤◌, ◌++◌, true, replicate, vec_capacity, vec_len}
use Rattle.pos_bits.specs.Bits.{bits, bits_of}
use Rattle.pos_bits.proofs.writer.append_run.Given as goal

-- so many ones are left to write
abbrev pub invariant-loop-left : goal.invariant-loop-left
invariant-loop-left l = record {
  at_most : l.left ≤ l.ones;
  held_below : l.held < 64;
  now_below : l.now < 2 ^ l.held;
  len : 8 * vec_len l.bytes + l.held + l.left ≡ 8 * vec_len l.fn.bytes + l.fn.fill + l.ones;
  capacity : vec_capacity l.fn.bytes ≤ vec_capacity l.bytes;
  written : bits_of l.bytes.items ++ bits l.now l.held ≡ (bits_of l.fn.bytes.items ++ bits l.fn.rest l.fn.fill) ++ replicate (l.ones - l.left) true;
}

abbrev pub decreases-loop-left : goal.decreases-loop-left
decreases-loop-left l = l.left
