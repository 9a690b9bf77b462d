use Rattle.std.proofs.Common.{◌≡◌, ◌-◌, ◌^◌, ◌<◌, ◌≤◌, ◌++◌, length}
use Rattle.pos_bits.specs.Bits.{bits}
use Rattle.pos_bits.proofs.reader.BitReader.take.Given as goal

-- the value is the number of the bits taken so far, and so many are left to take
abbrev pub invariant-loop-left : goal.invariant-loop-left
invariant-loop-left l = record {
  at_most : l.left ≤ l.width;
  there : l.left ≤ length l.self;
  below : l.value < 2 ^ (l.width - l.left);
  taken : l.fn.self ≡ bits l.value (l.width - l.left) ++ l.self;
}

abbrev pub decreases-loop-left : goal.decreases-loop-left
decreases-loop-left l = l.left
