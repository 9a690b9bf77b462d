use Rattle.std.proofs.Common.{◌≡◌, ◌+◌, ◌-◌, ◌*◌, ◌≤◌, ◌++◌, length, replicate, drop, true}
use Rattle.pos_bits.specs.Bits.{bits_of}
use Rattle.pos_bits.proofs.reader.ones_from.Given as goal

-- so many ones were found
abbrev pub invariant-loop-ones : goal.invariant-loop-ones
invariant-loop-ones l = record {
  within : l.at + l.ones ≤ 8 * length l.bytes;
  found : drop l.at (bits_of l.bytes) ≡ replicate l.ones true ++ drop (l.at + l.ones) (bits_of l.bytes);
}

abbrev pub decreases-loop-ones : goal.decreases-loop-ones
decreases-loop-ones l = 8 * length l.bytes - (l.at + l.ones)
