use Rattle.std.proofs.Common.{◌≡◌, ◌-◌, ◌%◌, ◌<◌, ◌≤◌, length, take}
use Rattle.pos_bits.specs.Bits.{bits_of}
use Rattle.pos_bits.proofs.string.BitString.from_bytes.Given as goal

abbrev pub invariant-loop-at : goal.invariant-loop-at
invariant-loop-at l = record {
  at_most : l.at ≤ length l.bytes;
  whole_words : l.at < length l.bytes → l.at % 8 ≡ 0;
  string_is : l.string ≡ bits_of (take l.at l.bytes);
}

abbrev pub decreases-loop-at : goal.decreases-loop-at
decreases-loop-at l = length l.bytes - l.at
