use Rattle.std.proofs.Common.{◌≡◌, ◌+◌, ◌-◌, ◌/◌, ◌^◌, ◌≤◌, ◌++◌, length, take}
use Rattle.pos_bits.specs.Bits.{bits, bits_of}
use Rattle.pos_bits.proofs.places.append_wide_number.Given as goal

-- all but the low `left` bits stand behind the first bits
abbrev pub invariant-loop-left : goal.invariant-loop-left
invariant-loop-left l = record {
  at_most : l.left ≤ l.width;
  len : length l.bytes ≡ length l.initial.bytes;
  put : take (l.at + (l.width - l.left)) (bits_of l.bytes) ≡ take l.at (bits_of l.initial.bytes) ++ bits (l.value / 2 ^ l.left) (l.width - l.left);
}

abbrev pub decreases-loop-left : goal.decreases-loop-left
decreases-loop-left l = l.left
