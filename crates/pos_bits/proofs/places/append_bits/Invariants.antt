use Rattle.std.proofs.Common.{◌≡◌, ◌+◌, ◌-◌, ◌≤◌, ◌++◌, length, take}
use Rattle.pos_bits.specs.Bits.{bits_of}
use Rattle.pos_bits.proofs.places.append_bits.Given as goal

-- so many bits of the string stand behind the first bits
abbrev pub invariant-loop-done : goal.invariant-loop-done
invariant-loop-done l = record {
  at_most : l.done ≤ length l.value;
  len : length l.bytes ≡ length l.initial.bytes;
  put : take (l.at + l.done) (bits_of l.bytes) ≡ take l.at (bits_of l.initial.bytes) ++ take l.done l.value;
}

abbrev pub decreases-loop-done : goal.decreases-loop-done
decreases-loop-done l = length l.value - l.done
