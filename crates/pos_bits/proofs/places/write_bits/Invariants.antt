use Rattle.std.proofs.Common.{◌≡◌, ◌+◌, ◌-◌, ◌≤◌, ◌++◌, length, take, drop}
use Rattle.pos_bits.specs.Bits.{bits_of}
use Rattle.pos_bits.proofs.places.write_bits.Given as goal

-- so many bits of the string were written
abbrev pub invariant-loop-done : goal.invariant-loop-done
invariant-loop-done l = record {
  at_most : l.done ≤ length l.value;
  len : length l.bytes ≡ length l.initial.bytes;
  written : bits_of l.bytes ≡ take l.at (bits_of l.initial.bytes) ++ take l.done l.value ++ drop (l.at + l.done) (bits_of l.initial.bytes);
}

abbrev pub decreases-loop-done : goal.decreases-loop-done
decreases-loop-done l = length l.value - l.done
