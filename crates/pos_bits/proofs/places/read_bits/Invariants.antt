use Rattle.std.proofs.Common.{◌≡◌, ◌-◌, ◌≤◌, length, take, drop}
use Rattle.pos_bits.specs.Bits.{bits_of}
use Rattle.pos_bits.proofs.places.read_bits.Given as goal

-- so many bits were read
abbrev pub invariant-loop-done : goal.invariant-loop-done
invariant-loop-done l = record {
  at_most : l.done ≤ l.width;
  len : length l.string ≡ l.done;
  read : l.string ≡ take l.done (drop l.at (bits_of l.bytes));
}

abbrev pub decreases-loop-done : goal.decreases-loop-done
decreases-loop-done l = l.width - l.done
