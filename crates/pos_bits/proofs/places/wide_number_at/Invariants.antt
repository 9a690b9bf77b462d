use Rattle.std.proofs.Common.{◌≡◌, ◌-◌, ◌^◌, ◌<◌, ◌≤◌, take, drop}
use Rattle.pos_bits.specs.Bits.{bits_of, number}
use Rattle.pos_bits.proofs.places.wide_number_at.Given as goal

-- the value is the number of the bits read so far
abbrev pub invariant-loop-done : goal.invariant-loop-done
invariant-loop-done l = record {
  at_most : l.done ≤ l.width;
  below : l.value < 2 ^ l.done;
  read : l.value ≡ number (take l.done (drop l.at (bits_of l.bytes)));
}

abbrev pub decreases-loop-done : goal.decreases-loop-done
decreases-loop-done l = l.width - l.done
