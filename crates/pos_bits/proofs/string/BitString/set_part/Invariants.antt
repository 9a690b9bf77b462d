use Rattle.std.proofs.Common.{◌≡◌, ◌-◌, ◌<◌, ◌≤◌, ◌%◌, drop, length, take}
use Rattle.pos_bits.proofs.string.BitString.set_part.Given as goal

abbrev pub invariant-loop-done : goal.invariant-loop-done
invariant-loop-done l = record {
  at_most : l.done ≤ l.width;
  whole_words : l.done < l.width → l.done % 64 ≡ 0;
  len : length l.self ≡ l.done;
  part_is : l.self ≡ take l.done (drop l.start l.whole);
}

abbrev pub decreases-loop-done : goal.decreases-loop-done
decreases-loop-done l = l.width - l.done
