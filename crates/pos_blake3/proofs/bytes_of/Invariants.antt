use Rattle.std.proofs.Common.{◌≡◌, ◌*◌, length, take}
use Rattle.pos_blake3.specs.Blake3.{word_bytes}
use Rattle.pos_blake3.proofs.bytes_of.Given as goal

-- the bytes of the words so far stand in front
abbrev pub invariant-loop-i : goal.invariant-loop-i
invariant-loop-i l = (length l.out ≡ 32) × (take (4 * l.i) l.out ≡ word_bytes (take l.i l.word-items))
