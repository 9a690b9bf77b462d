use Rattle.pos_bits.specs.Blocks.{held_bits}
use Rattle.pos_bits.proofs.JoinLemmas.{JoinedWords}
use Rattle.pos_bits.proofs.string.join_words.Given as goal

abbrev pub invariant-loop-i : goal.invariant-loop-i
invariant-loop-i l = JoinedWords (held_bits l.fn.words l.len) l.other l.words l.first l.carry l.i
