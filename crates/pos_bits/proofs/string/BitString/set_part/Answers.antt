use Rattle.std.proofs.Common.{◌≡◌, ◌+◌, ◌%◌, [], refl, arith}
use Rattle.pos_bits.proofs.PiecesLemmas.{piece-more}
use Rattle.pos_bits.proofs.string.BitString.set_part.Goals as goal

pub loop-done-preserved : goal.loop-done-preserved
loop-done-preserved c = record {
  at_most = omega arith;
  whole_words = λ more. let whole : c.loop-done.done % 64 ≡ 0 = c.loop-done.invariant.whole_words c.loop-done-test.true in omega arith;
  len = omega arith;
  part_is =
      piece-more c.args.whole.now [] c.loop-done.self c.push_within_word.new.self c.args.start c.loop-done.done c.min-count.result (c.args.start + c.loop-done.done) c.word.result refl
      (omega arith) c.loop-done.invariant.part_is c.word.ensures.value c.push_within_word.ensures.bits;
}
