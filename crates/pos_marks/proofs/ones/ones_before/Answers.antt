use Rattle.std.proofs.Common.{◌≡◌, ◌+◌, ◌*◌, ◌/◌, ◌%◌, length, take, arith}
use Rattle.pos_lists.specs.Rank.{rank}
use Rattle.pos_lists.proofs.RankLemmas.{ranks_are_below}
use Rattle.pos_marks.specs.Bits.{has_bit, is_set}
use Rattle.pos_marks.proofs.BitLemmas.{rank-before}
use Rattle.pos_marks.proofs.ones.ones_before.Goals as goal

sum : (c : goal.After-low_ones) → c.ones_in.result + c.low_ones.result ≡ rank (has_bit c.args.bytes.now) c.args.bits
sum c =
    let e : c.ones_in.result ≡ rank (has_bit (take (c.args.bits / 64 * 8) c.args.bytes.now)) (8 * length (take (c.args.bits / 64 * 8) c.args.bytes.now)) = c.ones_in.ensures in
    let f : c.low_ones.result ≡ rank (is_set c.word_at.result) (c.args.bits % 64) = c.low_ones.ensures in
    rw (e, f) (rank-before c.args.bytes.now c.args.bits c.word_at.result c.requires.inside c.word_at.ensures)

pub overflow_add-result : goal.overflow_add-result
overflow_add-result c =
    let below = ranks_are_below (has_bit c.args.bytes.now) c.args.bits in
    let e = sum c in
    omega arith

pub returns : goal.returns
returns c = sum c
