use Rattle.std.proofs.Common.{◌≡◌, ◌+◌, ◌*◌, length, ap, ◌∙◌, refl, arith}
use Rattle.pos_lists.specs.Rank.{rank}
use Rattle.pos_lists.proofs.RankLemmas.{ranks_are_below}
use Rattle.pos_marks.specs.Bits.{has_bit}
use Rattle.pos_marks.proofs.BitLemmas.{rank-word}
use Rattle.pos_marks.proofs.ones.ones_in.Goals as goal

pub loop-i-init : goal.loop-i-init
unfolding rank
loop-i-init c = refl

pub overflow_add-ones : goal.overflow_add-ones
overflow_add-ones c =
    let below = ranks_are_below (has_bit c.args.bytes.now) (64 * (c.loop-i.i + 1)) in
    let e : c.loop-i.ones ≡ rank (has_bit c.args.bytes.now) (64 * c.loop-i.i) = c.loop-i.invariant in
    let more = rank-word c.args.bytes.now c.loop-i.i c.word_at.result (omega arith) c.word_at.ensures in
    omega arith

pub loop-i-preserved : goal.loop-i-preserved
loop-i-preserved c =
    let e : c.loop-i.ones ≡ rank (has_bit c.args.bytes.now) (64 * c.loop-i.i) = c.loop-i.invariant in
    let more = rank-word c.args.bytes.now c.loop-i.i c.word_at.result (omega arith) c.word_at.ensures in
    omega arith

pub returns : goal.returns
returns c =
    let all : 64 * c.loop-i.i ≡ 8 * length c.args.bytes.now = omega arith in
    c.loop-i.invariant ∙ ap (rank (has_bit c.args.bytes.now)) all
