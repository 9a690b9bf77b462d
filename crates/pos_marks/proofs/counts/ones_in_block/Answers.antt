use Rattle.std.proofs.Common.{◌≡◌, ◌+◌, ◌*◌, ◌/◌, ◌%◌, ap, ◌∙◌, arith}
use Rattle.pos_lists.specs.Rank.{rank}
use Rattle.pos_marks.specs.Bits.{has_bit}
use Rattle.pos_marks.proofs.BitLemmas.{rank-part}
use Rattle.pos_marks.proofs.counts.ones_in_block.Goals as goal

pub returns : goal.returns
returns c =
    let start = c.args.at / 4096 * 512 in
    let e : 8 * start ≡ 4096 * (c.args.at / 4096) = omega arith in
    c.ones_before.ensures ∙ (rank-part c.args.page.now start (start + 512) (c.args.at % 4096) (omega arith)
    ∙ ap (λ k. rank (λ j. has_bit c.args.page.now (k + j)) (c.args.at % 4096)) e)
