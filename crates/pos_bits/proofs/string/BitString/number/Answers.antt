use Rattle.std.proofs.Common.{◌≡◌, ◌+◌, ◌-◌, ap, ◌∙◌, take, drop, arith}
use Rattle.pos_bits.specs.Bits.{number}
use Rattle.pos_bits.proofs.PiecesLemmas.{number-more, number-more_lt, number-none}
use Rattle.pos_bits.proofs.string.BitString.number.Goals as goal

pub returns-then-width-gt64-clause-value : goal.returns-then-width-gt64-clause-value
returns-then-width-gt64-clause-value c =
    let place : c.args.start + c.args.width - 64 ≡ c.args.start + (c.args.width - 64) = omega arith in
    number-more 128 c.args.self.now c.args.start (c.args.width - 64) 64 c.word-high.result c.word.result c.args.width (omega arith) (omega arith) (omega arith)
    c.word-high.ensures.below c.word-high.ensures.value (c.word.ensures.value ∙ ap (λ k. number (take 64 (drop k c.args.self.now))) place)

pub returns-then-width-gt64-clause-below : goal.returns-then-width-gt64-clause-below
returns-then-width-gt64-clause-below c =
    number-more_lt 128 c.word-high.result (c.args.width - 64) 64 c.word.result c.args.width (omega arith) (omega arith)
    c.word-high.ensures.below c.word.ensures.below

pub returns-else-width-gt0-clause-value : goal.returns-else-width-gt0-clause-value
returns-else-width-gt0-clause-value c = number-none c.args.self.now c.args.start c.args.width (omega arith)
