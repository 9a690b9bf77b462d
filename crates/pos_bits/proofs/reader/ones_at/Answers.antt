use Rattle.std.proofs.Common.{min, ap, ◌∙◌, arith, length-drop}
use Rattle.pos_bits.specs.Bits.{bits_of}
use Rattle.pos_bits.proofs.BytesLemmas.{length-bits_of}
use Rattle.pos_bits.proofs.ReaderLemmas.{ones-fit, window-ones, window-zero}
use Rattle.pos_bits.proofs.reader.ones_at.Goals as goal

pub returns-clause-ones : goal.returns-clause-ones
returns-clause-ones c =
    window-ones c.args.bytes.now c.args.at c.window_at.result c.min.result c.window_at.type_inv c.window_at.ensures (c.min.ensures ∙ ap (λ n. min n 57) c.leading_ones.ensures)

pub returns-clause-next : goal.returns-clause-next
returns-clause-next c =
    window-zero c.args.bytes.now c.args.at c.window_at.result c.min.result c.window_at.type_inv c.window_at.ensures (c.min.ensures ∙ ap (λ n. min n 57) c.leading_ones.ensures)

pub returns-clause-within : goal.returns-clause-within
returns-clause-within c =
    omega (arith, ones-fit _ _ c.min.result (returns-clause-ones c), length-drop c.args.at (bits_of c.args.bytes.now), length-bits_of c.args.bytes.now)
