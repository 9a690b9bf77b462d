use Rattle.std.proofs.Common.{◌-◌, ◌++◌, sym, ap, ◌∙◌, arith}
use Rattle.pos_bits.specs.Bits.{bits}
use Rattle.pos_record.proofs.FieldsLemmas.{behind-two, high-lt, high-none, low-fits, parts-joined}
use Rattle.pos_forward.proofs.entries.push_number.Goals as goal

pub push-requires-clause-value_fits : goal.push-requires-clause-value_fits
push-requires-clause-value_fits c = high-lt c.args.high c.args.low c.args.width (omega arith) (omega arith) c.requires.fits

pub push-requires-else-width-gt128-clause-value_fits : goal.push-requires-else-width-gt128-clause-value_fits
push-requires-else-width-gt128-clause-value_fits c = low-fits c.args.high c.args.low c.args.width (omega arith) c.requires.fits

pub returns-then-width-gt128-clause-bits : goal.returns-then-width-gt128-clause-bits
returns-then-width-gt128-clause-bits c =
    behind-two c.args.string.now (bits c.args.high (c.args.width - 128)) (bits c.args.low 128) _ _ c.push.ensures.bits c.push-then-width-gt128.ensures.bits
    ∙ ap (λ t. c.args.string.now ++ t) (parts-joined c.args.high c.args.low c.args.width (omega arith) (omega arith))

pub returns-else-width-gt128-clause-bits : goal.returns-else-width-gt128-clause-bits
returns-else-width-gt128-clause-bits c =
    c.push-else-width-gt128.ensures.bits
    ∙ ap (λ x. c.args.string.now ++ bits x c.args.width) (sym (high-none c.args.high c.args.low c.args.width (omega arith) c.requires.fits))
