use Rattle.std.proofs.Common.{◌≡◌, ◌+◌, ◌-◌, ◌++◌, take, sym, ap, ◌∙◌, arith}
use Rattle.pos_bits.specs.Bits.{bits, bits_of}
use Rattle.pos_record.proofs.FieldsLemmas.{behind-two, high-lt, high-none, low-fits, parts-joined}
use Rattle.pos_record.proofs.fields.append_metadata.Goals as goal

pub append_wide_number-requires-clause-value_fits : goal.append_wide_number-requires-clause-value_fits
append_wide_number-requires-clause-value_fits c = high-lt c.args.high c.args.low c.args.width (omega arith) (omega arith) c.requires.fits

pub append_wide_number-requires-else-width-gt128-clause-value_fits : goal.append_wide_number-requires-else-width-gt128-clause-value_fits
append_wide_number-requires-else-width-gt128-clause-value_fits c = low-fits c.args.high c.args.low c.args.width (omega arith) c.requires.fits

pub returns-then-width-gt128-clause-bits : goal.returns-then-width-gt128-clause-bits
returns-then-width-gt128-clause-bits c =
    let place : c.args.at + (c.args.width - 128) + 128 ≡ c.args.at + c.args.width = omega arith in
    ap (λ n. take n (bits_of c.append_wide_number-then-width-gt128.new.bytes)) (sym place)
    ∙ behind-two (take c.args.at (bits_of c.args.bytes.now)) (bits c.args.high (c.args.width - 128)) (bits c.args.low 128) _ _ c.append_wide_number.ensures.bits c.append_wide_number-then-width-gt128.ensures.bits
    ∙ ap (λ t. take c.args.at (bits_of c.args.bytes.now) ++ t) (parts-joined c.args.high c.args.low c.args.width (omega arith) (omega arith))

pub returns-else-width-gt128-clause-bits : goal.returns-else-width-gt128-clause-bits
returns-else-width-gt128-clause-bits c =
    c.append_wide_number-else-width-gt128.ensures.bits
    ∙ ap (λ x. take c.args.at (bits_of c.args.bytes.now) ++ bits x c.args.width) (sym (high-none c.args.high c.args.low c.args.width (omega arith) c.requires.fits))
