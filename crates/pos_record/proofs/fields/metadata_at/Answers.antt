use Rattle.std.proofs.Common.{◌+◌, ◌-◌, ◌/◌, ◌%◌, ◌^◌, sym, ap, ◌∙◌, arith}
use Rattle.pos_bits.specs.Bits.{bits_of}
use Rattle.pos_bits.proofs.BytesLemmas.{length-bits_of}
use Rattle.pos_record.specs.KindLaws.{field-split}
use Rattle.pos_record.proofs.FieldsLemmas.{whole-field}
use Rattle.pos_record.proofs.fields.metadata_at.Goals as goal

pub returns-then-width-gt128-clause-high : goal.returns-then-width-gt128-clause-high
returns-then-width-gt128-clause-high c =
    c.wide_number_at.ensures.value
    ∙ sym (field-split (bits_of c.args.bytes.now) c.args.at (c.args.width - 128) 128 (omega (arith, length-bits_of c.args.bytes.now))).0
    ∙ ap (λ n. n / 2 ^ 128) (whole-field (bits_of c.args.bytes.now) c.args.at c.args.width (c.args.width - 128 + 128) (omega arith) (omega arith))

pub returns-then-width-gt128-clause-low : goal.returns-then-width-gt128-clause-low
returns-then-width-gt128-clause-low c =
    c.wide_number_at-then-width-gt128.ensures.value
    ∙ sym (field-split (bits_of c.args.bytes.now) c.args.at (c.args.width - 128) 128 (omega (arith, length-bits_of c.args.bytes.now))).1
    ∙ ap (λ n. n % 2 ^ 128) (whole-field (bits_of c.args.bytes.now) c.args.at c.args.width (c.args.width - 128 + 128) (omega arith) (omega arith))
