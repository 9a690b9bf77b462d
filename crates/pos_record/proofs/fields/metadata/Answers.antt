use Rattle.std.proofs.Common.{◌+◌, ◌-◌, ◌/◌, ◌%◌, ◌^◌, sym, ap, ◌∙◌, arith}
use Rattle.pos_record.specs.KindLaws.{field-split}
use Rattle.pos_record.proofs.FieldsLemmas.{whole-field}
use Rattle.pos_record.proofs.fields.metadata.Goals as goal

pub returns-then-width-gt128-clause-high : goal.returns-then-width-gt128-clause-high
returns-then-width-gt128-clause-high c =
    c.number.ensures.value
    ∙ sym (field-split c.args.value.now c.args.at (c.args.width - 128) 128 (omega arith)).0
    ∙ ap (λ n. n / 2 ^ 128) (whole-field c.args.value.now c.args.at c.args.width (c.args.width - 128 + 128) (omega arith) (omega arith))

pub returns-then-width-gt128-clause-low : goal.returns-then-width-gt128-clause-low
returns-then-width-gt128-clause-low c =
    c.number-then-width-gt128.ensures.value
    ∙ sym (field-split c.args.value.now c.args.at (c.args.width - 128) 128 (omega arith)).1
    ∙ ap (λ n. n % 2 ^ 128) (whole-field c.args.value.now c.args.at c.args.width (c.args.width - 128 + 128) (omega arith) (omega arith))
