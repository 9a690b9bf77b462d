use Rattle.std.proofs.Common.{◌≡◌, ◌+◌, ◌++◌, take, sym, ap, ◌∙◌, arith, rules, append_assoc}
use Rattle.pos_bits.specs.Bits.{bits, bits_of}
use Rattle.pos_record.proofs.FieldsLemmas.{two-bits, two-fit, two-fit_word}
use Rattle.pos_record.proofs.fields.append_two.Goals as goal

pub overflow_add-both : goal.overflow_add-both
overflow_add-both c =
    let f = two-fit_word c.args.first c.args.first_width c.args.second c.args.second_width c.requires.first_fits c.requires.second_fits (omega arith) in
    search rules

pub append_number-requires-clause-value_fits : goal.append_number-requires-clause-value_fits
append_number-requires-clause-value_fits c =
    two-fit c.args.first c.args.first_width c.args.second c.args.second_width c.requires.first_fits c.requires.second_fits (omega arith)

pub returns-then-first_width-second_width-le-PIECE-clause-bits : goal.returns-then-first_width-second_width-le-PIECE-clause-bits
returns-then-first_width-second_width-le-PIECE-clause-bits c =
    let place : c.args.at + (c.args.first_width + c.args.second_width) ≡ c.args.at + c.args.first_width + c.args.second_width = omega arith in
    ap (λ n. take n (bits_of c.append_number.new.bytes)) (sym place)
    ∙ c.append_number.ensures.bits
    ∙ ap (λ t. take c.args.at (bits_of c.args.bytes.now) ++ t) (two-bits c.args.first c.args.first_width c.args.second c.args.second_width c.requires.first_fits c.requires.second_fits (omega arith))
    ∙ sym (append_assoc (take c.args.at (bits_of c.args.bytes.now)) (bits c.args.first c.args.first_width) (bits c.args.second c.args.second_width))
