use Rattle.std.proofs.Common.{◌-◌, ◌/◌, ◌^◌, ◌++◌, ap, sym, ◌∙◌, arith, rules, append_assoc}
use Rattle.pos_bits.specs.Bits.{bits, bits_of}
use Rattle.pos_bits.proofs.AppendLemmas.{rest-joined, rest-joined_lt, word-appended, word-of_one, word-of_two}
use Rattle.pos_bits.proofs.PiecesLemmas.{joined-fits, top-lt}
use Rattle.pos_bits.proofs.writer.append.Goals as goal
use Rattle.pos_bits.proofs.writer.append.Goals.{else-room-lt64, then-room-lt64}

pub overflow_add-result : goal.overflow_add-result
overflow_add-result c =
    let f = joined-fits 64 c.args.rest c.args.fill c.args.width c.args.value c.requires.rest_fits c.requires.value_fits (omega arith) in
    search rules

pub returns-then-width-room-clause-bits : goal.returns-then-width-room-clause-bits
returns-then-width-room-clause-bits c =
    ap (λ t. bits_of c.args.bytes.now.items ++ t) (rest-joined c.args.rest c.args.fill c.args.value c.args.width c.requires.rest_fits c.requires.value_fits (omega arith))
    ∙ sym (append_assoc (bits_of c.args.bytes.now.items) (bits c.args.rest c.args.fill) (bits c.args.value c.args.width))

pub returns-then-width-room-clause-rest : goal.returns-then-width-room-clause-rest
returns-then-width-room-clause-rest c =
    rest-joined_lt c.args.rest c.args.fill c.args.value c.args.width c.requires.rest_fits c.requires.value_fits (omega arith)

pub overflow_add-word : goal.overflow_add-word
overflow_add-word c =
    let top = top-lt c.args.value c.args.width (64 - c.args.fill) c.requires.value_fits c.if-width-room.false in
    let f = joined-fits 64 c.args.rest c.args.fill (64 - c.args.fill) (c.args.value / 2 ^ (c.args.width - (64 - c.args.fill))) c.requires.rest_fits top (omega arith) in
    search rules

pub returns-clause-bits : goal.returns-clause-bits
returns-clause-bits c =
    word-appended c.args.bytes.now.items c.extend_from_slice.new.self.items c.args.rest c.args.fill c.args.value c.args.width c.if-room-lt64.word c.low_bits.result
    c.requires.fill_fits c.if-width-room.false
    (c.in-Ok.ensures.items ∙ ap (λ bs. c.args.bytes.now.items ++ bs) c.to_be_bytes.ensures)
    (elim c.if-room-lt64.branch [
      | then-room-lt64 w ↦ ap (λ x. bits x 64) w.word-is ∙ word-of_two c.args.rest c.args.fill c.args.value c.args.width c.requires.fill_fits c.if-width-room.false c.requires.rest_fits c.requires.value_fits
      | else-room-lt64 w ↦ ap (λ x. bits x 64) w.word-is ∙ word-of_one c.args.rest c.args.fill c.args.value c.args.width (omega arith)
    ])
    c.low_bits.ensures
