use Rattle.std.proofs.Common.{◌≡◌, ◌-◌, ◌+◌, ◌/◌, ◌%◌, ◌^◌, ◌<◌, ◌++◌, take, length, refl, arith, rules, length-append, length-take}
use Rattle.pos_bits.specs.Bits.{bits}
use Rattle.pos_bits.specs.Blocks.{length-bits}
use Rattle.pos_bits.proofs.PlacesLemmas.{number-written, word-filled, word-filled_fits}
use Rattle.pos_bits.proofs.places.write_piece.Goals as goal

head_length : (first skip value width : _) → skip < 8 → skip + width < 64 → length (take skip (bits first 8) ++ bits value width) + (64 - skip - width) ≡ 64
head_length first skip value width h w = rw (length-append, length-take, length-bits, length-bits) (omega arith)

pub overflow_add-word : goal.overflow_add-word
overflow_add-word c =
    let f = word-filled_fits c.word_behind.result c.bits_at_byte-window.result c.low_bits.result (64 - c.args.at % 8 - c.args.width)
    (take (c.args.at % 8) (bits (c.bits_at_byte-window.result / 2 ^ 56) 8) ++ bits c.args.value c.args.width)
    (head_length _ (c.args.at % 8) c.args.value c.args.width (omega arith) (omega arith)) c.word_behind.type_inv c.word_behind.ensures c.low_bits.ensures in
    search rules

pub returns-clause-bits : goal.returns-clause-bits
returns-clause-bits c =
    number-written c.args.bytes.now c.put_word.new.bytes c.args.at c.args.value c.args.width c.bits_at_byte-window.result (c.bits_at_byte-window.result / 2 ^ 56) _
    c.requires.there c.requires.not_none c.requires.width_fits c.bits_at_byte-window.ensures refl
    (word-filled c.word_behind.result c.bits_at_byte-window.result c.low_bits.result (64 - c.args.at % 8 - c.args.width)
    (take (c.args.at % 8) (bits (c.bits_at_byte-window.result / 2 ^ 56) 8) ++ bits c.args.value c.args.width)
    (head_length _ (c.args.at % 8) c.args.value c.args.width (omega arith) (omega arith)) c.word_behind.type_inv c.word_behind.ensures c.low_bits.ensures)
    c.put_word.ensures.bits
