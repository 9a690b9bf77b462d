use Rattle.std.proofs.Common.{◌-◌, ◌%◌, arith}
use Rattle.pos_bits.proofs.PiecesLemmas.{top-lt, two-appended}
use Rattle.pos_bits.proofs.string.BitString.push_word.Goals as goal

pub push_within_word-requires-else-width-room-clause-value_fits : goal.push_within_word-requires-else-width-room-clause-value_fits
push_within_word-requires-else-width-room-clause-value_fits c =
    top-lt c.args.value c.args.width (64 - c.len.result % 64) c.requires.value_fits (omega arith)

pub returns-else-width-room-clause-bits : goal.returns-else-width-room-clause-bits
returns-else-width-room-clause-bits c =
    two-appended c.args.self.now c.push_within_word-else-width-room.new.self c.push_within_word-else-width-room-2.new.self c.args.value c.args.width
    (64 - c.len.result % 64) (c.args.width - (64 - c.len.result % 64)) c.low_bits.result (omega arith)
    c.push_within_word-else-width-room.ensures.bits c.low_bits.ensures c.push_within_word-else-width-room-2.ensures.bits
