use Rattle.std.proofs.Common.{arith}
use Rattle.pos_bits.proofs.PlacesLemmas.{behind, number-appended}
use Rattle.pos_bits.proofs.places.append_number.Goals as goal
use Rattle.pos_bits.proofs.places.append_number.Goals.{then-byte-bytes, else-byte-bytes}

pub returns-clause-bits : goal.returns-clause-bits
returns-clause-bits c =
    number-appended c.args.bytes.now c.put_word.new.bytes c.args.at c.args.value c.args.width c.if-byte-bytes.first c.word_behind-word.result c.requires.there c.requires.width_fits
    (behind c.args.bytes.now c.args.at c.if-byte-bytes.first (omega arith)
    (λ h. elim c.if-byte-bytes.branch [
      | then-byte-bytes w ↦ w.first-is
      | else-byte-bytes w ↦ absurd (omega arith)
    ]))
    c.word_behind-word.ensures c.put_word.ensures.bits
