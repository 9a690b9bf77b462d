use Rattle.std.proofs.Common.{◌/◌, ◌%◌, ◌^◌, ap, ◌∙◌, arith}
use Rattle.std.proofs.lemmas.Nat.{and_mask, one_shl, shr_below}
use Rattle.pos_bits.specs.Bits.{bits_of}
use Rattle.pos_bits.proofs.BytesLemmas.{length-bits_of}
use Rattle.pos_record.specs.KindLaws.{field-split}
use Rattle.pos_record.proofs.fields.two_at.Goals as goal

pub returns-then-first_width-second_width-le-PIECE-clause-first : goal.returns-then-first_width-second_width-le-PIECE-clause-first
returns-then-first_width-second_width-le-PIECE-clause-first c =
    ap (λ n. n / 2 ^ c.args.second_width) c.number_at-both.ensures.value
    ∙ (field-split (bits_of c.args.bytes.now) c.args.at c.args.first_width c.args.second_width (omega (arith, length-bits_of c.args.bytes.now))).0

pub returns-then-first_width-second_width-le-PIECE-clause-second : goal.returns-then-first_width-second_width-le-PIECE-clause-second
returns-then-first_width-second_width-le-PIECE-clause-second c =
    rw (one_shl c.args.second_width 64 (omega arith), and_mask c.number_at-both.result c.args.second_width)
    (ap (λ n. n % 2 ^ c.args.second_width) c.number_at-both.ensures.value
    ∙ (field-split (bits_of c.args.bytes.now) c.args.at c.args.first_width c.args.second_width (omega (arith, length-bits_of c.args.bytes.now))).1)

pub returns-then-first_width-second_width-le-PIECE-clause-first_below : goal.returns-then-first_width-second_width-le-PIECE-clause-first_below
returns-then-first_width-second_width-le-PIECE-clause-first_below c =
    shr_below c.number_at-both.result c.args.first_width c.args.second_width c.number_at-both.ensures.below
