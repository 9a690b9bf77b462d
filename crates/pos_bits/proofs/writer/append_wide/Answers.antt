use Rattle.std.proofs.Common.{◌≡◌, ◌+◌, ◌-◌, ◌^◌, ◌<◌, ◌++◌, subst, arith}
use Rattle.std.proofs.lemmas.Nat.{and_mask, shr_below}
use Rattle.pos_bits.specs.Bits.{bits, bits_of}
use Rattle.pos_bits.proofs.PiecesLemmas.{two-appended}
use Rattle.pos_bits.proofs.writer.append_wide.Goals as goal

pub append-rest-requires-clause-value_fits : goal.append-rest-requires-clause-value_fits
append-rest-requires-clause-value_fits c =
    let size : c.args.width ≡ (c.args.width - 64) + 64 = omega arith in
    shr_below c.args.value (c.args.width - 64) 64 (subst (λ k. c.args.value < 2 ^ k) size c.requires.value_fits)

pub returns-then-width-gt64-clause-bits : goal.returns-then-width-gt64-clause-bits
returns-then-width-gt64-clause-bits c =
    two-appended (bits_of c.args.bytes.now.items ++ bits c.args.rest c.args.fill) (bits_of c.append-rest.new.bytes.items ++ bits c.append-rest.result.0 c.append-rest.result.1)
    (bits_of c.append.new.bytes.items ++ bits c.append.result.0 c.append.result.1)
    c.args.value c.args.width (c.args.width - 64) 64 _ (omega (arith, c.if-width-gt64.true)) c.append-rest.ensures.bits (and_mask c.args.value 64) c.append.ensures.bits
