use Rattle.std.proofs.Common.{◌≡◌, ◌-◌, ◌^◌, ◌+◌, ◌<◌, subst, arith}
use Rattle.std.proofs.lemmas.Nat.{and_mask, shr_below}
use Rattle.pos_bits.proofs.PiecesLemmas.{none-put, two-appended}
use Rattle.pos_bits.proofs.string.BitString.push.Goals as goal

pub push_word-requires-clause-value_fits : goal.push_word-requires-clause-value_fits
push_word-requires-clause-value_fits c =
    let size : c.args.width ≡ (c.args.width - 64) + 64 = omega arith in
    shr_below c.args.value (c.args.width - 64) 64 (subst (λ k. c.args.value < 2 ^ k) size c.requires.value_fits)

pub returns-then-width-gt64-clause-bits : goal.returns-then-width-gt64-clause-bits
returns-then-width-gt64-clause-bits c =
    two-appended c.args.self.now c.push_word.new.self c.push_word-then-width-gt64.new.self c.args.value c.args.width (c.args.width - 64) 64 _ (omega arith)
    c.push_word.ensures.bits (and_mask c.args.value 64) c.push_word-then-width-gt64.ensures.bits

pub returns-else-width-gt0-clause-bits : goal.returns-else-width-gt0-clause-bits
returns-else-width-gt0-clause-bits c = none-put c.args.self.now c.args.value c.args.width (omega arith)
