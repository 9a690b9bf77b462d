use Rattle.std.proofs.Common.{◌≡◌, ◌*◌, ◌%◌, take, length, refl, ap, ◌∙◌, arith, length-take}
use Rattle.pos_bits.specs.Bits.{bits_of}
use Rattle.pos_bits.proofs.BytesLemmas.{length-bits_of}
use Rattle.pos_bits.proofs.WindowLemmas.{front-more, window-front_lt}
use Rattle.pos_bits.proofs.string.BitString.from_bytes.Goals as goal

pub loop-at-init : goal.loop-at-init
unfolding bits_of
loop-at-init c = record { at_most = omega arith; whole_words = λ _. refl; string_is = c.empty-string.ensures }

pub push_within_word-requires-clause-value_fits : goal.push_within_word-requires-clause-value_fits
push_within_word-requires-clause-value_fits c = window-front_lt c.min-count.result c.bits_at_byte.result (omega arith) c.bits_at_byte.type_inv

pub push_within_word-requires-clause-room : goal.push_within_word-requires-clause-room
push_within_word-requires-clause-room c =
    let l : length c.loop-at.string ≡ 8 * length (take c.loop-at.at c.args.bytes.now) = ap length c.loop-at.invariant.string_is ∙ length-bits_of (take c.loop-at.at c.args.bytes.now) in
    omega (arith, length-take c.loop-at.at c.args.bytes.now)

pub push_within_word-requires-clause-within : goal.push_within_word-requires-clause-within
push_within_word-requires-clause-within c =
    let l : length c.loop-at.string ≡ 8 * length (take c.loop-at.at c.args.bytes.now) = ap length c.loop-at.invariant.string_is ∙ length-bits_of (take c.loop-at.at c.args.bytes.now) in
    let whole : c.loop-at.at % 8 ≡ 0 = c.loop-at.invariant.whole_words c.loop-at-test.true in
    omega (arith, length-take c.loop-at.at c.args.bytes.now)

pub loop-at-preserved : goal.loop-at-preserved
loop-at-preserved c = record {
  at_most = omega arith;
  whole_words = λ h. let whole : c.loop-at.at % 8 ≡ 0 = c.loop-at.invariant.whole_words c.loop-at-test.true in omega arith;
  string_is =
      front-more c.args.bytes.now c.loop-at.string c.push_within_word.new.self c.loop-at.at c.min-count.result c.bits_at_byte.result (omega arith) (omega arith)
      c.bits_at_byte.ensures c.loop-at.invariant.string_is c.push_within_word.ensures.bits;
}

pub returns-clause-len : goal.returns-clause-len
returns-clause-len c =
    let l : length c.loop-at.string ≡ 8 * length (take c.loop-at.at c.args.bytes.now) = ap length c.loop-at.invariant.string_is ∙ length-bits_of (take c.loop-at.at c.args.bytes.now) in
    omega (arith, length-take c.loop-at.at c.args.bytes.now)
