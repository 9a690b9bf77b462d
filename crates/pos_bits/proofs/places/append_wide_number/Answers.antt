use Rattle.std.proofs.Common.{◌+◌, ◌≡◌, ◌-◌, ◌/◌, ◌^◌, ◌<◌, ◌%◌, ◌++◌, take, refl, sym, subst, arith, append-nil, add-zero, div-one, pow_pos}
use Rattle.pos_bits.specs.Bits.{bits, bits_of}
use Rattle.pos_bits.proofs.BitsLemmas.{bits-none}
use Rattle.pos_bits.proofs.PlacesLemmas.{value-appended}
use Rattle.pos_bits.proofs.places.append_wide_number.Goals as goal

pub loop-left-init : goal.loop-left-init
loop-left-init c =
    let none : c.args.width - c.args.width ≡ 0 = omega arith in
    record {
      at_most = omega arith;
      len = refl;
      put = rw (none, add-zero c.args.at, bits-none (c.args.value / 2 ^ c.args.width), append-nil (take c.args.at (bits_of c.args.bytes.now))) refl;
    }

pub append_number-requires-clause-value_fits : goal.append_number-requires-clause-value_fits
append_number-requires-clause-value_fits c =
    let p : 0 < 2 ^ c.min-count.result = pow_pos c.min-count.result in
    let below : c.args.value / 2 ^ (c.loop-left.left - c.min-count.result) % 2 ^ c.min-count.result < 2 ^ c.min-count.result = omega arith in
    subst (λ (x : _). x < 2 ^ c.min-count.result) (sym c.top_bits-piece.ensures) below

pub loop-left-preserved : goal.loop-left-preserved
loop-left-preserved c = record {
  at_most = omega arith;
  len = omega arith;
  put =
      value-appended (bits_of c.args.bytes.now) (bits_of c.loop-left.bytes) (bits_of c.append_number.new.bytes) c.args.at c.args.value c.args.width c.loop-left.left c.min-count.result
      c.top_bits-piece.result (omega arith) (omega arith) c.loop-left.invariant.put c.top_bits-piece.ensures c.append_number.ensures.bits;
}

pub returns-clause-bits : goal.returns-clause-bits
returns-clause-bits c =
    let none : c.loop-left.left ≡ 0 = omega arith in
    let all : c.args.width - 0 ≡ c.args.width = omega arith in
    let last = c.loop-left.invariant.put in
    subst (λ n. take (c.args.at + n) (bits_of c.loop-left.bytes) ≡ take c.args.at (bits_of c.args.bytes.now) ++ bits c.args.value n) all
    (subst (λ (x : _). take (c.args.at + (c.args.width - 0)) (bits_of c.loop-left.bytes) ≡ take c.args.at (bits_of c.args.bytes.now) ++ bits x (c.args.width - 0)) (div-one c.args.value)
    (subst (λ n. take (c.args.at + (c.args.width - n)) (bits_of c.loop-left.bytes) ≡ take c.args.at (bits_of c.args.bytes.now) ++ bits (c.args.value / 2 ^ n) (c.args.width - n)) none last))
